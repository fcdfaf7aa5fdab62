-- Flags of methods, where one is set and where room is made.
use Rattle.std.proofs.Common.{◌≡◌, ℕ, zero, suc, ◌<◌, Bool, true, false, List, [], ◌∷◌, ◌++◌, length, ap, sym, refl, ◌∙◌}
use Rattle.std.specs.Prelude.{Option, not, replicate, slice_set, unwrap_or, ◌==◌, ◌&&◌, ◌||◌, if◌then◌else◌}
use Rattle.std.proofs.lemmas.Bool.{eqb-true}
use Rattle.jf_bytes.proofs.Lists.{slice_get-set_same}
use Rattle.jvm_model.specs.Classes.Load.{is_among}
use Rattle.jvm_model.specs.Profiling.Revealed.{without_method}
use Rattle.possible_callees.specs.Tables.{IsPadded}
use Rattle.possible_callees.proofs.Numbers.Adding.{among-filter}
use Rattle.possible_callees.proofs.Numbers.TableLemmas.{set-other}
use Rattle.call_revelation.specs.Flags.{AreFlagged, flag_at}

-- ---- flags

pub no-flag : (n m : ℕ) → flag_at (replicate n false) m ≡ false
no-flag zero m = refl
no-flag (suc n) zero = refl
no-flag (suc n) (suc m) = no-flag n m

flag-padded : (flags : List Bool) (n m : ℕ) → flag_at (flags ++ replicate n false) m ≡ flag_at flags m
flag-padded [] n m = no-flag n m
flag-padded (flag ∷ flags) n zero = refl
flag-padded (flag ∷ flags) n (suc m) = flag-padded flags n m

pub flagged-padded : (before after : List Bool) (methods : List ℕ) → IsPadded false before after → AreFlagged before methods → AreFlagged after methods
flagged-padded before after methods padded are m =
    ap (λ l. flag_at l m) padded.is ∙ (flag-padded before padded.count m ∙ are m)

among-others : (method m : ℕ) (methods : List ℕ) → is_among m (without_method method methods) ≡ (if m == method then false else is_among m methods)
among-others method m methods = among-filter (λ x. not (x == method)) methods m ∙ by (is_among m methods) (m == method)
  where
    by : (a b : Bool) → (a && not b) ≡ (if b then false else a)
    by true true = refl
    by true false = refl
    by false true = refl
    by false false = refl

pub flagged-more : (flags : List Bool) (methods : List ℕ) (method : ℕ) → AreFlagged flags methods → method < length flags
    → AreFlagged (slice_set flags method true) (method ∷ without_method method methods)
flagged-more flags methods method are within m = by (m == method) refl
  where
    by : (b : Bool) → (m == method) ≡ b → flag_at (slice_set flags method true) m ≡ (b || is_among m (without_method method methods))
    by true e = ap (flag_at (slice_set flags method true)) (eqb-true m method e) ∙ ap (λ (o : Option Bool). unwrap_or o false) (slice_get-set_same flags method true within)
    by false e =
        ap (λ (o : Option Bool). unwrap_or o false) (set-other flags method m true e)
        ∙ (are m ∙ sym (among-others method m methods ∙ ap (λ b. if b then false else is_among m methods) e))

pub flagged-less : (flags : List Bool) (methods : List ℕ) (method : ℕ) → AreFlagged flags methods
    → AreFlagged (slice_set flags method false) (without_method method methods)
flagged-less flags methods method are m = by (m == method) refl
  where
    off : (xs : List Bool) (k : ℕ) → flag_at (slice_set xs k false) k ≡ false
    off [] k = refl
    off (x ∷ xs) zero = refl
    off (x ∷ xs) (suc k) = off xs k

    by : (b : Bool) → (m == method) ≡ b → flag_at (slice_set flags method false) m ≡ is_among m (without_method method methods)
    by true e =
        ap (flag_at (slice_set flags method false)) (eqb-true m method e)
        ∙ (off flags method ∙ sym (among-others method m methods ∙ ap (λ b. if b then false else is_among m methods) e))
    by false e =
        ap (λ (o : Option Bool). unwrap_or o false) (set-other flags method m false e)
        ∙ (are m ∙ sym (among-others method m methods ∙ ap (λ b. if b then false else is_among m methods) e))
