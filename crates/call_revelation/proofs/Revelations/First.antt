-- A revelation of which nothing is selected, entered or loaded.
use Rattle.std.proofs.Common.{◌≡◌, ℕ, zero, suc, ◌+◌, ◌<◌, ◌≤◌, Bool, true, false, List, [], ◌∷◌, length, ap, sym, subst, refl, ◌∙◌, arith}
use Rattle.std.specs.Prelude.{Option, Some, None, is_some, replicate, slice_get, ◌==◌, if◌then◌else◌}
use Rattle.std.specs.List.{AllByRecursion}
use Rattle.std.specs.Option.{option_map_or}
use Rattle.std.proofs.lemmas.Bool.{false≢true, or_left, or_right}
use Rattle.std.proofs.lemmas.Option.{none-some, same_Some}
use Rattle.jf_bytes.proofs.Lists.{each_append, each_at}
use Rattle.jf_bytes.proofs.Tests.{equals_itself}
use Rattle.const_pool.specs.declared.class.ClassFile.{ClassFile}
use Rattle.const_pool.specs.declared.class.Member.{Member}
use Rattle.jvm_model.specs.declared.event.Mark.TheVariants.{Off}
use Rattle.jvm_model.specs.declared.program.MethodPlace.{MethodPlace}
use Rattle.jvm_model.specs.declared.program.Program.{Program}
use Rattle.jvm_model.specs.Classes.Load.{is_among}
use Rattle.jvm_model.specs.Basis.Methods.{code_of}
use Rattle.jvm_model.specs.Profiling.Points.{is_target}
use Rattle.jvm_model.specs.Basis.Programs.{coded_from, methods_numbered, numbered_from, place_of_method}
use Rattle.jvm_model.specs.Profiling.Revealed.{mark_of}
use Rattle.jvm_model.specs.Soundness.Sound.{IsFit}
use Rattle.jvm_model.specs.Profiling.Targets.{operations_of}
use Rattle.jvm_model.proofs.Loading.Among.{among-append}
use Rattle.member_selection.specs.Numbers.{AreNumbers}
use Rattle.prepared_code.specs.Prepared.{HasShortCodes}
use Rattle.possible_callees.specs.Lineages.{IsLineage}
use Rattle.possible_callees.specs.Tables.{list_at, with_item}
use Rattle.possible_callees.proofs.Classes.LineageLemmas.{item-kept}
use Rattle.possible_callees.proofs.Numbers.TableLemmas.{at-same, length-with}
use Rattle.call_revelation.specs.declared.reveal.Reveal.{Reveal}
use Rattle.call_revelation.specs.Books.{IsBookOf}
use Rattle.call_revelation.specs.CalledClasses.{AreHanded}
use Rattle.call_revelation.specs.Flags.{flag_at}
use Rattle.call_revelation.specs.Reveals.{AreOwned, IsRevelation, mark_at, mark_by, now_of, nothing_revealed, owned_from}
use Rattle.call_revelation.proofs.Revelations.FlagLemmas.{no-flag}

-- ---- methods stand in classes of the program

abbrev IsWithin : ℕ → MethodPlace → Type 0
IsWithin n place = place.class < n

coded-within : (n class at : ℕ) (ms : List Member) → class < n → AllByRecursion (IsWithin n) (coded_from class at ms)
coded-within n class at [] within = tt
coded-within n class at (m ∷ ms) within = by (is_some (code_of m)) (coded-within n class (at + 1) ms within)
  where
    by : (b : Bool) → AllByRecursion (IsWithin n) (coded_from class (at + 1) ms)
        → AllByRecursion (IsWithin n) (if b then record { class = class; position = at } ∷ coded_from class (at + 1) ms else coded_from class (at + 1) ms)
    by true rest = (within, rest)
    by false rest = rest

numbered-within : (n class : ℕ) (cs : List ClassFile) → class + length cs ≤ n → AllByRecursion (IsWithin n) (numbered_from class cs)
numbered-within n class [] within = tt
numbered-within n class (c ∷ cs) within =
    each_append (IsWithin n) (coded_from class 0 c.methods) (numbered_from (class + 1) cs) (coded-within n class 0 c.methods (omega (arith, within)))
    (numbered-within n (class + 1) cs (omega (arith, within)))

pub place-within : (p : Program) → p.methods ≡ methods_numbered p.classes → (m : ℕ) (place : MethodPlace) → place_of_method p m ≡ Some place → place.class < length p.classes
place-within p is m place e =
    each_at (IsWithin (length p.classes)) p.methods m place
    (subst (AllByRecursion (IsWithin (length p.classes))) (sym is) (numbered-within (length p.classes) 0 p.classes (omega arith))) e

-- ---- the methods of each class

owned-kept : (n : ℕ) (ms : List MethodPlace) (lists : List (List ℕ)) (m class : ℕ) → is_among m (list_at lists class) ≡ true
    → is_among m (list_at (owned_from n ms lists) class) ≡ true
owned-kept n [] lists m class h = h
owned-kept n (place ∷ ms) lists m class h =
    owned-kept (n + 1) ms (with_item place.class n lists) m class (item-kept n place.class class m lists h)

owned-there : (n : ℕ) (ms : List MethodPlace) (lists : List (List ℕ)) (i m : ℕ) (place : MethodPlace) → slice_get ms i ≡ Some place → m ≡ n + i
    → place.class < length lists → is_among m (list_at (owned_from n ms lists) place.class) ≡ true
owned-there n [] lists i m place e is within = absurd (none-some place e)
owned-there n (x ∷ ms) lists zero m place e is within =
    let same : x.class ≡ place.class = ap (λ (y : MethodPlace). y.class) (same_Some x place e) in
    owned-kept (n + 1) ms (with_item x.class n lists) m place.class
    (ap (λ c. is_among m (list_at (with_item c n lists) place.class)) same
    ∙ (ap (is_among m) (at-same n place.class lists within)
    ∙ (among-append m (list_at lists place.class) (n ∷ [])
    ∙ or_right (is_among m (list_at lists place.class)) (is_among m (n ∷ [])) (or_left (m == n) false (ap (λ k. k == n) (let z : m ≡ n = omega (arith, is) in z) ∙ equals_itself n)))))
owned-there n (x ∷ ms) lists (suc i) m place e is within =
    owned-there (n + 1) ms (with_item x.class n lists) i m place e (omega (arith, is)) (subst (λ k. place.class < k) (sym (length-with n x.class lists)) within)

replicate-length : {A : Type 0} (n : ℕ) (x : A) → length (replicate n x) ≡ n
replicate-length zero x = refl
replicate-length (suc n) x = ap suc (replicate-length n x)

pub all-owned : (p : Program) → p.methods ≡ methods_numbered p.classes → (own : List (List ℕ)) → own ≡ owned_from 0 p.methods (replicate (length p.classes) []) → AreOwned p own
all-owned p is own e m place there =
    ap (λ l. is_among m (list_at l place.class)) e
    ∙ owned-there 0 p.methods (replicate (length p.classes) []) m m place there (omega arith)
    (subst (λ n. place.class < n) (sym (replicate-length {A = List ℕ} (length p.classes) [])) (place-within p is m place there))

-- ---- nothing is entered or marked

no-mark : (n m : ℕ) → mark_at (replicate n Off) m ≡ Off
no-mark zero m = refl
no-mark (suc n) zero = refl
no-mark (suc n) (suc m) = no-mark n m

unmarked : (p : Program) (m : ℕ) → mark_of p nothing_revealed m ≡ Off
unmarked p m = by (place_of_method p m)
  where
    by : (o : Option MethodPlace) → mark_by (option_map_or (λ (place : MethodPlace). is_among place.class []) o false) false (is_target p (operations_of p) [] [] m) ≡ Off
    by None = refl
    by (Some place) = refl

pub record IsEmpty (p : Program) (r : Reveal) : Type 0 where
  pub own : r.own.items ≡ owned_from 0 p.methods (replicate (length p.classes) [])
  pub loaded : r.lineage.loaded ≡ []
  pub selected : r.selected ≡ []
  pub entered : r.entered ≡ []
  pub flags : r.flags ≡ replicate (length p.methods) false
  pub targets : r.targets ≡ []
  pub shown : r.shown ≡ replicate (length p.methods) Off

pub first-revelation : (p : Program) (r : Reveal) → p.methods ≡ methods_numbered p.classes → IsFit p → AllByRecursion HasShortCodes p.classes → AreNumbers p r.numbers
    → IsLineage p r.lineage → IsBookOf p r.book → AreHanded p r.lineage.loaded r.named → IsEmpty p r → IsRevelation p r
first-revelation p r is fit short numbers lineage book named empty = record {
  kept = record {
    fit = fit;
    short = short;
    numbers = numbers;
    own = all-owned p is r.own.items empty.own;
    lineage = lineage;
    book = book;
    flags = λ m. ap (λ l. flag_at l m) empty.flags ∙ (no-flag (length p.methods) m ∙ sym (ap (is_among m) empty.entered));
    flagged = ap length empty.flags ∙ replicate-length (length p.methods) false;
    marked = ap length empty.shown ∙ replicate-length (length p.methods) Off;
    booked = λ m h. absurd (false≢true (sym (ap (is_among m) empty.entered) ∙ h));
    callers = λ m h. absurd (false≢true (sym (ap (is_among m) empty.entered) ∙ h));
    named = named;
    called = λ m h. absurd (false≢true (sym (ap (is_among m) empty.entered) ∙ h));
  };
  targets = λ m.
      ap (is_among m) empty.targets ∙ sym (ap (λ l. is_target p (operations_of p) r.lineage.loaded l m) empty.entered);
  shown = λ m none.
      ap (λ l. mark_at l m) empty.shown
      ∙ (no-mark (length p.methods) m ∙ (sym (unmarked p m) ∙ sym (now-empty m)));
}
  where
    now-empty : (m : ℕ) → mark_of p (now_of r) m ≡ mark_of p nothing_revealed m
    now-empty m =
        ap (λ l. mark_of p (record { selected = r.selected; entered = r.entered; loaded = l }) m) empty.loaded
        ∙ (ap (λ l. mark_of p (record { selected = r.selected; entered = l; loaded = [] }) m) empty.entered
        ∙ ap (λ l. mark_of p (record { selected = l; entered = []; loaded = [] }) m) empty.selected)
