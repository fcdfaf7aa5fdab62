-- How many frames run a version.
use Rattle.std.proofs.Common.{◌≡◌, ℕ, zero, suc, ◌+◌, ◌<◌, ◌≤◌, Bool, true, false, List, [], ◌∷◌, ◌++◌, length, take, drop, refl, sym, ap, ◌∙◌, arith, get_or}
use Rattle.std.specs.Option.{option_to_list}
use Rattle.std.specs.Prelude.{reverse, count_by, Option, Some, None, if◌then◌else◌, cond, ◌==◌}
use Rattle.std.proofs.lemmas.List.{reverse-append}
use Rattle.std.proofs.lemmas.List.Sums.{sum_by-cons, sum_by-append, count_by-le-length}
use Rattle.heap_objects.specs.declared.Value.{Value}
use Rattle.frame_stack.specs.declared.entry.Entry.{Entry}
use Rattle.frame_stack.specs.FrameLists.{PlacedFrame, pins_of}
use Rattle.frame_stack.specs.Cuts.{frame_of, frames_of, entries_in, with_below, IsBottom}
use Rattle.frame_stack.specs.Pins.{runs, pins_of_top, HasCounter, AreCounted}

-- what is counted has a counter
pub has-counter : (counters : List ℕ) (top : Option Entry) → ((version : ℕ) → pins_of_top version top ≤ get_or counters version 0) → HasCounter counters top
has-counter counters None h = tt
has-counter counters (Some e) h = within counters e.version (one (get_or counters e.version 0) (e.version == e.version) (same e.version) (h e.version))
  where
    within : (counters : List ℕ) (k : ℕ) → 0 < get_or counters k 0 → k < length counters
    within [] k h = absurd (omega arith)
    within (c ∷ counters) zero h = omega arith
    within (c ∷ counters) (suc k) h = omega (arith, within counters k h)

    same : (k : ℕ) → (k == k) ≡ true
    same k = grind arith

    one : (n : ℕ) (b : Bool) → b ≡ true → (if b then 1 else 0) ≤ n → 0 < n
    one n true e h = omega (arith, h)
    one n false e h = absurd (no e)
      where
        no : false ≡ true → ⊥
        no e = cc

count-cons : {X : Type 0} (p : X → Bool) (x : X) (xs : List X) → count_by p (x ∷ xs) ≡ (if p x then 1 else 0) + count_by p xs
count-cons p x xs = sum_by-cons (λ y. cond (p y) 1 0) x xs

count-append : {X : Type 0} (p : X → Bool) (xs ys : List X) → count_by p (xs ++ ys) ≡ count_by p xs + count_by p ys
count-append p xs ys = sum_by-append (λ y. cond (p y) 1 0) xs ys

count-reverse : {X : Type 0} (p : X → Bool) (xs : List X) → count_by p (reverse xs) ≡ count_by p xs
count-reverse p [] = refl
count-reverse p (x ∷ xs) =
    ap (count_by p) (reverse-append (x ∷ []) xs) ∙ omega (arith, count-append p (reverse xs) (x ∷ []), count-reverse p xs, count-cons p x xs, count-cons p x [])

-- the frames run the versions of their entries
count-frames : (version : ℕ) (es : List Entry) (slots : List (Option Value)) → pins_of version (frames_of es slots) ≡ count_by (runs version) es
count-frames version [] slots = refl
count-frames version (e ∷ es) slots =
    count-cons (λ (f : PlacedFrame). f.version == version) (frame_of e (drop e.base slots)) (frames_of es (take e.base slots))
    ∙ (ap (λ n. (if runs version e then 1 else 0) + n) (count-frames version es (take e.base slots)) ∙ sym (count-cons (runs version) e es))

-- of all frames, by the counters of those below
pub pins-are : (version : ℕ) (counters : List ℕ) (top : Option Entry) (below : List Entry) (spare : Option ℕ) (slots : List (Option Value))
    → AreCounted counters top below spare → IsBottom top below
    → pins_of version (frames_of (entries_in top below) slots) ≡ pins_of_top version top + get_or counters version 0
pins-are version counters None below spare slots h bottom =
    omega (arith, h.counts version, ap (count_by (runs version)) bottom)
pins-are version counters (Some e) below spare slots h bottom =
    omega (arith, count-frames version (e ∷ reverse below) slots, count-cons (runs version) e (reverse below), count-reverse (runs version) below, h.counts version)

pub few-counted : (version : ℕ) (counters : List ℕ) (top : Option Entry) (below : List Entry) (spare : Option ℕ)
    → AreCounted counters top below spare → length below < 4294967295 → get_or counters version 0 < 4294967295
few-counted version counters top below spare h few = omega (arith, h.counts version, count_by-le-length (runs version) below)

-- another frame begins above the top one
pub counted-more : (version : ℕ) (top : Option Entry) (below : List Entry)
    → count_by (runs version) (with_below top below) ≡ count_by (runs version) below + pins_of_top version top
counted-more version None below = omega arith
counted-more version (Some e) below =
    omega (arith, count-append (runs version) below (e ∷ []), count-cons (runs version) e [])

-- the frame that is on top now was counted
pub popped-counter : (counters : List ℕ) (former : Option Entry) (below rest : List Entry) (top : Option Entry) (spare : Option ℕ)
    → AreCounted counters former below spare → below ≡ rest ++ option_to_list top → HasCounter counters top
popped-counter counters former below rest top spare h e = has-counter counters top (λ version. counted version top e)
  where
    counted : (version : ℕ) (top : Option Entry) → below ≡ rest ++ option_to_list top → pins_of_top version top ≤ get_or counters version 0
    counted version None e = omega arith
    counted version (Some t) e =
        omega (arith, h.counts version, ap (count_by (runs version)) e, count-append (runs version) rest (t ∷ []), count-cons (runs version) t [])

-- a frame begins above the top one
pub counted-begun : (counters new : List ℕ) (top next : Option Entry) (below : List Entry) (spare : Option ℕ)
    → AreCounted counters top below spare → ((version : ℕ) → get_or new version 0 ≡ get_or counters version 0 + pins_of_top version top)
    → AreCounted new next (with_below top below) None
counted-begun counters new top next below spare h more = record {
  counts = λ version. omega (arith, more version, h.counts version, counted-more version top below);
  next = tt;
}

-- there is a counter more
pub counted-ready : (counters new : List ℕ) (top : Option Entry) (below : List Entry) (spare : Option ℕ) (n : ℕ)
    → AreCounted counters top below spare → ((version : ℕ) → get_or new version 0 ≡ get_or counters version 0) → HasCounter new top
    → AreCounted new top below (Some n)
counted-ready counters new top below spare n h same counter = record { counts = λ version. same version ∙ h.counts version; next = counter }
