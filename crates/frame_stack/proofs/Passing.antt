-- The loop that passes operands from the top.
use Rattle.std.proofs.Common.{◌≡◌, ℕ, zero, suc, ◌+◌, ◌-◌, ◌≤◌, List, [], ◌∷◌, length, take, drop, refl, sym, ap, subst, ◌∙◌, arith}
use Rattle.std.specs.Prelude.{reverse, slice_get, Option, Some, None}
use Rattle.std.proofs.lemmas.List.{length-drop, length-reverse}
use Rattle.heap_objects.specs.declared.Value.{Value}
use Rattle.frame_stack.specs.Widths.{width, height_of}
use Rattle.frame_stack.specs.Cuts.{operands_of, AreOperands}
use Rattle.frame_stack.proofs.OperandSlots.{AreBelow, below-is, reverse-drop-take}

-- the operands of slots from `low` on
abbrev pub operands_from : ℕ → List (Option Value) → List Value
operands_from low slots = operands_of (reverse (drop low slots))

-- so many were passed, and the others end here
pub record HasPassed (low end count : ℕ) (slots : List (Option Value)) : Type 0 where
  pub at : end + height_of (take count (operands_from low slots)) ≡ length slots
  pub there : count ≤ length (operands_from low slots)

pub record ArePassed (low end count : ℕ) (slots : List (Option Value)) : Type 0 where
  pub within : end ≤ length slots
  pub above : low ≤ end
  pub are : AreOperands (reverse (drop low (take end slots)))
  pub operands : operands_from low (take end slots) ≡ drop count (operands_from low slots)

pub are-passed : (low end count : ℕ) (slots : List (Option Value)) → low ≤ length slots → AreOperands (reverse (drop low slots))
    → end + height_of (take count (operands_from low slots)) ≡ length slots → ArePassed low end count slots
are-passed low end count slots le are at =
    let k : ℕ = height_of (take count (operands_from low slots)) in
    let below : AreBelow count k (reverse (drop low slots)) = below-is count k (reverse (drop low slots)) are refl in
    let whole : low + k ≤ length slots = omega (arith, below.within, length-reverse (drop low slots), length-drop low slots) in
    let back : reverse (drop low (take (length slots - k) slots)) ≡ drop k (reverse (drop low slots)) = reverse-drop-take low k slots whole in
    let ends : end ≡ length slots - k = omega arith in
    record {
      within = omega arith;
      above = omega arith;
      are = rw ends (subst AreOperands (sym back) below.are);
      operands = ap (λ n. operands_from low (take n slots)) ends ∙ (ap operands_of back ∙ below.operands);
    }

pub get-drop : (values : List Value) (count : ℕ) → slice_get (drop count values) 0 ≡ slice_get values count
get-drop [] zero = refl
get-drop [] (suc count) = refl
get-drop (v ∷ values) zero = refl
get-drop (v ∷ values) (suc count) = get-drop values count

pub get-none : (values : List Value) (count : ℕ) → slice_get values count ≡ None → length values ≤ count
get-none [] count e = omega arith
get-none (v ∷ values) zero e = absurd (some-none v e)
  where
    some-none : (v : Value) → Some v ≡ None → ⊥
    some-none v e = cc
get-none (v ∷ values) (suc count) e = omega (arith, get-none values count e)

pub get-past : (values : List Value) (count : ℕ) → length values ≤ count → slice_get values count ≡ None
get-past [] count le = refl
get-past (v ∷ values) zero le = absurd (omega arith)
get-past (v ∷ values) (suc count) le = get-past values count (omega arith)

-- one more
pub height-more : (values : List Value) (count : ℕ) (v : Value) → slice_get values count ≡ Some v
    → (height_of (take (count + 1) values) ≡ height_of (take count values) + width v) × (count + 1 ≤ length values)
height-more [] count v e = absurd (none-some v e)
  where
    none-some : (v : Value) → None ≡ Some v → ⊥
    none-some v e = cc
height-more (w ∷ values) zero v e = (omega (arith, ap width (same v w e)), omega arith)
  where
    same : (v w : Value) → Some w ≡ Some v → v ≡ w
    same v w e = cc
height-more (w ∷ values) (suc count) v e =
    let at : suc count + 1 ≡ suc (count + 1) = omega arith in
    let more = height-more values count v e in
    (rw at (omega (arith, more.0)), omega (arith, more.1))

pub record OneMore (low end count : ℕ) (slots : List (Option Value)) (v : Value) : Type 0 where
  pub fits : width v ≤ end
  pub passed : HasPassed low (end - width v) (count + 1) slots

pub one-more : (low end count : ℕ) (slots : List (Option Value)) (v : Value) → low ≤ length slots → AreOperands (reverse (drop low slots))
    → HasPassed low end count slots → slice_get (operands_from low (take end slots)) 0 ≡ Some v → OneMore low end count slots v
one-more low end count slots v le are h e =
    let ops = operands_from low slots in
    let p : ArePassed low end count slots = are-passed low end count slots le are h.at in
    let got : slice_get ops count ≡ Some v = sym (get-drop ops count) ∙ (ap (λ vs. slice_get vs 0) (sym p.operands) ∙ e) in
    let more : (height_of (take (count + 1) ops) ≡ height_of (take count ops) + width v) × (count + 1 ≤ length ops) = height-more ops count v got in
    let below : AreBelow (count + 1) (height_of (take (count + 1) ops)) (reverse (drop low slots)) = below-is (count + 1) _ (reverse (drop low slots)) are refl in
    let fits : width v ≤ end = omega (arith, below.within, length-reverse (drop low slots), length-drop low slots, h.at, more.0) in
    record { fits = fits; passed = record { at = omega (arith, h.at, more.0, fits); there = more.1 } }

-- the topmost of those that are left, where there is none
pub none-left : (low end count : ℕ) (slots : List (Option Value)) → low ≤ length slots → AreOperands (reverse (drop low slots))
    → HasPassed low end count slots → slice_get (operands_from low (take end slots)) 0 ≡ None → length (operands_from low slots) ≤ count
none-left low end count slots le are h e =
    let ops = operands_from low slots in
    let p : ArePassed low end count slots = are-passed low end count slots le are h.at in
    get-none ops count (sym (get-drop ops count) ∙ (ap (λ vs. slice_get vs 0) (sym p.operands) ∙ e))
