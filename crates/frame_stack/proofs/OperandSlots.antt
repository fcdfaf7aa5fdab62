-- Slots that hold operands.
use Rattle.std.proofs.Common.{◌≡◌, ℕ, zero, suc, ◌+◌, ◌-◌, ◌≤◌, List, [], ◌∷◌, ◌++◌, length, take, drop, refl, sym, ap, ◌∙◌, arith}
use Rattle.std.specs.Prelude.{reverse, slice_get, Option, Some, None}
use Rattle.std.proofs.lemmas.List.{reverse-append, length-drop, drop-take}
use Rattle.jf_bytes.proofs.Reversed.{drop-reverse}
use Rattle.heap_objects.specs.declared.Value.{Value}
use Rattle.heap_objects.specs.declared.Value.TheVariants.{Int, Long, Ref, Addr}
use Rattle.frame_stack.specs.Widths.{width, height_of, slots_of}
use Rattle.frame_stack.specs.Cuts.{operands_of, AreOperands}

-- the slots with a value more on top
pub reverse-put : (slots : List (Option Value)) (v : Value) → reverse (slots ++ slots_of v) ≡ reverse (slots_of v) ++ reverse slots
reverse-put slots v = reverse-append slots (slots_of v)

put-above : (v : Value) (above : List (Option Value)) → operands_of (reverse (slots_of v) ++ above) ≡ v ∷ operands_of above
put-above (Int n) above = refl
put-above (Long n) above = refl
put-above (Ref n) above = refl
put-above (Addr n) above = refl

are-above : (v : Value) (above : List (Option Value)) → AreOperands above → AreOperands (reverse (slots_of v) ++ above)
are-above (Int n) above h = (refl, h)
are-above (Long n) above h = (refl, h)
are-above (Ref n) above h = (refl, h)
are-above (Addr n) above h = (refl, h)

pub operands-put : (slots : List (Option Value)) (v : Value) → operands_of (reverse (slots ++ slots_of v)) ≡ v ∷ operands_of (reverse slots)
operands-put slots v = rw (reverse-put slots v) (put-above v (reverse slots))

pub are-put : (slots : List (Option Value)) (v : Value) → AreOperands (reverse slots) → AreOperands (reverse (slots ++ slots_of v))
are-put slots v h = rw (reverse-put slots v) (are-above v (reverse slots) h)

pub length-slots_of : (v : Value) → length (slots_of v) ≡ width v
length-slots_of (Int n) = refl
length-slots_of (Long n) = refl
length-slots_of (Ref n) = refl
length-slots_of (Addr n) = refl

-- operands are as high as their slots
pub height-is : (slots : List (Option Value)) → AreOperands slots → height_of (operands_of slots) ≡ length slots
height-is [] h = refl
height-is (Some v ∷ slots) h = rw h.0 (omega (arith, height-is slots h.1))
height-is (None ∷ []) h = absurd h
height-is (None ∷ Some v ∷ slots) h = rw h.0 (omega (arith, height-is slots h.1))
height-is (None ∷ None ∷ slots) h = absurd h

-- ---- so many operands fewer

-- the slots of the topmost `count` operands are so many, and below them stand the others
pub record AreBelow (count k : ℕ) (slots : List (Option Value)) : Type 0 where
  pub within : k ≤ length slots
  pub are : AreOperands (drop k slots)
  pub operands : operands_of (drop k slots) ≡ drop count (operands_of slots)

more-below : (count k : ℕ) (x : Option Value) (slots : List (Option Value)) → (v : Value) → operands_of (x ∷ slots) ≡ v ∷ operands_of slots
    → AreBelow count k slots → AreBelow (suc count) (suc k) (x ∷ slots)
more-below count k x slots v e b = record {
  within = omega (arith, b.within);
  are = b.are;
  operands = b.operands ∙ sym (ap (drop (suc count)) e);
}

more-below-long : (count k : ℕ) (v : Value) (slots : List (Option Value)) → AreBelow count k slots → AreBelow (suc count) (suc (suc k)) (None ∷ Some v ∷ slots)
more-below-long count k v slots b = record {
  within = omega (arith, b.within);
  are = b.are;
  operands = b.operands;
}

pub below-is : (count k : ℕ) (slots : List (Option Value)) → AreOperands slots → k ≡ height_of (take count (operands_of slots)) → AreBelow count k slots
below-is zero k slots h e = rw e (record { within = omega arith; are = h; operands = refl })
below-is (suc count) k [] h e = rw e (record { within = omega arith; are = tt; operands = refl })
below-is (suc count) k (Some v ∷ slots) h e =
    let k' : ℕ = height_of (take count (operands_of slots)) in
    let one : width v ≡ 1 = rw h.0 refl in
    let at : k ≡ suc k' = omega (arith, e, one) in
    rw at (more-below count k' (Some v) slots v refl (below-is count k' slots h.1 refl))
below-is (suc count) k (None ∷ []) h e = absurd h
below-is (suc count) k (None ∷ Some v ∷ slots) h e =
    let k' : ℕ = height_of (take count (operands_of slots)) in
    let two : width v ≡ 2 = rw h.0 refl in
    let at : k ≡ suc (suc k') = omega (arith, e, two) in
    rw at (more-below-long count k' v slots (below-is count k' slots h.1 refl))
below-is (suc count) k (None ∷ None ∷ slots) h e = absurd h

-- slots that are cut back by so many
pub reverse-drop-take : (low k : ℕ) (slots : List (Option Value)) → low + k ≤ length slots
    → reverse (drop low (take (length slots - k) slots)) ≡ drop k (reverse (drop low slots))
reverse-drop-take low k slots le =
    let m : ℕ = length slots - k - low in
    let at : length slots - k ≡ low + m = omega arith in
    let same : m ≡ length (drop low slots) - k = omega (arith, length-drop low slots) in
    let fits : k ≤ length (drop low slots) = omega (arith, length-drop low slots) in
    ap (λ n. reverse (drop low (take n slots))) at
    ∙ (ap reverse (drop-take low m slots)
    ∙ (ap (λ n. reverse (take n (drop low slots))) same
    ∙ sym (drop-reverse (drop low slots) k fits)))

-- the topmost value's width
pub top-width : (values : List Value) (v : Value) → Some v ≡ slice_get values 0 → width v ≡ height_of (take 1 values)
top-width [] v e = absurd (none-some v e)
  where
    none-some : (v : Value) → Some v ≡ None → ⊥
    none-some v e = cc
top-width (w ∷ values) v e = omega (arith, ap width (same v w e))
  where
    same : (v w : Value) → Some v ≡ Some w → v ≡ w
    same v w e = cc
