-- Where the top frame's operands begin.
use Rattle.std.proofs.Common.{◌≡◌, ℕ, ◌-◌, ◌≤◌, Bool, true, false, List, length, take, drop, refl, ap, subst, arith}
use Rattle.std.specs.Prelude.{reverse, nat_le, if◌then◌else◌, Option, Some, None}
use Rattle.std.proofs.lemmas.List.{length-drop, length-reverse}
use Rattle.std.proofs.lemmas.Bool.{leb-true}
use Rattle.heap_objects.specs.declared.Value.{Value}
use Rattle.frame_stack.specs.declared.entry.Entry.{Entry}
use Rattle.frame_stack.specs.Widths.{height_of}
use Rattle.frame_stack.specs.FrameLists.{top_operands}
use Rattle.frame_stack.specs.Cuts.{operands_of, AreOperands, frames_of, AreFrames, entries_in, top_floor}
use Rattle.frame_stack.proofs.OperandSlots.{AreBelow, below-is}
use Rattle.frame_stack.proofs.CutBack.{operand-slots-is, length-operand-slots}
use Rattle.frame_stack.proofs.Passing.{operands_from, HasPassed}

pub record HasFloor (low : ℕ) (slots : List (Option Value)) (operands : List Value) : Type 0 where
  pub within : low ≤ length slots
  pub are : AreOperands (reverse (drop low slots))
  pub seen : operands ≡ operands_from low slots

pub has-floor : (top : Option Entry) (below : List Entry) (capacity : ℕ) (slots : List (Option Value)) → AreFrames capacity (entries_in top below) slots
    → HasFloor (top_floor top) slots (top_operands (frames_of (entries_in top below) slots))
has-floor None below capacity slots h =
    rw h (record { within = omega arith; are = tt; seen = refl })
has-floor (Some e) below capacity slots h = record {
  within = omega (arith, length-operand-slots capacity e (reverse below) slots h);
  are = subst AreOperands (operand-slots-is e slots) h.1.operands;
  seen = ap operands_of (operand-slots-is e slots);
}

pub has-passed : (low end count : ℕ) (slots : List (Option Value)) → low ≤ length slots → AreOperands (reverse (drop low slots))
    → Some end ≡ (if nat_le count (length (operands_from low slots)) then Some (length slots - height_of (take count (operands_from low slots))) else None)
    → HasPassed low end count slots
has-passed low end count slots le are e =
    let ops = operands_from low slots in
    let k : ℕ = height_of (take count ops) in
    let b : AreBelow count k (reverse (drop low slots)) = below-is count k (reverse (drop low slots)) are refl in
    let told : (count ≤ length ops) × (end ≡ length slots - k) = tells (nat_le count (length ops)) end (length slots - k) count (length ops) refl e in
    record { at = omega (arith, told.1, b.within, length-reverse (drop low slots), length-drop low slots); there = told.0 }
  where
    same : (m n : ℕ) → Some m ≡ Some n → m ≡ n
    same m n e = cc

    none : (m : ℕ) → Some m ≡ None → ⊥
    none m e = cc

    tells : (b : Bool) (end m count n : ℕ) → nat_le count n ≡ b → Some end ≡ (if b then Some m else None) → (count ≤ n) × (end ≡ m)
    tells true end m count n t e = (leb-true count n t, same end m e)
    tells false end m count n t e = absurd (none end e)
