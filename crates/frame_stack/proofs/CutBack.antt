-- Slots of which the topmost are taken away.
use Rattle.std.proofs.Common.{◌≡◌, ℕ, ◌+◌, ◌-◌, ◌≤◌, List, ◌∷◌, length, take, drop, refl, sym, ap, subst, ◌∙◌, arith}
use Rattle.std.specs.Prelude.{reverse, Option, Some}
use Rattle.std.proofs.lemmas.List.{length-drop, length-reverse, length-take-le, take-take, drop-drop, drop-take}
use Rattle.heap_objects.specs.declared.Value.{Value}
use Rattle.frame_stack.specs.declared.entry.Entry.{Entry}
use Rattle.frame_stack.specs.FrameLists.{PlacedFrame}
use Rattle.frame_stack.specs.Cuts.{operands_of, AreOperands, operand_slots, floor, frame_of, frames_of, AreFrames, IsFlat}
use Rattle.frame_stack.proofs.OperandSlots.{reverse-drop-take}

-- the operands' slots, by where they begin in all slots
pub operand-slots-is : (e : Entry) (slots : List (Option Value)) → operand_slots e (drop e.base slots) ≡ reverse (drop (floor e) slots)
operand-slots-is e slots = ap reverse (drop-drop e.max_locals e.base slots)

-- how long they are
pub length-operand-slots : (capacity : ℕ) (e : Entry) (es : List Entry) (slots : List (Option Value)) → AreFrames capacity (e ∷ es) slots
    → length (operand_slots e (drop e.base slots)) + floor e ≡ length slots
length-operand-slots capacity e es slots h =
    omega (arith, length-reverse (drop e.max_locals (drop e.base slots)), length-drop e.max_locals (drop e.base slots), length-drop e.base slots, h.0, h.1.has_locals)

-- the top frame with these operands' slots
abbrev pub with_operands : PlacedFrame → List (Option Value) → PlacedFrame
with_operands f slots = record f { operands = operands_of slots }

-- The top frame without the k topmost slots of its operands.
pub record IsCutBack (capacity k : ℕ) (e : Entry) (es : List Entry) (slots : List (Option Value)) : Type 0 where
  pub frames : AreFrames capacity (e ∷ es) (take (length slots - k) slots)
  pub seen : frames_of (e ∷ es) (take (length slots - k) slots)
      ≡ with_operands (frame_of e (drop e.base slots)) (drop k (operand_slots e (drop e.base slots))) ∷ frames_of es (take e.base slots)

-- the front of a part that is not cut into
take-own : (base count n : ℕ) (slots : List (Option Value)) → base + count ≤ n → take count (drop base (take n slots)) ≡ take count (drop base slots)
take-own base count n slots le =
    sym (drop-take base count (take n slots)) ∙ (ap (drop base) (take-take (base + count) n slots le) ∙ drop-take base count slots)

pub is-cut-back : (capacity k : ℕ) (e : Entry) (es : List Entry) (slots : List (Option Value)) → AreFrames capacity (e ∷ es) slots
    → k ≤ length (operand_slots e (drop e.base slots)) → AreOperands (drop k (operand_slots e (drop e.base slots)))
    → IsCutBack capacity k e es slots
is-cut-back capacity k e es slots h le are =
    let n : ℕ = length slots - k in
    let rest = take n slots in
    let whole : length (operand_slots e (drop e.base slots)) + floor e ≡ length slots = length-operand-slots capacity e es slots h in
    let fits : floor e + k ≤ length slots = omega arith in
    let long : length rest ≡ n = length-take-le n slots (omega arith) in
    let own : length (drop e.base rest) ≡ n - e.base = omega (arith, length-drop e.base rest) in
    let own-before : length (drop e.base slots) ≡ length slots - e.base = length-drop e.base slots in
    let kept : operand_slots e (drop e.base rest) ≡ drop k (operand_slots e (drop e.base slots)) =
    operand-slots-is e rest ∙ (reverse-drop-take (floor e) k slots fits ∙ ap (drop k) (sym (operand-slots-is e slots))) in
    let below : take e.base rest ≡ take e.base slots = take-take e.base n slots (omega arith) in
    let locals : take e.max_locals (drop e.base rest) ≡ take e.max_locals (drop e.base slots) = take-own e.base e.max_locals n slots (omega arith) in
    record {
      frames = (
        omega arith,
        record {
          has_locals = omega arith;
          within = omega (arith, h.1.within);
          room = h.1.room;
          operands = subst AreOperands (sym kept) are;
        },
        subst (AreFrames capacity es) (sym below) h.2,
      );
      seen = seen-by e (drop e.base rest) (drop e.base slots) (drop k (operand_slots e (drop e.base slots))) locals kept
          (frames_of es (take e.base rest)) (frames_of es (take e.base slots)) (ap (frames_of es) below);
    }
  where
    seen-by : (e : Entry) (own before : List (Option Value)) (without_frame : List (Option Value)) → take e.max_locals own ≡ take e.max_locals before → operand_slots e own ≡ without_frame
        → (fs gs : List PlacedFrame) → fs ≡ gs → frame_of e own ∷ fs ≡ with_operands (frame_of e before) without_frame ∷ gs
    seen-by e own before without_frame locals operands fs gs same =
        rw (locals, operands, same) refl

-- The fields with the topmost slots taken away.
pub flat-back : (k : ℕ) (e : Entry) (below : List Entry) (below_capacity : ℕ) (slots : List (Option Value)) (capacity : ℕ) (spare : Option ℕ)
    → IsFlat (Some e) below below_capacity slots capacity spare → IsCutBack capacity k e (reverse below) slots
    → IsFlat (Some e) below below_capacity (take (length slots - k) slots) capacity spare
flat-back k e below below_capacity slots capacity spare h back = record { frames = back.frames; bottom = tt; few = h.few; room = h.room }
