-- What is on top, where there may be no frame.
use Rattle.std.proofs.Common.{◌≡◌, ℕ, ◌+◌, ◌-◌, ◌≤◌, ◌<◌, true, false, List, length, take, drop, refl, sym, ap, ◌∙◌, arith}
use Rattle.std.specs.Prelude.{reverse, slice_get, Option, Some, None}
use Rattle.std.proofs.lemmas.Option.{none-some}
use Rattle.heap_objects.specs.declared.Value.{Value}
use Rattle.heap_objects.specs.declared.Value.TheVariants.{Int, Long, Ref, Addr}
use Rattle.frame_stack.specs.declared.entry.Entry.{Entry}
use Rattle.frame_stack.specs.Widths.{width}
use Rattle.frame_stack.specs.FrameLists.{with_frames, without_operand, can_push, top_operands}
use Rattle.frame_stack.specs.Cuts.{operands_of, operand_slots, frames_of, AreFrames, IsFlat, entries_in, view_of, top_floor, top_limit, end_below}
use Rattle.frame_stack.proofs.OperandSlots.{AreBelow, below-is, top-width}
use Rattle.frame_stack.proofs.Cutting.{can-push, cannot-push}
use Rattle.frame_stack.proofs.Passing.{ArePassed, are-passed, get-drop, operands_from}
use Rattle.frame_stack.proofs.Floors.{has-floor, has-passed}
use Rattle.frame_stack.proofs.CutBack.{IsCutBack, is-cut-back, flat-back, operand-slots-is}

pub some-width : (v : Value) → 0 < width v
some-width (Int n) = omega arith
some-width (Long n) = omega arith
some-width (Ref n) = omega arith
some-width (Addr n) = omega arith

-- ---- one more

pub can-push-top : (top : Option Entry) (below : List Entry) (capacity : ℕ) (slots : List (Option Value)) (v : Value) → AreFrames capacity (entries_in top below) slots
    → length slots + width v ≤ top_limit top → can_push v (frames_of (entries_in top below) slots) ≡ true
can-push-top None below capacity slots v h fits = absurd (omega (arith, some-width v))
can-push-top (Some e) below capacity slots v h fits = can-push capacity e (reverse below) slots v h fits

pub cannot-push-top : (top : Option Entry) (below : List Entry) (capacity : ℕ) (slots : List (Option Value)) (v : Value) → AreFrames capacity (entries_in top below) slots
    → top_limit top < length slots + width v → can_push v (frames_of (entries_in top below) slots) ≡ false
cannot-push-top None below capacity slots v h less = refl
cannot-push-top (Some e) below capacity slots v h less = cannot-push capacity e (reverse below) slots v h less

-- ---- one fewer

pub record IsPopped (top : Option Entry) (below : List Entry) (below_capacity : ℕ) (slots : List (Option Value)) (capacity : ℕ) (spare : Option ℕ) (n : ℕ) : Type 0 where
  pub flat : IsFlat top below below_capacity (take n slots) capacity spare
  pub seen : view_of top below (take n slots) spare ≡ with_frames (without_operand (frames_of (entries_in top below) slots)) (view_of top below slots spare)

pub is-popped : (top : Option Entry) (below : List Entry) (below_capacity : ℕ) (slots : List (Option Value)) (capacity : ℕ) (spare : Option ℕ) (v : Value) (n : ℕ)
    → IsFlat top below below_capacity slots capacity spare
    → Some v ≡ slice_get (operands_of (reverse (drop (top_floor top) slots))) 0 → n ≡ length slots - width v
    → IsPopped top below below_capacity slots capacity spare n
is-popped None below below_capacity slots capacity spare v n h top at =
    absurd (none-some v (sym (top ∙ ap (λ (xs : List (Option Value)). slice_get (operands_of (reverse (drop 0 xs))) 0) h.frames)))
is-popped (Some e) below below_capacity slots capacity spare v n h top at =
    let own = operand_slots e (drop e.base slots) in
    let here : Some v ≡ slice_get (operands_of own) 0 = top ∙ ap (λ xs. slice_get (operands_of xs) 0) (sym (operand-slots-is e slots)) in
    let b : AreBelow 1 (width v) own = below-is 1 (width v) own h.frames.1.operands (top-width (operands_of own) v here) in
    let back : IsCutBack capacity (width v) e (reverse below) slots = is-cut-back capacity (width v) e (reverse below) slots h.frames b.within b.are in
    rw at (record {
      flat = flat-back (width v) e below below_capacity slots capacity spare h back;
      seen = rw (back.seen, b.operands) refl;
    })

-- ---- below others

pub passed-top : (top : Option Entry) (below : List Entry) (capacity : ℕ) (slots : List (Option Value)) (end count : ℕ)
    → AreFrames capacity (entries_in top below) slots → Some end ≡ end_below (top_floor top) count slots → ArePassed (top_floor top) end count slots
passed-top top below capacity slots end count h e =
    let low = has-floor top below capacity slots h in
    are-passed (top_floor top) end count slots low.within low.are (has-passed (top_floor top) end count slots low.within low.are e).at

pub peek-top : (top : Option Entry) (below : List Entry) (capacity : ℕ) (slots : List (Option Value)) (end count : ℕ)
    → AreFrames capacity (entries_in top below) slots → Some end ≡ end_below (top_floor top) count slots
    → slice_get (operands_of (reverse (drop (top_floor top) (take end slots)))) 0 ≡ slice_get (top_operands (frames_of (entries_in top below) slots)) count
peek-top top below capacity slots end count h e =
    ap (λ vs. slice_get vs 0) (passed-top top below capacity slots end count h e).operands
    ∙ (get-drop (operands_from (top_floor top) slots) count ∙ ap (λ vs. slice_get vs count) (sym (has-floor top below capacity slots h).seen))
