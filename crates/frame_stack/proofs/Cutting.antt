-- Slots that are cut at the frames' bases.
use Rattle.std.proofs.Common.{◌≡◌, ℕ, suc, ◌+◌, ◌≤◌, ◌<◌, true, false, List, [], ◌∷◌, ◌++◌, length, take, drop, refl, ap, arith}
use Rattle.std.specs.Prelude.{reverse, IfSome, Option, Some, None}
use Rattle.std.proofs.lemmas.List.{length-append, length-take-le, length-drop, length-reverse, drop-append-le, take-append-le}
use Rattle.heap_objects.specs.declared.Value.{Value}
use Rattle.frame_stack.specs.declared.entry.Entry.{Entry}
use Rattle.frame_stack.specs.Widths.{width, height_of, slots_of}
use Rattle.std.proofs.lemmas.Bool.{le-leb, lt-leb}
use Rattle.frame_stack.specs.FrameLists.{AreSound, can_push}
use Rattle.frame_stack.specs.Cuts.{operands_of, operand_slots, limit, floor, frames_of, IsFrame, AreFrames, IsFlat, entries_in, top_limit}
use Rattle.frame_stack.proofs.OperandSlots.{are-put, length-slots_of, height-is}

pub length-frames_of : (es : List Entry) (slots : List (Option Value)) → length (frames_of es slots) ≡ length es
length-frames_of [] slots = refl
length-frames_of (e ∷ es) slots = ap suc (length-frames_of es (take e.base slots))

-- the height of a frame whose slots are these
pub frame-height : (capacity : ℕ) (e : Entry) (own : List (Option Value)) → IsFrame capacity e own
    → height_of (operands_of (operand_slots e own)) + e.max_locals ≡ length own
frame-height capacity e own h =
    omega (arith, height-is (operand_slots e own) h.operands, length-reverse (drop e.max_locals own), length-drop e.max_locals own, h.has_locals)

-- more room does no harm
frame-roomier : (low high : ℕ) (e : Entry) (own : List (Option Value)) → low ≤ high → IsFrame low e own → IsFrame high e own
frame-roomier low high e own le h = record { has_locals = h.has_locals; within = h.within; room = omega (arith, h.room); operands = h.operands }

pub roomier : (low high : ℕ) (es : List Entry) (slots : List (Option Value)) → low ≤ high → AreFrames low es slots → AreFrames high es slots
roomier low high [] slots le h = h
roomier low high (e ∷ es) slots le h = (h.0, frame-roomier low high e (drop e.base slots) le h.1, roomier low high es (take e.base slots) le h.2)

-- ---- an operand more

frame-put : (capacity : ℕ) (e : Entry) (own : List (Option Value)) (v : Value) → IsFrame capacity e own
    → length own + width v ≤ e.max_locals + e.max_stack → IsFrame capacity e (own ++ slots_of v)
frame-put capacity e own v h le = record {
  has_locals = omega (arith, h.has_locals, length-append own (slots_of v));
  within = omega (arith, length-append own (slots_of v), length-slots_of v);
  room = h.room;
  operands = rw (drop-append-le e.max_locals own (slots_of v) h.has_locals) (are-put (drop e.max_locals own) v h.operands);
}

pub frames-put : (capacity : ℕ) (e : Entry) (es : List Entry) (slots : List (Option Value)) (v : Value) → AreFrames capacity (e ∷ es) slots
    → length slots + width v ≤ limit e → AreFrames capacity (e ∷ es) (slots ++ slots_of v)
frames-put capacity e es slots v h le = (
  omega (arith, h.0, length-append slots (slots_of v)),
  rw (drop-append-le e.base slots (slots_of v) h.0) (frame-put capacity e (drop e.base slots) v h.1 (omega (arith, h.0, length-drop e.base slots))),
  rw (take-append-le e.base slots (slots_of v) h.0) h.2,
)

-- whether there is room for one, by the slots
pub top-height-is : (capacity : ℕ) (e : Entry) (es : List Entry) (slots : List (Option Value)) → AreFrames capacity (e ∷ es) slots
    → height_of (operands_of (operand_slots e (drop e.base slots))) + floor e ≡ length slots
top-height-is capacity e es slots h =
    omega (arith, frame-height capacity e (drop e.base slots) h.1, h.0, length-drop e.base slots)

pub can-push : (capacity : ℕ) (e : Entry) (es : List Entry) (slots : List (Option Value)) (v : Value) → AreFrames capacity (e ∷ es) slots
    → length slots + width v ≤ limit e → can_push v (frames_of (e ∷ es) slots) ≡ true
can-push capacity e es slots v h le = le-leb _ _ (omega (arith, top-height-is capacity e es slots h))

pub cannot-push : (capacity : ℕ) (e : Entry) (es : List Entry) (slots : List (Option Value)) (v : Value) → AreFrames capacity (e ∷ es) slots
    → limit e < length slots + width v → can_push v (frames_of (e ∷ es) slots) ≡ false
cannot-push capacity e es slots v h le = lt-leb _ _ (omega (arith, top-height-is capacity e es slots h))

pub flat-put : (e : Entry) (below : List Entry) (below_capacity : ℕ) (slots : List (Option Value)) (capacity higher : ℕ) (spare : Option ℕ) (v : Value)
    → IsFlat (Some e) below below_capacity slots capacity spare → length slots + width v ≤ limit e → capacity ≤ higher
    → IsFlat (Some e) below below_capacity (slots ++ slots_of v) higher spare
flat-put e below below_capacity slots capacity higher spare v h le more = record {
  frames = roomier capacity higher (entries_in (Some e) below) (slots ++ slots_of v) more (frames-put capacity e (reverse below) slots v h.frames le);
  bottom = tt;
  few = h.few;
  room = roomier-spare spare (limit e) capacity higher below below_capacity more h.room;
}
  where
    roomier-spare : (spare : Option ℕ) (at low high : ℕ) (below : List Entry) (below_capacity : ℕ) → low ≤ high
        → IfSome spare (λ n. (at + n ≤ low) × (length below < below_capacity)) → IfSome spare (λ n. (at + n ≤ high) × (length below < below_capacity))
    roomier-spare None at low high below below_capacity le h = tt
    roomier-spare (Some n) at low high below below_capacity le h = (omega arith, h.1)

pub length-below-limit : (top : Option Entry) (below : List Entry) (capacity : ℕ) (slots : List (Option Value))
    → AreFrames capacity (entries_in top below) slots → length slots ≤ top_limit top
length-below-limit None below capacity slots h = omega (arith, ap length h)
length-below-limit (Some e) below capacity slots h = omega (arith, h.1.within, length-drop e.base slots)

pub flat-roomier : (top : Option Entry) (below : List Entry) (low high : ℕ) (slots : List (Option Value)) (capacity higher : ℕ) (spare : Option ℕ)
    → IsFlat top below low slots capacity spare → low ≤ high → capacity ≤ higher → IsFlat top below high slots higher spare
flat-roomier top below low high slots capacity higher spare h le more = record {
  frames = roomier capacity higher (entries_in top below) slots more h.frames;
  bottom = h.bottom;
  few = h.few;
  room = roomier-both spare (top_limit top) (length below) h.room;
}
  where
    roomier-both : (spare : Option ℕ) (at count : ℕ)
        → IfSome spare (λ n. (at + n ≤ capacity) × (count < low)) → IfSome spare (λ n. (at + n ≤ higher) × (count < high))
    roomier-both None at count h = tt
    roomier-both (Some n) at count h = (omega (arith, h.0, more), omega (arith, h.1, le))

pub flat-reserved : (top : Option Entry) (below : List Entry) (low high : ℕ) (slots : List (Option Value)) (capacity higher : ℕ) (spare : Option ℕ) (n : ℕ)
    → IsFlat top below low slots capacity spare → low ≤ high → capacity ≤ higher → top_limit top + n ≤ higher → length below < high
    → IsFlat top below high slots higher (Some n)
flat-reserved top below low high slots capacity higher spare n h le more room one = record {
  frames = roomier capacity higher (entries_in top below) slots more h.frames;
  bottom = h.bottom;
  few = h.few;
  room = (room, one);
}

pub are-sound : (capacity : ℕ) (es : List Entry) (slots : List (Option Value)) → AreFrames capacity es slots → AreSound (frames_of es slots)
are-sound capacity [] slots h = tt
are-sound capacity (e ∷ es) slots h = (
  record { locals = length-take-le e.max_locals (drop e.base slots) h.1.has_locals; operands = omega (arith, frame-height capacity e (drop e.base slots) h.1, h.1.within) },
  are-sound capacity es (take e.base slots) h.2,
)
