-- Slots that are kept narrow, in room that is there: those up to an end are seen.
use Rattle.std.specs.Prelude.{ℕ, ◌≤◌, ◌<◌, ◌^◌, ℤ, List, length, Option, Some, None}
use Rattle.heap_objects.specs.declared.Value.{Value}
use Rattle.heap_objects.specs.declared.Value.TheVariants.{Int, Long, Ref, Addr}
use Rattle.frame_stack.specs.declared.room.Slot.{Slot}
use Rattle.frame_stack.specs.declared.room.Slot.TheVariants as slot

abbrev pub slot_shown : Slot → Option Value
slot_shown slot.Empty = None
slot_shown (slot.Int n) = Some (Int n)
slot_shown (slot.Long n) = Some (Long n)
slot_shown (slot.Reference n) = Some (Ref n)
slot_shown (slot.Address n) = Some (Addr n)

-- slots up to an end, in what a vector can hold
pub record AreUpTo (end : ℕ) (raw : List Slot) : Type 0 where
  pub within : end ≤ length raw
  pub few : length raw < 2 ^ 64

-- the slots that are seen, and how many there is room for
pub record RoomView : Type 0 where
  pub items : List (Option Value)
  pub capacity : ℕ

-- what a slot holds, where it is of a kind
abbrev pub int_in : Option (Option Value) → Option ℤ
int_in (Some (Some (Int n))) = Some n
int_in _ = None

abbrev pub reference_in : Option (Option Value) → Option ℕ
reference_in (Some (Some (Ref n))) = Some n
reference_in _ = None

-- two of them, the topmost last
abbrev pub both_in : {A B : Type 0} → Option A → Option B → Option (A × B)
both_in first None = None
both_in None (Some b) = None
both_in (Some a) (Some b) = Some (a, b)
