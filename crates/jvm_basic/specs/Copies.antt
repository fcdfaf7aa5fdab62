-- The stack instructions as this crate does them: values put below so many operands. By the forms they are the same.
use Rattle.std.specs.Prelude.{ℕ, Bool, List, [], ◌∷◌, ◌++◌, take, drop, Option, Some, None, slice_get}
use Rattle.heap_objects.specs.declared.Value.{Value}
use Rattle.frame_stack.specs.FrameLists.{PlacedFrame, FramesView, with_frames, top_operands}
use Rattle.jvm_model.specs.Basis.Data.{Operands}
use Rattle.jvm_model.specs.Basis.Values.{with_value}
use Rattle.jvm_basic.specs.Outcomes.{Rule, GoesOn, Breaks, can_hold}

-- these values, below so many operands
abbrev pub values_inserted : ℕ → List Value → Operands → Operands
values_inserted under values o = take under o ++ (values ++ drop under o)

-- the first one above the second one
abbrev pub values_of : Value → Option Value → List Value
values_of first second = first ∷ with_value second []

abbrev pub inserts : ℕ → List Value → ℕ → Rule
inserts under values place l o = GoesOn l (values_inserted under values o) place

abbrev pub copies_value : ℕ → Option Value → ℕ → Rule
copies_value under None place l o = Breaks
copies_value under (Some v) place l o = inserts under (v ∷ []) place l o

-- the topmost operand once more, below so many
abbrev pub copies_one : ℕ → ℕ → Rule
copies_one under place l o = copies_value under (slice_get o 0) place l o

abbrev pub copies_values : ℕ → Option Value → Option Value → ℕ → Rule
copies_values under (Some v) (Some w) place l o = inserts under (v ∷ w ∷ []) place l o
copies_values under _ _ place l o = Breaks

-- the two topmost operands once more, below so many
abbrev pub copies_two : ℕ → ℕ → Rule
copies_two under place l o = copies_values under (slice_get o 0) (slice_get o 1) place l o

abbrev pub swaps_value : Option Value → ℕ → Rule
swaps_value None place l o = Breaks
swaps_value (Some v) place l o = GoesOn l (values_inserted 1 (v ∷ []) (drop 1 o)) place

-- the topmost operand below the one under it
abbrev pub swaps : ℕ → Rule
swaps place l o = swaps_value (slice_get o 0) place l o

-- the top frame with these operands
abbrev pub with_operands : Operands → List PlacedFrame → List PlacedFrame
with_operands o [] = []
with_operands o (f ∷ fs) = record f { operands = o } ∷ fs

-- there is room for these values more
abbrev pub has_room_for : List Value → FramesView → Bool
has_room_for values s = can_hold (values ++ top_operands s.frames) s.frames

abbrev pub has_room_for_some : Option Value → FramesView → Bool
has_room_for_some value s = can_hold (with_value value (top_operands s.frames)) s.frames

-- with this value on top, where there is one
abbrev pub with_some : Option Value → FramesView → FramesView
with_some value s = with_frames (with_operands (with_value value (top_operands s.frames)) s.frames) s

abbrev pub with_inserted : ℕ → List Value → FramesView → FramesView
with_inserted under values s = with_frames (with_operands (values_inserted under values (top_operands s.frames)) s.frames) s
