-- All frames in one list of slots, the lowest first, cut at the frames' bases.
use Rattle.std.specs.Prelude.{◌≡◌, ℕ, ◌+◌, ◌-◌, ◌≤◌, ◌<◌, ◌^◌, true, false, List, [], ◌∷◌, ◌++◌, length, take, drop, reverse, replicate, Option, Some, None, IfSome, nat_le, if◌then◌else◌}
use Rattle.heap_objects.specs.declared.Value.{Value}
use Rattle.frame_stack.specs.declared.entry.Entry.{Entry}
use Rattle.frame_stack.specs.Widths.{is_long, height_of}
use Rattle.frame_stack.specs.FrameLists.{PlacedFrame, FramesView}

-- the operands that slots hold, the top first: nothing stands above a long
abbrev pub operands_of : List (Option Value) → List Value
operands_of [] = []
operands_of (Some v ∷ slots) = v ∷ operands_of slots
operands_of (None ∷ []) = []
operands_of (None ∷ Some v ∷ slots) = v ∷ operands_of slots
operands_of (None ∷ None ∷ slots) = []

abbrev pub AreOperands : List (Option Value) → Type 0
AreOperands [] = Unit {0}
AreOperands (Some v ∷ slots) = (is_long v ≡ false) × AreOperands slots
AreOperands (None ∷ []) = ⊥
AreOperands (None ∷ Some v ∷ slots) = (is_long v ≡ true) × AreOperands slots
AreOperands (None ∷ None ∷ slots) = ⊥

-- where the operands below the topmost ones end, of the operands that stand from a slot on
abbrev pub end_below : ℕ → ℕ → List (Option Value) → Option ℕ
end_below low count slots =
    let operands = operands_of (reverse (drop low slots)) in
    if nat_le count (length operands) then Some (length slots - height_of (take count operands)) else None

-- nothing stands behind the slots, up to so many
abbrev pub filled_to : ℕ → List (Option Value) → List (Option Value)
filled_to count slots = slots ++ replicate (count - length slots) None

-- where the operands begin, and where they may end, in the slots of all frames
abbrev pub floor : Entry → ℕ
floor e = e.base + e.max_locals

abbrev pub limit : Entry → ℕ
limit e = e.base + e.max_locals + e.max_stack

-- the slots of the operands, the top first, of a frame whose slots are these
abbrev pub operand_slots : Entry → List (Option Value) → List (Option Value)
operand_slots e own = reverse (drop e.max_locals own)

abbrev pub frame_of : Entry → List (Option Value) → PlacedFrame
frame_of e own = record {
  version = e.version;
  method = e.method;
  place = e.place;
  locals = take e.max_locals own;
  operands = operands_of (operand_slots e own);
  max_locals = e.max_locals;
  max_stack = e.max_stack;
}

-- The frames of slots that are cut at the bases, the top frame first.
abbrev pub frames_of : List Entry → List (Option Value) → List PlacedFrame
frames_of [] slots = []
frames_of (e ∷ es) slots = frame_of e (drop e.base slots) ∷ frames_of es (take e.base slots)

-- a frame whose slots are these stands in room for so many slots in all
pub record IsFrame (capacity : ℕ) (e : Entry) (own : List (Option Value)) : Type 0 where
  pub has_locals : e.max_locals ≤ length own
  pub within : length own ≤ e.max_locals + e.max_stack
  pub room : limit e ≤ capacity
  pub operands : AreOperands (operand_slots e own)

abbrev pub AreFrames : ℕ → List Entry → List (Option Value) → Type 0
AreFrames capacity [] slots = slots ≡ []
AreFrames capacity (e ∷ es) slots =
    (e.base ≤ length slots) × IsFrame capacity e (drop e.base slots) × AreFrames capacity es (take e.base slots)

-- ---- the fields

abbrev pub entries_in : Option Entry → List Entry → List Entry
entries_in None below = []
entries_in (Some e) below = e ∷ reverse below

abbrev pub view_of : Option Entry → List Entry → List (Option Value) → Option ℕ → FramesView
view_of top below slots room = record { frames = frames_of (entries_in top below) slots; room = room }

abbrev pub top_limit : Option Entry → ℕ
top_limit None = 0
top_limit (Some e) = limit e

abbrev pub top_floor : Option Entry → ℕ
top_floor None = 0
top_floor (Some e) = floor e

abbrev pub with_below : Option Entry → List Entry → List Entry
with_below None below = below
with_below (Some e) below = below ++ e ∷ []

-- nothing stands below where there is no frame
abbrev pub IsBottom : Option Entry → List Entry → Type 0
IsBottom None below = below ≡ []
IsBottom (Some e) below = Unit {0}

pub record IsFlat (top : Option Entry) (below : List Entry) (below_capacity : ℕ) (slots : List (Option Value)) (capacity : ℕ) (spare : Option ℕ) : Type 0 where
  pub frames : AreFrames capacity (entries_in top below) slots
  pub bottom : IsBottom top below
  pub few : length below < 2 ^ 32 - 1
  pub room : IfSome spare (λ n. (top_limit top + n ≤ capacity) × (length below < below_capacity))
