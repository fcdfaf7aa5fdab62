-- Frames as a list, the top first, and what each call does to it (JVM Specification 2.6).
use Rattle.std.specs.Prelude.{◌≡◌, ◌≤◌, ℕ, zero, suc, ◌+◌, ◌-◌, ◌&&◌, Bool, true, false, List, [], ◌∷◌, ◌++◌, length, take, drop, reverse, replicate, Option, Some, None, slice_get, slice_set, count_by, nat_le, ◌==◌, if◌then◌else◌}
use Rattle.std.specs.Option.{option_flatten}
use Rattle.heap_objects.specs.declared.Value.{Value}
use Rattle.frame_stack.specs.Widths.{is_long, width, height_of, slots_of_all}

-- A frame at a place of the version that it runs. A slot of its locals has nothing where nothing was written, in the
-- second slot of a long, and where a long was broken. Its operands stand the top first.
pub record PlacedFrame : Type 0 where
  pub version : ℕ
  pub method : ℕ
  pub place : ℕ
  pub locals : List (Option Value)
  pub operands : List Value
  pub max_locals : ℕ
  pub max_stack : ℕ

-- the frames, and the room for a frame that was made since the last began or ended
pub record FramesView : Type 0 where
  pub frames : List PlacedFrame
  pub room : Option ℕ

abbrev pub no_frames : FramesView
no_frames = record { frames = []; room = None }

-- a change of the frames alone
abbrev pub with_frames : List PlacedFrame → FramesView → FramesView
with_frames frames s = record s { frames = frames }

-- a frame has its locals, and its operands are within its limit
pub record IsSound (f : PlacedFrame) : Type 0 where
  pub locals : length f.locals ≡ f.max_locals
  pub operands : height_of f.operands ≤ f.max_stack

abbrev pub AreSound : List PlacedFrame → Type 0
AreSound [] = Unit {0}
AreSound (f ∷ fs) = IsSound f × AreSound fs

-- ---- the top frame

abbrev pub top_of : List PlacedFrame → Option (ℕ × ℕ)
top_of [] = None
top_of (f ∷ fs) = Some (f.version, f.method)

abbrev pub place_of : List PlacedFrame → Option ℕ
place_of [] = None
place_of (f ∷ fs) = Some f.place

abbrev pub top_height : List PlacedFrame → Option ℕ
top_height [] = None
top_height (f ∷ fs) = Some (height_of f.operands)

abbrev pub has_frame : List PlacedFrame → Bool
has_frame [] = false
has_frame (f ∷ fs) = true

abbrev pub with_place : ℕ → List PlacedFrame → List PlacedFrame
with_place place [] = []
with_place place (f ∷ fs) = record f { place = place } ∷ fs

-- ---- operands

abbrev pub top_operands : List PlacedFrame → List Value
top_operands [] = []
top_operands (f ∷ fs) = f.operands

-- with the value the operands are within max_stack
abbrev pub can_push : Value → List PlacedFrame → Bool
can_push v [] = false
can_push v (f ∷ fs) = nat_le (height_of f.operands + width v) f.max_stack

abbrev pub with_operand : Value → List PlacedFrame → List PlacedFrame
with_operand v [] = []
with_operand v (f ∷ fs) = record f { operands = v ∷ f.operands } ∷ fs

abbrev pub with_pushed : Value → FramesView → FramesView
with_pushed v s = with_frames (with_operand v s.frames) s

abbrev pub without_operand : List PlacedFrame → List PlacedFrame
without_operand [] = []
without_operand (f ∷ fs) = record f { operands = drop 1 f.operands } ∷ fs

-- ---- locals

-- what can be read from a slot
abbrev pub local_of : ℕ → List PlacedFrame → Option Value
local_of slot [] = None
local_of slot (f ∷ fs) = option_flatten (slice_get f.locals slot)

-- there are the slots that the value takes
abbrev pub has_slot : ℕ → Value → List PlacedFrame → Bool
has_slot slot v [] = false
has_slot slot v (f ∷ fs) = nat_le (slot + width v) f.max_locals

abbrev pub is_long_slot : Option Value → Bool
is_long_slot None = false
is_long_slot (Some v) = is_long v

-- a write to the second slot of a long takes the long away
abbrev pub without_long_before : ℕ → List (Option Value) → List (Option Value)
without_long_before zero locals = locals
without_long_before (suc n) locals =
    if is_long_slot (option_flatten (slice_get locals n)) then slice_set locals n None else locals

-- a long stands in its first slot, with nothing in its second
abbrev pub with_value : ℕ → Value → List (Option Value) → List (Option Value)
with_value slot v locals =
    if is_long v then slice_set (slice_set locals slot (Some v)) (slot + 1) None else slice_set locals slot (Some v)

abbrev pub with_local : ℕ → Value → List PlacedFrame → List PlacedFrame
with_local slot v [] = []
with_local slot v (f ∷ fs) = record f { locals = with_value slot v (without_long_before slot f.locals) } ∷ fs

abbrev pub with_written : ℕ → Value → FramesView → FramesView
with_written slot v s = with_frames (with_local slot v s.frames) s

-- ---- frames

-- the operands that a call takes, the top first
abbrev pub arguments : ℕ → List PlacedFrame → List Value
arguments args fs = take args (top_operands fs)

abbrev pub without_arguments : ℕ → List PlacedFrame → List PlacedFrame
without_arguments args [] = []
without_arguments args (f ∷ fs) = record f { operands = drop args f.operands } ∷ fs

-- the arguments are there, and they fit into the callee's locals
abbrev pub can_enter : ℕ → ℕ → List PlacedFrame → Bool
can_enter max_locals args fs =
    nat_le args (length (top_operands fs)) && nat_le (height_of (arguments args fs)) max_locals

-- A frame that begins: its first locals are the arguments, the deepest first, and nothing is written behind them.
abbrev pub new_frame : ℕ → ℕ → ℕ → ℕ → List Value → PlacedFrame
new_frame version method max_locals max_stack taken = record {
  version = version;
  method = method;
  place = 0;
  locals = slots_of_all (reverse taken) ++ replicate (max_locals - height_of taken) None;
  operands = [];
  max_locals = max_locals;
  max_stack = max_stack;
}

abbrev pub version_of : List PlacedFrame → Option ℕ
version_of [] = None
version_of (f ∷ fs) = Some f.version

-- how many frames run a version
abbrev pub pins_of : ℕ → List PlacedFrame → ℕ
pins_of version fs = count_by (λ f. f.version == version) fs

abbrev pub rest_of : List PlacedFrame → Option ℕ → FramesView
rest_of [] room = record { frames = []; room = room }
rest_of (f ∷ fs) room = record { frames = fs; room = None }

-- the frames below the top one; the room is used up where there was a frame
abbrev pub without_frame : FramesView → FramesView
without_frame s = rest_of s.frames s.room

-- there is room for a frame of so many slots
abbrev pub has_room : ℕ → Option ℕ → Bool
has_room n None = false
has_room n (Some m) = nat_le n m

-- room was made for a frame of so many slots
abbrev pub with_room : ℕ → FramesView → FramesView
with_room n s = record s { room = Some n }

-- one frame more, which took its arguments from the caller
abbrev pub with_new_frame : ℕ → ℕ → ℕ → ℕ → ℕ → FramesView → FramesView
with_new_frame version method max_locals max_stack args s = record {
  frames = new_frame version method max_locals max_stack (arguments args s.frames) ∷ without_arguments args s.frames;
  room = None;
}

-- ---- back in the caller

-- the version and the place of the frame below the top one
abbrev pub caller_of : List PlacedFrame → Option (ℕ × ℕ)
caller_of (f ∷ g ∷ fs) = Some (g.version, g.place)
caller_of _ = None

-- there is such a frame, and with what is given its operands are within max_stack
abbrev pub can_give : Option Value → List PlacedFrame → Bool
can_give None (f ∷ g ∷ fs) = true
can_give (Some v) (f ∷ g ∷ fs) = nat_le (height_of g.operands + width v) g.max_stack
can_give _ _ = false

abbrev pub with_result : Option Value → List Value → List Value
with_result None operands = operands
with_result (Some v) operands = v ∷ operands

-- the top frame is off, and the one below it goes on at a place with what is given
abbrev pub result_given : Option Value → ℕ → List PlacedFrame → List PlacedFrame
result_given v place (f ∷ g ∷ fs) = record g { place = place; operands = with_result v g.operands } ∷ fs
result_given v place _ = []

abbrev pub with_given : Option Value → ℕ → FramesView → FramesView
with_given v place s = record { frames = result_given v place s.frames; room = None }
