-- The bytes of a StackMapTable (JVM Specification 4.7.4), each frame in the short form that has its delta in its type
-- exactly where the delta is at most 63.
use Rattle.std.specs.Prelude.{ℕ, ◌+◌, ◌-◌, List, [], ◌∷◌, ◌++◌, length, Option, Some, None, nat_le, if◌then◌else◌}
use Rattle.std.specs.Int.{w8, w16, to_be_bytes}
use Rattle.std.specs.List.{flat_map}
use Rattle.stackmap_shift.specs.declared.frames.VType.{VType}
use Rattle.stackmap_shift.specs.declared.frames.VType.TheVariants.{Top, Integer, Float, Double, Long, Null, UninitThis, Object, Uninit}
use Rattle.stackmap_shift.specs.declared.frames.FrameKind.{FrameKind}
use Rattle.stackmap_shift.specs.declared.frames.FrameKind.TheVariants.{Same, OneItem, Chop, Append, Full}
use Rattle.stackmap_shift.specs.declared.frames.Frame.{Frame}

abbrev pub u1 : ℕ → List ℕ
u1 n = to_be_bytes w8 n

abbrev pub u2 : ℕ → List ℕ
u2 n = to_be_bytes w16 n

-- a type: its tag, and the class of an object or the offset of a `new`
abbrev pub type_bytes : VType → List ℕ
type_bytes Top = u1 0
type_bytes Integer = u1 1
type_bytes Float = u1 2
type_bytes Double = u1 3
type_bytes Long = u1 4
type_bytes Null = u1 5
type_bytes UninitThis = u1 6
type_bytes (Object index) = u1 7 ++ u2 index
type_bytes (Uninit offset) = u1 8 ++ u2 offset

abbrev pub types_bytes : List VType → List ℕ
types_bytes types = flat_map type_bytes types

-- types behind a u2 that counts them
abbrev pub counted_bytes : List VType → List ℕ
counted_bytes types = u2 (length types) ++ types_bytes types

-- how far a frame is behind the one before, or from the code's start
abbrev pub delta_of : Option ℕ → ℕ → ℕ
delta_of None at = at
delta_of (Some before) at = at - before - 1

-- a type with its delta in it, or a long type and a u2
abbrev pub short_or_long : ℕ → ℕ → ℕ → List ℕ
short_or_long short long delta = if nat_le delta 63 then u1 (short + delta) else u1 long ++ u2 delta

-- a frame by its delta
abbrev pub kind_bytes : ℕ → FrameKind → List ℕ
kind_bytes delta Same = short_or_long 0 251 delta
kind_bytes delta (OneItem item) = short_or_long 64 247 delta ++ type_bytes item
kind_bytes delta (Chop count) = u1 (251 - count) ++ u2 delta
kind_bytes delta (Append locals) = u1 (251 + length locals) ++ (u2 delta ++ types_bytes locals)
kind_bytes delta (Full locals operands) = u1 255 ++ (u2 delta ++ (counted_bytes locals ++ counted_bytes operands))

abbrev pub frame_bytes : Option ℕ → Frame → List ℕ
frame_bytes before frame = kind_bytes (delta_of before frame.at) frame.kind

-- frames behind one at the offset `before`, or from the first one on
abbrev pub frames_bytes : Option ℕ → List Frame → List ℕ
frames_bytes before [] = []
frames_bytes before (frame ∷ rest) = frame_bytes before frame ++ frames_bytes (Some frame.at) rest

-- the count, and the frames
abbrev pub table_bytes : List Frame → List ℕ
table_bytes frames = u2 (length frames) ++ frames_bytes None frames
