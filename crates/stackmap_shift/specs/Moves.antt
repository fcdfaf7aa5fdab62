-- Frames of a method whose code is laid out anew: offsets become homes, and the offsets of Uninitialized become places.
use Rattle.std.specs.Prelude.{ℕ, List, map, unwrap_or}
use Rattle.code_model.specs.declared.laying.Homes.{Homes}
use Rattle.code_model.specs.Layout.{home_of, place_in}
use Rattle.stackmap_shift.specs.declared.frames.VType.{VType}
use Rattle.stackmap_shift.specs.declared.frames.VType.TheVariants.{Top, Integer, Float, Double, Long, Null, UninitThis, Object, Uninit}
use Rattle.stackmap_shift.specs.declared.frames.FrameKind.{FrameKind}
use Rattle.stackmap_shift.specs.declared.frames.FrameKind.TheVariants.{Same, OneItem, Chop, Append, Full}
use Rattle.stackmap_shift.specs.declared.frames.Frame.{Frame}

-- where an instruction itself comes to stand
abbrev pub place_of : Homes → ℕ → ℕ
place_of homes at = unwrap_or (place_in homes at) 0

-- an Uninitialized names its `new` itself, and not what goes in front of it
abbrev pub moved_type : Homes → VType → VType
moved_type homes (Uninit offset) = Uninit (place_of homes offset)
moved_type homes (Object index) = Object index
moved_type homes Top = Top
moved_type homes Integer = Integer
moved_type homes Float = Float
moved_type homes Double = Double
moved_type homes Long = Long
moved_type homes Null = Null
moved_type homes UninitThis = UninitThis

abbrev pub moved_types : Homes → List VType → List VType
moved_types homes types = map (moved_type homes) types

abbrev pub moved_kind : Homes → FrameKind → FrameKind
moved_kind homes Same = Same
moved_kind homes (OneItem item) = OneItem (moved_type homes item)
moved_kind homes (Chop count) = Chop count
moved_kind homes (Append locals) = Append (moved_types homes locals)
moved_kind homes (Full locals operands) = Full (moved_types homes locals) (moved_types homes operands)

abbrev pub moved_frame : Homes → Frame → Frame
moved_frame homes frame = record { at = home_of homes frame.at; kind = moved_kind homes frame.kind }

abbrev pub moved_frames : Homes → List Frame → List Frame
moved_frames homes frames = map (moved_frame homes) frames
