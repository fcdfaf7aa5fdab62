-- What can be written and moved.
use Rattle.std.specs.Prelude.{◌≡◌, ℕ, ◌<◌, ◌≤◌, Bool, true, ◌&&◌, nat_lt, List, [], ◌∷◌, length, Option, Some, None, All, Contains}
use Rattle.std.specs.List.{list_all}
use Rattle.std.specs.List.Sorted.{IsStrictlyIncreasing}
use Rattle.code_model.specs.declared.laying.Homes.{Homes}
use Rattle.stackmap_shift.specs.declared.forms.Form.{Form}
use Rattle.stackmap_shift.specs.declared.forms.Form.TheVariants as form
use Rattle.stackmap_shift.specs.declared.frames.VType.{VType}
use Rattle.stackmap_shift.specs.declared.frames.VType.TheVariants.{Object, Uninit}
use Rattle.stackmap_shift.specs.declared.frames.FrameKind.{FrameKind}
use Rattle.stackmap_shift.specs.declared.frames.FrameKind.TheVariants.{Same, OneItem, Chop, Append, Full}
use Rattle.stackmap_shift.specs.declared.frames.Frame.{Frame}

-- ---- frames that have bytes

-- a chop is of one to three locals, an append of one to three types, and each list of a full frame is counted by a u2
abbrev pub FitsKind : FrameKind → Type 0
FitsKind Same = Unit {0}
FitsKind (OneItem item) = Unit {0}
FitsKind (Chop count) = (1 ≤ count) × (count ≤ 3)
FitsKind (Append locals) = (1 ≤ length locals) × (length locals ≤ 3)
FitsKind (Full locals operands) = (length locals ≤ 65535) × (length operands ≤ 65535)

abbrev pub FitsForm : Form → Type 0
FitsForm (form.Chop count) = (1 ≤ count) × (count ≤ 3)
FitsForm (form.Append count) = (1 ≤ count) × (count ≤ 3)
FitsForm _ = Unit {0}

abbrev pub FitsFrame : Frame → Type 0
FitsFrame frame = FitsKind frame.kind

-- it is behind the one before, if there is one
abbrev pub IsBehind : Option ℕ → ℕ → Type 0
IsBehind None at = Unit {0}
IsBehind (Some before) at = before < at

-- the offsets rise strictly
abbrev pub Rise : Option ℕ → List Frame → Type 0
Rise before [] = Unit {0}
Rise before (frame ∷ rest) = IsBehind before frame.at × Rise (Some frame.at) rest

-- the offset of the last of frames, or the one before, where there are none
abbrev pub last_offset : Option ℕ → List Frame → Option ℕ
last_offset before [] = before
last_offset before (frame ∷ rest) = last_offset (Some frame.at) rest

-- Frames that a table can spell.
pub record AreWritable (frames : List Frame) : Type 0 where
  pub few : length frames ≤ 65535
  pub rise : Rise None frames
  pub fit : All FitsFrame frames

-- ---- homes

-- Homes as a layout gives them: starts and homes rise strictly, and each start has a home.
pub record AreHomes (given : Homes) : Type 0 where
  pub starts : IsStrictlyIncreasing given.from
  pub homes : IsStrictlyIncreasing given.home
  pub each : length given.home ≡ length given.from

-- each frame is at one of these offsets
abbrev pub EachStands : List ℕ → List Frame → Type 0
EachStands starts frames = All (λ (frame : Frame). Contains starts frame.at) frames

-- ---- numbers of frames

abbrev pub is_u2 : ℕ → Bool
is_u2 n = nat_lt n 65536

-- the class index or the offset of a type is a u2
abbrev pub is_narrow_type : VType → Bool
is_narrow_type (Object index) = is_u2 index
is_narrow_type (Uninit offset) = is_u2 offset
is_narrow_type _ = true

abbrev pub is_narrow_kind : FrameKind → Bool
is_narrow_kind (OneItem item) = is_narrow_type item
is_narrow_kind (Append locals) = list_all is_narrow_type locals
is_narrow_kind (Full locals operands) = list_all is_narrow_type locals && list_all is_narrow_type operands
is_narrow_kind _ = true

-- all numbers of a frame are u2
abbrev pub is_narrow_frame : Frame → Bool
is_narrow_frame frame = is_u2 frame.at && is_narrow_kind frame.kind
