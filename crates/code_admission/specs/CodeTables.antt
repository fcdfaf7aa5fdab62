-- The tables of a Code, in every class file version: debug tables keep to their grammars, whatever offsets their rows
-- have (JVM Specification 4.7.8, 4.7.9, 4.7.10), and a StackMapTable keeps to its own and speaks of the starts of
-- instructions alone (4.7.4).
use Rattle.std.specs.Prelude.{ℕ, Bool, true, false, List, Result, Ok, Err, is_ok, codes, ◌&&◌, if◌then◌else◌}
use Rattle.std.specs.List.{list_all}
use Rattle.const_pool.specs.declared.class.Raw.{Raw}
use Rattle.const_pool.specs.declared.pool.Const.{Const}
use Rattle.const_pool.specs.References.{same_text_at}
use Rattle.code_model.specs.declared.instr.Instr.{Instr}
use Rattle.stackmap_shift.specs.declared.error.FrameError.{FrameError}
use Rattle.stackmap_shift.specs.declared.frames.Frame.{Frame}
use Rattle.stackmap_shift.specs.declared.frames.FrameKind.{FrameKind}
use Rattle.stackmap_shift.specs.declared.frames.FrameKind.TheVariants.{Same, OneItem, Chop, Append, Full}
use Rattle.stackmap_shift.specs.declared.frames.VType.{VType}
use Rattle.stackmap_shift.specs.declared.frames.VType.TheVariants.{Uninit}
use Rattle.stackmap_shift.specs.DebugTables.{lines_of, variables_of}
use Rattle.stackmap_shift.specs.Frames.{frames_of}
use Rattle.code_model.specs.Groups.{is_start}

-- ---- frames

-- an Uninitialized names an instruction
abbrev pub fits_vtype : List Instr → VType → Bool
fits_vtype instrs (Uninit offset) = is_start instrs offset
fits_vtype instrs _ = true

abbrev pub fits_vtypes : List Instr → List VType → Bool
fits_vtypes instrs types = list_all (fits_vtype instrs) types

abbrev pub fits_frame_kind : List Instr → FrameKind → Bool
fits_frame_kind instrs Same = true
fits_frame_kind instrs (OneItem item) = fits_vtype instrs item
fits_frame_kind instrs (Chop count) = true
fits_frame_kind instrs (Append locals) = fits_vtypes instrs locals
fits_frame_kind instrs (Full locals operands) = fits_vtypes instrs locals && fits_vtypes instrs operands

abbrev pub fits_frame : List Instr → Frame → Bool
fits_frame instrs f = is_start instrs f.at && fits_frame_kind instrs f.kind

abbrev pub fits_frames : List Instr → Result (List Frame) FrameError → Bool
fits_frames instrs (Ok frames) = list_all (fits_frame instrs) frames
fits_frames instrs (Err fault) = false

-- ---- a table, by its name; other attributes are free

abbrev pub is_frame_name : List Const → ℕ → Bool
is_frame_name pool name = same_text_at pool name (codes "StackMapTable")

abbrev pub fits_table : List Const → List Instr → ℕ → List ℕ → Bool
fits_table pool instrs name bytes =
    if same_text_at pool name (codes "LineNumberTable") then is_ok (lines_of bytes)
    else if same_text_at pool name (codes "LocalVariableTable") then is_ok (variables_of bytes)
    else if same_text_at pool name (codes "LocalVariableTypeTable") then is_ok (variables_of bytes)
    else if is_frame_name pool name then fits_frames instrs (frames_of bytes)
    else true

abbrev pub fits_raw : List Const → List Instr → Raw → Bool
fits_raw pool instrs raw = fits_table pool instrs raw.name raw.bytes
