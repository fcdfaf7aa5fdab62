-- Floats and doubles in the frames of a StackMapTable (JVM Specification 4.7.4), which counts in major 50 alone.
use Rattle.std.specs.Prelude.{ℕ, Bool, true, false, List, Option, None, Result, Ok, Err, ◌==◌, ◌||◌, if◌then◌else◌}
use Rattle.std.specs.List.{list_any}
use Rattle.std.specs.Option.{option_and_then, option_map}
use Rattle.const_pool.specs.declared.class.ClassFile.{ClassFile}
use Rattle.const_pool.specs.declared.class.CodeAttribute.{CodeAttribute}
use Rattle.const_pool.specs.declared.class.Member.{Member}
use Rattle.const_pool.specs.declared.class.Raw.{Raw}
use Rattle.const_pool.specs.declared.pool.Const.{Const}
use Rattle.jvm_model.specs.Basis.Methods.{code_of}
use Rattle.stackmap_shift.specs.declared.error.FrameError.{FrameError}
use Rattle.stackmap_shift.specs.declared.frames.Frame.{Frame}
use Rattle.stackmap_shift.specs.declared.frames.FrameKind.{FrameKind}
use Rattle.stackmap_shift.specs.declared.frames.FrameKind.TheVariants.{Same, OneItem, Chop, Append, Full}
use Rattle.stackmap_shift.specs.declared.frames.VType.{VType}
use Rattle.stackmap_shift.specs.declared.frames.VType.TheVariants.{Float, Double}
use Rattle.stackmap_shift.specs.Frames.{frames_of}
use Rattle.code_admission.specs.declared.error.AdmitError.{AdmitError}
use Rattle.code_admission.specs.declared.error.AdmitError.TheVariants.{FloatingPoint}
use Rattle.code_admission.specs.declared.error.FloatingPointUse.TheVariants as place
use Rattle.code_admission.specs.Checks.{fault_if, first_in, first_from}
use Rattle.code_admission.specs.CodeTables.{is_frame_name}

-- ---- a frame

abbrev pub is_floating_vtype : VType → Bool
is_floating_vtype Float = true
is_floating_vtype Double = true
is_floating_vtype _ = false

abbrev pub are_floating : List VType → Bool
are_floating types = list_any is_floating_vtype types

abbrev pub is_floating_kind : FrameKind → Bool
is_floating_kind Same = false
is_floating_kind (OneItem item) = is_floating_vtype item
is_floating_kind (Chop count) = false
is_floating_kind (Append locals) = are_floating locals
is_floating_kind (Full locals operands) = are_floating locals || are_floating operands

-- ---- the offset of the first one of a table, and of all tables of a code

abbrev pub floating_frame : Frame → Option ℕ
floating_frame f = fault_if (is_floating_kind f.kind) f.at

abbrev pub first_floating_frame : Result (List Frame) FrameError → Option ℕ
first_floating_frame (Ok frames) = first_in floating_frame frames
first_floating_frame (Err fault) = None

abbrev pub floating_raw : List Const → Raw → Option ℕ
floating_raw pool raw = if is_frame_name pool raw.name then first_floating_frame (frames_of raw.bytes) else None

abbrev pub floating_tables : List Const → CodeAttribute → Option ℕ
floating_tables pool code = first_in (floating_raw pool) code.attributes

-- ---- a class

abbrev pub floating_frames_of : ℕ → List Const → ℕ → Member → Option AdmitError
floating_frames_of k pool at m = option_map (λ offset. FloatingPoint k (place.Frame at offset)) (option_and_then (floating_tables pool) (code_of m))

abbrev pub floating_frames : ℕ → ClassFile → Option AdmitError
floating_frames k c = if c.major == 50 then first_from (floating_frames_of k c.pool) 0 c.methods else None
