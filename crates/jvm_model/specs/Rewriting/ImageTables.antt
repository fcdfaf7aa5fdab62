-- The attributes of a version's Code in an image (JVM Specification 4.7.4, 4.7.8, 4.7.9, 4.7.10): rows of debug tables
-- and frames by homes, and a frame for the handler that is added. A table that breaks its grammar, or whose frames a
-- table can't have, stays as it is: no class that passed admission has one.
use Rattle.std.specs.Prelude.{ℕ, Bool, true, not, List, [], ◌∷◌, ◌++◌, length, map, Option, Some, None, Result, Ok, Err, codes, nat_le, nat_lt, ◌==◌, ◌&&◌, ◌||◌, if◌then◌else◌}
use Rattle.std.specs.List.{list_any}
use Rattle.const_pool.specs.declared.class.ClassFile.{ClassFile}
use Rattle.const_pool.specs.declared.class.Raw.{Raw}
use Rattle.const_pool.specs.declared.pool.Const.{Const}
use Rattle.const_pool.specs.Tail.{with_tail, throwable_index, frames_index}
use Rattle.code_model.specs.declared.laying.Homes.{Homes}
use Rattle.code_model.specs.Layout.{home_of}
use Rattle.stackmap_shift.specs.declared.error.FrameError.{FrameError}
use Rattle.stackmap_shift.specs.declared.frames.Frame.{Frame}
use Rattle.stackmap_shift.specs.declared.frames.FrameKind.TheVariants.{Full}
use Rattle.stackmap_shift.specs.declared.frames.VType.TheVariants.{Object}
use Rattle.stackmap_shift.specs.DebugTables.{shifted_lines, shifted_variables}
use Rattle.stackmap_shift.specs.Frames.{frames_of}
use Rattle.stackmap_shift.specs.Moves.{moved_frames}
use Rattle.stackmap_shift.specs.Spelling.{table_bytes}
use Rattle.const_pool.specs.References.{same_text_at}

-- ---- debug tables

abbrev pub moved_or_kept : List ℕ → Result (List ℕ) FrameError → List ℕ
moved_or_kept bytes (Ok moved) = moved
moved_or_kept bytes (Err fault) = bytes

-- rows by homes: LineNumberTable (4.7.8)
abbrev pub moved_lines : Homes → List ℕ → List ℕ
moved_lines homes bytes = moved_or_kept bytes (shifted_lines homes bytes)

-- LocalVariableTable and LocalVariableTypeTable (4.7.9, 4.7.10)
abbrev pub moved_variables : Homes → List ℕ → List ℕ
moved_variables homes bytes = moved_or_kept bytes (shifted_variables homes bytes)

-- ---- frames (4.7.4)

-- the frame of the added handler: no locals, and a java/lang/Throwable
abbrev pub last_frame : ℕ → ℕ → Frame
last_frame handler throwable = record { at = handler; kind = Full [] (Object throwable ∷ []) }

-- whether a frame stands behind the one before
abbrev pub is_behind : Option ℕ → ℕ → Bool
is_behind None at = true
is_behind (Some before) at = nat_lt before at

abbrev pub rise_from : Option ℕ → List Frame → Bool
rise_from before [] = true
rise_from before (frame ∷ rest) = is_behind before frame.at && rise_from (Some frame.at) rest

-- whether a table can have these frames
abbrev pub is_writable : List Frame → Bool
is_writable frames = nat_le (length frames) 65535 && rise_from None frames

abbrev pub written_or_kept : List ℕ → List Frame → List ℕ
written_or_kept bytes frames = if is_writable frames then table_bytes frames else bytes

-- The frames by homes, and behind them the one of the added handler, which stands at the home of the code's end. The
-- class at the index `throwable` is java/lang/Throwable.
abbrev pub frames_with_last : ℕ → Homes → ℕ → List Frame → List Frame
frames_with_last throwable homes end frames = moved_frames homes frames ++ last_frame (home_of homes end) throwable ∷ []

abbrev pub framed_by : ℕ → Homes → ℕ → List ℕ → Result (List Frame) FrameError → List ℕ
framed_by throwable homes end bytes (Ok frames) = written_or_kept bytes (frames_with_last throwable homes end frames)
framed_by throwable homes end bytes (Err fault) = bytes

abbrev pub moved_frames_of : ℕ → Homes → ℕ → List ℕ → List ℕ
moved_frames_of throwable homes end bytes = framed_by throwable homes end bytes (frames_of bytes)

-- ---- which table an attribute is, by its name in the pool

abbrev pub is_line_table : List Const → ℕ → Bool
is_line_table pool name = same_text_at pool name (codes "LineNumberTable")

abbrev pub is_variable_table : List Const → ℕ → Bool
is_variable_table pool name = same_text_at pool name (codes "LocalVariableTable") || same_text_at pool name (codes "LocalVariableTypeTable")

-- a StackMapTable counts in major 50 alone (4.7.4, 4.10)
abbrev pub is_stack_map_table : ClassFile → ℕ → Bool
is_stack_map_table c name = (c.major == 50) && same_text_at (with_tail c.pool) name (codes "StackMapTable")

-- ---- all attributes of a Code of this class, which ended at `end`

abbrev pub image_table : ClassFile → Homes → ℕ → Raw → List ℕ
image_table c homes end raw =
    if is_line_table (with_tail c.pool) raw.name then moved_lines homes raw.bytes
    else if is_variable_table (with_tail c.pool) raw.name then moved_variables homes raw.bytes
    else if is_stack_map_table c raw.name then moved_frames_of (throwable_index (length c.pool)) homes end raw.bytes
    else raw.bytes

abbrev pub image_attribute : ClassFile → Homes → ℕ → Raw → Raw
image_attribute c homes end raw = record { name = raw.name; bytes = image_table c homes end raw }

-- whether a StackMapTable is to be added
abbrev pub lacks_stack_map_table : ClassFile → List Raw → Bool
lacks_stack_map_table c raws = (c.major == 50) && not (list_any (λ (raw : Raw). is_stack_map_table c raw.name) raws)

-- the table that is added has the frame of the added handler alone
abbrev pub added_stack_map_table : ClassFile → Homes → ℕ → Raw
added_stack_map_table c homes end = record { name = frames_index (length c.pool); bytes = table_bytes (last_frame (home_of homes end) (throwable_index (length c.pool)) ∷ []) }

abbrev pub image_attributes : ClassFile → Homes → ℕ → List Raw → List Raw
image_attributes c homes end raws =
    map (image_attribute c homes end) raws ++ (if lacks_stack_map_table c raws then added_stack_map_table c homes end ∷ [] else [])
