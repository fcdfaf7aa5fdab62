-- The tables of a Code in its version, by what the versions of a class have in common: an image has each so
-- (proofs/Images). And tables without room.
use Rattle.std.specs.Prelude.{ℕ, Bool, true, false, not, List, [], ◌∷◌, ◌++◌, length, map, Result, Ok, Err, codes, ◌==◌, ◌&&◌, ◌||◌, if◌then◌else◌}
use Rattle.std.specs.List.{list_any}
use Rattle.const_pool.specs.declared.class.Raw.{Raw}
use Rattle.const_pool.specs.References.{same_text_at}
use Rattle.code_model.specs.declared.laying.Homes.{Homes}
use Rattle.code_model.specs.Layout.{home_of}
use Rattle.jvm_model.specs.Rewriting.ImageTables.{moved_lines, moved_variables, last_frame, frames_with_last, framed_by, moved_frames_of}
use Rattle.stackmap_shift.specs.declared.error.FrameError.{FrameError}
use Rattle.stackmap_shift.specs.declared.frames.Frame.{Frame}
use Rattle.stackmap_shift.specs.Frames.{frames_of}
use Rattle.stackmap_shift.specs.Spelling.{table_bytes}
use Rattle.inject_events.specs.declared.settings.Setting.{Setting}
use Rattle.inject_events.specs.declared.settings.Table.{Table}
use Rattle.inject_events.specs.declared.settings.Table.TheVariants as table

-- ---- which table an attribute is

-- by its name; in a class without frames a StackMapTable is like any other attribute
abbrev pub table_of : Setting → ℕ → Table
table_of s name =
    if same_text_at s.tail.pool name (codes "LineNumberTable") then table.Lines
    else if same_text_at s.tail.pool name (codes "LocalVariableTable") then table.Variables
    else if same_text_at s.tail.pool name (codes "LocalVariableTypeTable") then table.Variables
    else if s.framed && same_text_at s.tail.pool name (codes "StackMapTable") then table.Frames
    else table.Other

-- ---- frames (4.7.4)

-- the frames by homes, and behind them the one of the added handler, which stands at the home of the code's end
abbrev pub version_frames : Setting → Homes → ℕ → List Frame → List Frame
version_frames s homes end frames = frames_with_last s.tail.throwable homes end frames

abbrev pub framed_or_kept : Setting → Homes → ℕ → List ℕ → Result (List Frame) FrameError → List ℕ
framed_or_kept s homes end bytes found = framed_by s.tail.throwable homes end bytes found

abbrev pub moved_frame_table : Setting → Homes → ℕ → List ℕ → List ℕ
moved_frame_table s homes end bytes = moved_frames_of s.tail.throwable homes end bytes

-- ---- all attributes of a Code, which ended at `end`

abbrev pub moved_table : Setting → Homes → ℕ → Table → List ℕ → List ℕ
moved_table s homes end table.Lines bytes = moved_lines homes bytes
moved_table s homes end table.Variables bytes = moved_variables homes bytes
moved_table s homes end table.Frames bytes = moved_frame_table s homes end bytes
moved_table s homes end table.Other bytes = bytes

abbrev pub moved_raw : Setting → Homes → ℕ → Raw → Raw
moved_raw s homes end raw = record { name = raw.name; bytes = moved_table s homes end (table_of s raw.name) raw.bytes }

abbrev pub is_frame_table : Table → Bool
is_frame_table table.Lines = false
is_frame_table table.Variables = false
is_frame_table table.Frames = true
is_frame_table table.Other = false

abbrev pub has_frames : Setting → List Raw → Bool
has_frames s raws = list_any (λ (raw : Raw). is_frame_table (table_of s raw.name)) raws

-- whether a StackMapTable is to be added
abbrev pub lacks_frames : Setting → List Raw → Bool
lacks_frames s raws = s.framed && not (has_frames s raws)

-- the table that is added has the frame of the added handler alone
abbrev pub added_table : Setting → Homes → ℕ → Raw
added_table s homes end = record { name = s.tail.frames; bytes = table_bytes (last_frame (home_of homes end) s.tail.throwable ∷ []) }

abbrev pub added_tables : Setting → Homes → ℕ → List Raw → List Raw
added_tables s homes end raws = if lacks_frames s raws then added_table s homes end ∷ [] else []

abbrev pub version_tables : Setting → Homes → ℕ → List Raw → List Raw
version_tables s homes end raws = map (moved_raw s homes end) raws ++ added_tables s homes end raws

-- ---- tables without room

abbrev pub frame_count : Result (List Frame) FrameError → ℕ
frame_count (Ok frames) = length frames
frame_count (Err fault) = 0

-- a StackMapTable that would get one frame more than it can have
abbrev pub is_full_table : Setting → Raw → Bool
is_full_table s raw = is_frame_table (table_of s raw.name) && (frame_count (frames_of raw.bytes) == 65535)

abbrev pub has_full_table : Setting → List Raw → Bool
has_full_table s raws = list_any (is_full_table s) raws

-- whether frames find no room in these attributes
abbrev pub are_frames_full : Setting → List Raw → Bool
are_frames_full s raws = has_full_table s raws || (lacks_frames s raws && (length raws == 65535))
