-- Tables of a Code that keep to their grammars, as admission asks, and what becomes of them in a version (JVM
-- Specification 4.7.4, 4.7.8, 4.7.9, 4.7.10).
use Rattle.std.specs.Prelude.{◌≡◌, ℕ, List, length, map, true, None, Ok, is_ok}
use Rattle.std.specs.List.{AllByRecursion}
use Rattle.const_pool.specs.declared.class.CodeAttribute.{CodeAttribute}
use Rattle.const_pool.specs.declared.class.Raw.{Raw}
use Rattle.code_model.specs.declared.instr.Instr.{Instr}
use Rattle.code_model.specs.declared.laying.Homes.{Homes}
use Rattle.jvm_model.specs.declared.event.Mark.{Mark}
use Rattle.stackmap_shift.specs.declared.frames.Frame.{Frame}
use Rattle.stackmap_shift.specs.Conditions.{AreWritable, EachStands}
use Rattle.stackmap_shift.specs.DebugTables.{lines_of, variables_of, shifted_lines, shifted_variables}
use Rattle.stackmap_shift.specs.Frames.{frames_of}
use Rattle.stackmap_shift.specs.Spelling.{table_bytes}
use Rattle.inject_events.specs.declared.settings.Setting.{Setting}
use Rattle.inject_events.specs.declared.settings.Table.{Table}
use Rattle.inject_events.specs.declared.settings.Table.TheVariants as table
use Rattle.inject_events.specs.Answers.{IsReadableCode}
use Rattle.inject_events.specs.Rewriting.{instrs_in, laid_version_of, version_cause}
use Rattle.inject_events.specs.Tables.{table_of, version_frames, moved_raw}

abbrev pub starts_of : List Instr → List ℕ
starts_of instrs = map (λ (i : Instr). i.at) instrs

-- the frames of a table are in order, and each is at one of these starts
pub record HasSoundFrames (starts bytes : List ℕ) : Type 0 where
  pub frames : List Frame
  pub read : frames_of bytes ≡ Ok frames
  pub writable : AreWritable frames
  pub stand : EachStands starts frames

abbrev pub IsSoundTable : List ℕ → Table → List ℕ → Type 0
IsSoundTable starts table.Lines bytes = is_ok (lines_of bytes) ≡ true
IsSoundTable starts table.Variables bytes = is_ok (variables_of bytes) ≡ true
IsSoundTable starts table.Frames bytes = HasSoundFrames starts bytes
IsSoundTable starts table.Other bytes = Unit {0}

abbrev pub HasSoundTables : Setting → CodeAttribute → Type 0
HasSoundTables s old = AllByRecursion (λ (raw : Raw). IsSoundTable (starts_of (instrs_in old.code)) (table_of s raw.name) raw.bytes) old.attributes

-- what a table becomes: rows and frames are moved, frames with the one of the added handler, and other bytes stay
abbrev pub IsMovedTable : Setting → Homes → ℕ → Table → List ℕ → List ℕ → Type 0
IsMovedTable s homes end table.Lines old new = shifted_lines homes old ≡ Ok new
IsMovedTable s homes end table.Variables old new = shifted_variables homes old ≡ Ok new
IsMovedTable s homes end table.Frames old new = (frames : List Frame) × (frames_of old ≡ Ok frames) × (new ≡ table_bytes (version_frames s homes end frames))
IsMovedTable s homes end table.Other old new = new ≡ old

abbrev pub IsMovedRaw : Setting → Homes → ℕ → Raw → Type 0
IsMovedRaw s homes end raw = IsMovedTable s homes end (table_of s raw.name) raw.bytes (moved_raw s homes end raw).bytes

-- So each sound table of a Code that has a version is moved, and none is kept as it was.
abbrev pub MovesSoundTables : Setting → Type 0
MovesSoundTables s = (number : ℕ) (mark : Mark) (old : CodeAttribute) → IsReadableCode old.code → version_cause s number mark old ≡ None → HasSoundTables s old
    → AllByRecursion (IsMovedRaw s (laid_version_of s number mark old).homes (length old.code)) old.attributes
