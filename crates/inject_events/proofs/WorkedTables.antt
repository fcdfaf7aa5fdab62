-- The definitions of a version's tables, computed: on the code of P1's method f (iload_0, iconst_1, iadd, ireturn),
-- whose version has its added handler at 16, and on that of a method h (0 iload_0, 1 ifeq 6, 4 iconst_1, 5 ireturn, 6
-- iconst_2, 7 ireturn), whose version has it at 26.
use Rattle.std.specs.Prelude.{◌≡◌, ℕ, Bool, true, false, [], ◌∷◌, Some, None, codes, refl}
use Rattle.const_pool.specs.declared.class.CodeAttribute.{CodeAttribute}
use Rattle.const_pool.specs.declared.pool.Const.TheVariants.{Gap, Utf8}
use Rattle.code_model.specs.declared.laying.Homes.{Homes}
use Rattle.stackmap_shift.specs.DebugTables.{line_at, variable_at, lines_of, variables_of, shifted_lines, shifted_variables}
use Rattle.stackmap_shift.specs.Frames.{uninit_at, behind_tag, type_at, one_item_at, kind_at, frame_at, frames_at, table_at, frames_of}
use Rattle.stackmap_shift.specs.Tables.{number_at, many_at, counted_at}
use Rattle.inject_events.specs.declared.error.Cause.TheVariants as cause
use Rattle.inject_events.specs.declared.settings.Setting.{Setting}
use Rattle.inject_events.specs.declared.settings.Table.TheVariants as table
use Rattle.inject_events.specs.Rewriting.{room_cause}
use Rattle.inject_events.specs.Tables.{table_of, moved_table, version_tables}

abbrev pub setting : Bool → Setting
setting framed = record {
  framed = framed;
  tail = record { pool = Gap ∷ Utf8 (codes "StackMapTable") ∷ Utf8 (codes "LineNumberTable") ∷ []; root = 29; enter = 32; leave = 35; unwind = 38; throwable = 40; frames = 41 };
}

abbrev f_homes : Homes
f_homes = record { from = 0 ∷ 1 ∷ 2 ∷ 3 ∷ 4 ∷ []; home = 6 ∷ 7 ∷ 8 ∷ 9 ∷ 16 ∷ []; place = 6 ∷ 7 ∷ 8 ∷ 15 ∷ 16 ∷ [] }

abbrev h_homes : Homes
h_homes = record { from = 0 ∷ 1 ∷ 4 ∷ 5 ∷ 6 ∷ 7 ∷ 8 ∷ []; home = 6 ∷ 7 ∷ 10 ∷ 11 ∷ 18 ∷ 19 ∷ 26 ∷ []; place = 6 ∷ 7 ∷ 10 ∷ 17 ∷ 18 ∷ 25 ∷ 26 ∷ [] }

-- ---- which table it is

frames_in_50 : table_of (setting true) 1 ≡ table.Frames
frames_in_50 = refl

bytes_in_49 : table_of (setting false) 1 ≡ table.Other
bytes_in_49 = refl

lines_in_49 : table_of (setting false) 2 ≡ table.Lines
lines_in_49 = refl

-- ---- debug tables

lines_of_f : moved_table (setting true) f_homes 4 table.Lines (0 ∷ 2 ∷ 0 ∷ 0 ∷ 0 ∷ 3 ∷ 0 ∷ 3 ∷ 0 ∷ 4 ∷ []) ≡ 0 ∷ 2 ∷ 0 ∷ 6 ∷ 0 ∷ 3 ∷ 0 ∷ 9 ∷ 0 ∷ 4 ∷ []
unfolding shifted_lines lines_of counted_at many_at line_at number_at
lines_of_f = refl

-- an offset inside an instruction is that of the next one, and one past the end is the end
lines_of_h : moved_table (setting true) h_homes 8 table.Lines (0 ∷ 2 ∷ 0 ∷ 2 ∷ 0 ∷ 3 ∷ 0 ∷ 100 ∷ 0 ∷ 4 ∷ []) ≡ 0 ∷ 2 ∷ 0 ∷ 10 ∷ 0 ∷ 3 ∷ 0 ∷ 26 ∷ 0 ∷ 4 ∷ []
unfolding shifted_lines lines_of counted_at many_at line_at number_at
lines_of_h = refl

-- a variable over the whole code
variable_of_f : moved_table (setting true) f_homes 4 table.Variables (0 ∷ 1 ∷ 0 ∷ 0 ∷ 0 ∷ 4 ∷ 0 ∷ 11 ∷ 0 ∷ 12 ∷ 0 ∷ 0 ∷ []) ≡ 0 ∷ 1 ∷ 0 ∷ 6 ∷ 0 ∷ 10 ∷ 0 ∷ 11 ∷ 0 ∷ 12 ∷ 0 ∷ 0 ∷ []
unfolding shifted_variables variables_of counted_at many_at variable_at number_at
variable_of_f = refl

-- bytes that are no table stay
no_lines : moved_table (setting true) f_homes 4 table.Lines (0 ∷ 2 ∷ 0 ∷ []) ≡ 0 ∷ 2 ∷ 0 ∷ []
unfolding shifted_lines lines_of counted_at many_at line_at number_at
no_lines = refl

-- ---- frames

frames_of_h : moved_table (setting true) h_homes 8 table.Frames (0 ∷ 1 ∷ 6 ∷ []) ≡ 0 ∷ 2 ∷ 0x12 ∷ 0xFF ∷ 0 ∷ 7 ∷ 0 ∷ 0 ∷ 0 ∷ 1 ∷ 7 ∷ 0 ∷ 40 ∷ []
unfolding frames_of table_at frames_at frame_at kind_at number_at
frames_of_h = refl

-- a frame goes to the home of a return, and an Uninitialized to its place
uninitialized : moved_table (setting true) f_homes 4 table.Frames (0 ∷ 1 ∷ 0x43 ∷ 8 ∷ 0 ∷ 3 ∷ []) ≡ 0 ∷ 2 ∷ 0x49 ∷ 8 ∷ 0 ∷ 15 ∷ 0xFF ∷ 0 ∷ 6 ∷ 0 ∷ 0 ∷ 0 ∷ 1 ∷ 7 ∷ 0 ∷ 40 ∷ []
unfolding frames_of table_at frames_at frame_at kind_at one_item_at type_at behind_tag uninit_at number_at
uninitialized = refl

-- a frame that is at no instruction keeps its table as it is
frame_astray : moved_table (setting true) h_homes 8 table.Frames (0 ∷ 2 ∷ 2 ∷ 0 ∷ []) ≡ 0 ∷ 2 ∷ 2 ∷ 0 ∷ []
unfolding frames_of table_at frames_at frame_at kind_at number_at
frame_astray = refl

-- ---- all attributes

added_in_50 : version_tables (setting true) f_homes 4 [] ≡ record { name = 41; bytes = 0 ∷ 1 ∷ 0xFF ∷ 0 ∷ 16 ∷ 0 ∷ 0 ∷ 0 ∷ 1 ∷ 7 ∷ 0 ∷ 40 ∷ [] } ∷ []
added_in_50 = refl

none_in_49 : version_tables (setting false) f_homes 4 [] ≡ []
none_in_49 = refl

-- each of two StackMapTables gets the frame, and no third one is added
two_tables : version_tables (setting true) h_homes 8 (record { name = 1; bytes = 0 ∷ 0 ∷ [] } ∷ record { name = 1; bytes = 0 ∷ 1 ∷ 6 ∷ [] } ∷ [])
    ≡ record { name = 1; bytes = 0 ∷ 1 ∷ 0xFF ∷ 0 ∷ 26 ∷ 0 ∷ 0 ∷ 0 ∷ 1 ∷ 7 ∷ 0 ∷ 40 ∷ [] } ∷ record { name = 1; bytes = 0 ∷ 2 ∷ 0x12 ∷ 0xFF ∷ 0 ∷ 7 ∷ 0 ∷ 0 ∷ 0 ∷ 1 ∷ 7 ∷ 0 ∷ 40 ∷ [] } ∷ []
unfolding frames_of table_at frames_at frame_at kind_at number_at
two_tables = refl

-- ---- limits

abbrev code_with_stack : ℕ → CodeAttribute
code_with_stack most = record { max_stack = most; max_locals = 1; code = 177 ∷ []; handlers = []; attributes = [] }

greatest_stack : room_cause (setting true) (code_with_stack 65534) ≡ None
greatest_stack = refl

full_stack : room_cause (setting true) (code_with_stack 65535) ≡ Some cause.Stack
full_stack = refl
