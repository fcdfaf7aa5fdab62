-- The definitions, computed on worked tables.
use Rattle.std.specs.Prelude.{◌≡◌, [], ◌∷◌, ◌++◌, Ok, Err, refl}
use Rattle.code_model.specs.declared.laying.Homes.{Homes}
use Rattle.stackmap_shift.specs.declared.error.FrameError.TheVariants.{BadFrame}
use Rattle.stackmap_shift.specs.declared.frames.VType.TheVariants.{Top, Integer, Object, Uninit}
use Rattle.stackmap_shift.specs.declared.frames.FrameKind.TheVariants.{Same, OneItem, Chop, Append, Full}
use Rattle.stackmap_shift.specs.Tables.{number_at, many_at, counted_at}
use Rattle.stackmap_shift.specs.Frames.{object_at, uninit_at, behind_tag, type_at, one_item_at, append_at, full_at, kind_at, frame_at, frames_at, table_at, frames_of}
use Rattle.stackmap_shift.specs.Spelling.{table_bytes}
use Rattle.stackmap_shift.specs.Moves.{moved_frames}
use Rattle.stackmap_shift.specs.DebugTables.{line_at, variable_at, lines_of, variables_of, shifted_lines, shifted_variables}

-- the homes of iload_0, iconst_1, iadd, ireturn with probes at its entry, in front of its return and at its end
abbrev homes_of_adding : Homes
homes_of_adding = record { from = 0 ∷ 1 ∷ 2 ∷ 3 ∷ 4 ∷ []; home = 6 ∷ 7 ∷ 8 ∷ 9 ∷ 16 ∷ []; place = 6 ∷ 7 ∷ 8 ∷ 15 ∷ 16 ∷ [] }

-- a frame at a return moves to the probe in front of it, and an Uninitialized to the instruction itself
uninit_moves : moved_frames homes_of_adding (record { at = 3; kind = OneItem (Uninit 3) } ∷ []) ≡ record { at = 9; kind = OneItem (Uninit 15) } ∷ []
uninit_moves = refl

uninit_of_the_first_moves : moved_frames homes_of_adding (record { at = 3; kind = Append (Uninit 0 ∷ Top ∷ []) } ∷ []) ≡ record { at = 9; kind = Append (Uninit 6 ∷ Top ∷ []) } ∷ []
uninit_of_the_first_moves = refl

-- iload_0, ifeq 6, iconst_1, ireturn, iconst_2, ireturn with the same probes, and the frame of the branch; behind it
-- the frame of the last handler, with a class for its operand
abbrev homes_of_branching : Homes
homes_of_branching = record { from = 0 ∷ 1 ∷ 4 ∷ 5 ∷ 6 ∷ 7 ∷ 8 ∷ []; home = 6 ∷ 7 ∷ 10 ∷ 11 ∷ 18 ∷ 19 ∷ 26 ∷ []; place = 6 ∷ 7 ∷ 10 ∷ 17 ∷ 18 ∷ 25 ∷ 26 ∷ [] }

branch_reads : frames_of (0 ∷ 1 ∷ 6 ∷ []) ≡ Ok (record { at = 6; kind = Same } ∷ [])
unfolding frames_of table_at frames_at frame_at kind_at number_at
branch_reads = refl

branch_moves : table_bytes (moved_frames homes_of_branching (record { at = 6; kind = Same } ∷ []) ++ record { at = 26; kind = Full [] (Object 40 ∷ []) } ∷ [])
    ≡ 0 ∷ 2 ∷ 18 ∷ 255 ∷ 0 ∷ 7 ∷ 0 ∷ 0 ∷ 0 ∷ 1 ∷ 7 ∷ 0 ∷ 40 ∷ []
branch_moves = refl

-- one of each kind, the offsets 1, 65, 67, 132, 134, 199, 201, 65535
every_kind : frames_of (0 ∷ 8 ∷ 1 ∷ 63 ∷ 65 ∷ 1 ∷ 247 ∷ 0 ∷ 64 ∷ 0 ∷ 248 ∷ 0 ∷ 1 ∷ 251 ∷ 0 ∷ 64 ∷ 253 ∷ 0 ∷ 1 ∷ 7 ∷ 1 ∷ 2 ∷ 8 ∷ 0 ∷ 3 ∷ 255 ∷ 255 ∷ 53 ∷ 0 ∷ 1 ∷ 0 ∷ 0 ∷ 0 ∷ [])
    ≡ Ok (record { at = 1; kind = Same } ∷ record { at = 65; kind = Same } ∷ record { at = 67; kind = OneItem Integer } ∷ record { at = 132; kind = OneItem Top } ∷ record { at = 134; kind = Chop 3 }
    ∷ record { at = 199; kind = Same } ∷ record { at = 201; kind = Append (Object 258 ∷ Uninit 3 ∷ []) } ∷ record { at = 65535; kind = Full (Top ∷ []) [] } ∷ [])
unfolding frames_of table_at frames_at frame_at kind_at one_item_at append_at full_at type_at behind_tag object_at uninit_at counted_at many_at number_at
every_kind = refl

-- ---- tables that break the grammar

no_type_of_frames : frames_of (0 ∷ 1 ∷ 200 ∷ []) ≡ Err (BadFrame 2)
unfolding frames_of table_at frames_at frame_at number_at
no_type_of_frames = refl

no_tag : frames_of (0 ∷ 1 ∷ 64 ∷ 9 ∷ []) ≡ Err (BadFrame 3)
unfolding frames_of table_at frames_at frame_at kind_at one_item_at type_at behind_tag number_at
no_tag = refl

ends_within_the_delta : frames_of (0 ∷ 2 ∷ 0 ∷ 251 ∷ 255 ∷ []) ≡ Err (BadFrame 5)
unfolding frames_of table_at frames_at frame_at kind_at number_at
ends_within_the_delta = refl

byte_left_over : frames_of (0 ∷ 1 ∷ 0 ∷ 0 ∷ []) ≡ Err (BadFrame 3)
unfolding frames_of table_at frames_at frame_at kind_at number_at
byte_left_over = refl

-- the second frame would stand at 65536, and its tag is none; the offset comes first
too_far : frames_of (0 ∷ 2 ∷ 251 ∷ 255 ∷ 255 ∷ 64 ∷ 9 ∷ []) ≡ Err (BadFrame 5)
unfolding frames_of table_at frames_at frame_at kind_at number_at
too_far = refl

-- ---- debug tables

lines_move : shifted_lines homes_of_adding (0 ∷ 2 ∷ 0 ∷ 0 ∷ 0 ∷ 3 ∷ 0 ∷ 3 ∷ 0 ∷ 4 ∷ []) ≡ Ok (0 ∷ 2 ∷ 0 ∷ 6 ∷ 0 ∷ 3 ∷ 0 ∷ 9 ∷ 0 ∷ 4 ∷ [])
unfolding shifted_lines lines_of line_at counted_at many_at number_at
lines_move = refl

-- off an instruction's start, and past the code's end
lines_between_move : shifted_lines homes_of_branching (0 ∷ 2 ∷ 0 ∷ 2 ∷ 0 ∷ 3 ∷ 0 ∷ 9 ∷ 0 ∷ 4 ∷ []) ≡ Ok (0 ∷ 2 ∷ 0 ∷ 10 ∷ 0 ∷ 3 ∷ 0 ∷ 26 ∷ 0 ∷ 4 ∷ [])
unfolding shifted_lines lines_of line_at counted_at many_at number_at
lines_between_move = refl

variables_move : shifted_variables homes_of_adding (0 ∷ 1 ∷ 0 ∷ 0 ∷ 0 ∷ 4 ∷ 1 ∷ 2 ∷ 3 ∷ 4 ∷ 5 ∷ 6 ∷ []) ≡ Ok (0 ∷ 1 ∷ 0 ∷ 6 ∷ 0 ∷ 10 ∷ 1 ∷ 2 ∷ 3 ∷ 4 ∷ 5 ∷ 6 ∷ [])
unfolding shifted_variables variables_of variable_at counted_at many_at number_at
variables_move = refl

lines_end_early : shifted_lines homes_of_adding (0 ∷ 2 ∷ 0 ∷ 0 ∷ 0 ∷ 3 ∷ []) ≡ Err (BadFrame 6)
unfolding shifted_lines lines_of line_at counted_at many_at number_at
lines_end_early = refl

lines_go_on : shifted_lines homes_of_adding (0 ∷ 0 ∷ 0 ∷ 0 ∷ []) ≡ Err (BadFrame 2)
unfolding shifted_lines lines_of line_at counted_at many_at number_at
lines_go_on = refl
