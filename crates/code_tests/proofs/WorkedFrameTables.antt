-- Tables by hand, from the pages of the attributes in the JVM Specification, 4.7.4, 4.7.8 and 4.7.9. More that is moved
-- stands in WorkedTables of inject_events.
use Rattle.std.proofs.Common.{◌≡◌, ℕ, List, [], ◌∷◌, refl, map}
use Rattle.std.specs.Prelude.{Result, Ok, Err, take}
use Rattle.code_model.specs.declared.laying.Homes.{Homes}
use Rattle.stackmap_shift.specs.declared.error.FrameError.{FrameError}
use Rattle.stackmap_shift.specs.declared.error.FrameError.TheVariants.{BadFrame}
use Rattle.stackmap_shift.specs.declared.frames.Frame.{Frame}
use Rattle.stackmap_shift.specs.declared.frames.FrameKind.TheVariants.{OneItem}
use Rattle.stackmap_shift.specs.declared.frames.VType.TheVariants.{Uninit}
use Rattle.stackmap_shift.specs.DebugTables.{line_at, variable_at, lines_of, variables_of, shifted_lines, shifted_variables}
use Rattle.stackmap_shift.specs.Frames.{object_at, uninit_at, behind_tag, type_at, one_item_at, append_at, full_at, kind_at, frame_at, frames_at, table_at, frames_of}
use Rattle.stackmap_shift.specs.Moves.{moved_frames}
use Rattle.stackmap_shift.specs.Spelling.{table_bytes}
use Rattle.stackmap_shift.specs.Tables.{number_at, many_at, counted_at}

abbrev spelled : Result (List Frame) FrameError → Result (List ℕ) FrameError
spelled (Ok frames) = Ok (table_bytes frames)
spelled (Err fault) = Err fault

-- what is written of the frames that are read
abbrev written : List ℕ → Result (List ℕ) FrameError
written bytes = spelled (frames_of bytes)

-- ---- frames

branch : written (0 ∷ 1 ∷ 6 ∷ []) ≡ Ok (0 ∷ 1 ∷ 6 ∷ [])
unfolding frames_of table_at frames_at frame_at kind_at number_at
branch = refl

-- a frame of each kind, at 1, 65, 67, 132, 134, 199, 201 and 65535
abbrev every_kind : List ℕ
every_kind =
    0 ∷ 8 ∷ 1 ∷ 63 ∷ 65 ∷ 1 ∷ 247 ∷ 0 ∷ 64 ∷ 0 ∷ 248 ∷ 0 ∷ 1 ∷ 251 ∷ 0 ∷ 64 ∷ 253 ∷ 0 ∷ 1 ∷ 7 ∷ 1 ∷ 2 ∷ 8 ∷ 0 ∷ 3 ∷ 255
    ∷ 255 ∷ 53 ∷ 0 ∷ 1 ∷ 0 ∷ 0 ∷ 0 ∷ []

each_kind : written every_kind ≡ Ok every_kind
unfolding frames_of table_at frames_at frame_at kind_at one_item_at append_at full_at counted_at many_at type_at behind_tag object_at uninit_at number_at
each_kind = refl

-- a same frame and one of one item in the long form, with a delta of 63, and what is behind them
abbrev long : List ℕ
long = 0 ∷ 2 ∷ 251 ∷ 0 ∷ 63 ∷ 247 ∷ 0 ∷ 63 ∷ 4 ∷ 0 ∷ []

made_short : written (take 9 long) ≡ Ok (0 ∷ 2 ∷ 63 ∷ 127 ∷ 4 ∷ [])
unfolding frames_of table_at frames_at frame_at kind_at one_item_at type_at behind_tag number_at
made_short = refl

-- ---- the first bad byte

-- no frame's type; no tag; ends within a delta; goes on behind its frames; a frame above 65535 whose tag is none either
bad : map frames_of ((0 ∷ 1 ∷ 200 ∷ []) ∷ (0 ∷ 1 ∷ 128 ∷ []) ∷ (0 ∷ 1 ∷ 64 ∷ 9 ∷ []) ∷ (0 ∷ 2 ∷ 0 ∷ 251 ∷ 255 ∷ []) ∷ (0 ∷ 1 ∷ 0 ∷ 0 ∷ []) ∷ (0 ∷ 2 ∷ 251 ∷ 255 ∷ 255 ∷ 64 ∷ 9 ∷ []) ∷ (0 ∷ []) ∷ long ∷ [])
    ≡ Err (BadFrame 2) ∷ Err (BadFrame 2) ∷ Err (BadFrame 3) ∷ Err (BadFrame 5) ∷ Err (BadFrame 3) ∷ Err (BadFrame 5) ∷ Err (BadFrame 1) ∷ Err (BadFrame 9) ∷ []
unfolding frames_of table_at frames_at frame_at kind_at one_item_at type_at behind_tag number_at
bad = refl

-- ---- with six bytes at the entry of iload_0, iconst_1, iadd, ireturn and in front of its return

abbrev homes : Homes
homes = record { from = 0 ∷ 1 ∷ 2 ∷ 3 ∷ 4 ∷ []; home = 6 ∷ 7 ∷ 8 ∷ 9 ∷ 16 ∷ []; place = 6 ∷ 7 ∷ 8 ∷ 15 ∷ 16 ∷ [] }

moved_frame : moved_frames homes (record { at = 3; kind = OneItem (Uninit 3) } ∷ []) ≡ record { at = 9; kind = OneItem (Uninit 15) } ∷ []
moved_frame = refl

two_lines : shifted_lines homes (0 ∷ 2 ∷ 0 ∷ 0 ∷ 0 ∷ 3 ∷ 0 ∷ 3 ∷ 0 ∷ 4 ∷ []) ≡ Ok (0 ∷ 2 ∷ 0 ∷ 6 ∷ 0 ∷ 3 ∷ 0 ∷ 9 ∷ 0 ∷ 4 ∷ [])
unfolding shifted_lines lines_of counted_at many_at line_at number_at
two_lines = refl

line_past_the_end : shifted_lines homes (0 ∷ 1 ∷ 0 ∷ 9 ∷ 0 ∷ 3 ∷ []) ≡ Ok (0 ∷ 1 ∷ 0 ∷ 16 ∷ 0 ∷ 3 ∷ [])
unfolding shifted_lines lines_of counted_at many_at line_at number_at
line_past_the_end = refl

of_the_whole_code : shifted_variables homes (0 ∷ 1 ∷ 0 ∷ 0 ∷ 0 ∷ 4 ∷ 1 ∷ 2 ∷ 3 ∷ 4 ∷ 5 ∷ 6 ∷ []) ≡ Ok (0 ∷ 1 ∷ 0 ∷ 6 ∷ 0 ∷ 10 ∷ 1 ∷ 2 ∷ 3 ∷ 4 ∷ 5 ∷ 6 ∷ [])
unfolding shifted_variables variables_of counted_at many_at variable_at number_at
of_the_whole_code = refl

past_all_offsets : shifted_variables homes (0 ∷ 1 ∷ 0 ∷ 3 ∷ 255 ∷ 255 ∷ 1 ∷ 2 ∷ 3 ∷ 4 ∷ 5 ∷ 6 ∷ []) ≡ Ok (0 ∷ 1 ∷ 0 ∷ 9 ∷ 0 ∷ 7 ∷ 1 ∷ 2 ∷ 3 ∷ 4 ∷ 5 ∷ 6 ∷ [])
unfolding shifted_variables variables_of counted_at many_at variable_at number_at
past_all_offsets = refl

bad_lines : map lines_of ((0 ∷ 2 ∷ 0 ∷ 0 ∷ 0 ∷ 3 ∷ 0 ∷ []) ∷ (0 ∷ 0 ∷ 0 ∷ []) ∷ []) ≡ Err (BadFrame 7) ∷ Err (BadFrame 2) ∷ []
unfolding lines_of counted_at many_at line_at number_at
bad_lines = refl

bad_variables : map variables_of ((0 ∷ 1 ∷ 0 ∷ 0 ∷ 0 ∷ 4 ∷ 1 ∷ 2 ∷ 3 ∷ 4 ∷ 5 ∷ []) ∷ (0 ∷ 0 ∷ 0 ∷ []) ∷ []) ≡ Err (BadFrame 11) ∷ Err (BadFrame 2) ∷ []
unfolding variables_of counted_at many_at variable_at number_at
bad_variables = refl
