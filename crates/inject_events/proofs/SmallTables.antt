-- How many bytes the tables of a version have, and that tables of few bytes are not full.
use Rattle.std.proofs.Common.{◌≡◌, ℕ, ◌+◌, ◌*◌, ◌≤◌, Bool, true, false, cond, eqb, List, [], ◌∷◌, ◌++◌, length, Option, Some, None, refl, ap, ◌∙◌, arith}
use Rattle.std.specs.Prelude.{Result, Ok, Err, map, nat_le, ◌&&◌}
use Rattle.std.specs.List.{flat_map}
use Rattle.std.proofs.lemmas.Bool.{ne_eqb, or_from}
use Rattle.std.proofs.lemmas.Grind.{flat_map-append}
use Rattle.std.proofs.lemmas.List.{length-append, length-map}
use Rattle.std.proofs.Math.Bool.{and-false}
use Rattle.const_pool.specs.declared.class.Raw.{Raw}
use Rattle.const_pool.specs.ClassFile.{raw_bytes}
use Rattle.code_model.specs.declared.laying.Homes.{Homes}
use Rattle.code_model.specs.Layout.{home_of}
use Rattle.stackmap_shift.specs.declared.error.FrameError.{FrameError}
use Rattle.stackmap_shift.specs.declared.frames.Frame.{Frame}
use Rattle.stackmap_shift.specs.declared.frames.FrameKind.{FrameKind}
use Rattle.stackmap_shift.specs.declared.frames.FrameKind.TheVariants.{Same, OneItem, Chop, Append, Full}
use Rattle.stackmap_shift.specs.DebugTables.{shifted_lines, shifted_variables}
use Rattle.stackmap_shift.specs.Frames.{frames_of}
use Rattle.stackmap_shift.specs.Moves.{moved_frames, moved_frame}
use Rattle.stackmap_shift.specs.Spelling.{u1, u2, type_bytes, short_or_long, kind_bytes, frame_bytes, delta_of, frames_bytes, table_bytes}
use Rattle.stackmap_shift.proofs.Sizes.{length-table, length-moved_frames, length-shifted_lines, length-shifted_variables}
use Rattle.jvm_model.specs.Rewriting.ImageTables.{moved_or_kept, last_frame, is_writable, frames_with_last, framed_by}
use Rattle.inject_events.specs.declared.settings.Setting.{Setting}
use Rattle.inject_events.specs.declared.settings.Table.{Table}
use Rattle.inject_events.specs.declared.settings.Table.TheVariants as table
use Rattle.inject_events.specs.Tables.{table_of, moved_table, moved_raw, is_frame_table, lacks_frames, added_table, version_tables, frame_count, is_full_table, has_full_table, are_frames_full}

-- ---- a table

kept-le : (bytes : List ℕ) (r : Result (List ℕ) FrameError) → ((new : List ℕ) → r ≡ Ok new → length new ≤ length bytes) → length (moved_or_kept bytes r) ≤ length bytes
kept-le bytes (Ok new) short = short new refl
kept-le bytes (Err fault) short = omega arith

written-le : (b : Bool) (bytes written : List ℕ) → length written ≤ 3 * length bytes + 10 → length (cond b written bytes) ≤ 3 * length bytes + 10
written-le true bytes written short = short
written-le false bytes written short = omega arith

framed-le : (throwable : ℕ) (homes : Homes) (end : ℕ) (bytes : List ℕ) (r : Result (List Frame) FrameError) → frames_of bytes ≡ r → length (framed_by throwable homes end bytes r) ≤ 3 * length bytes + 10
framed-le throwable homes end bytes (Ok frames) read =
    written-le (is_writable (frames_with_last throwable homes end frames)) bytes (table_bytes (frames_with_last throwable homes end frames))
    (length-moved_frames homes bytes frames (last_frame (home_of homes end) throwable ∷ []) read)
framed-le throwable homes end bytes (Err fault) read = omega arith

table-le : (s : Setting) (homes : Homes) (end : ℕ) (t : Table) (bytes : List ℕ) → length (moved_table s homes end t bytes) ≤ 3 * length bytes + 10
table-le s homes end table.Lines bytes = let short = kept-le bytes (shifted_lines homes bytes) (length-shifted_lines homes bytes) in omega arith
table-le s homes end table.Variables bytes = let short = kept-le bytes (shifted_variables homes bytes) (length-shifted_variables homes bytes) in omega arith
table-le s homes end table.Frames bytes = framed-le s.tail.throwable homes end bytes (frames_of bytes) refl
table-le s homes end table.Other bytes = omega arith

-- ---- all of them

abbrev all_raws : List Raw → List ℕ
all_raws raws = flat_map raw_bytes raws

raws-le : (s : Setting) (homes : Homes) (end : ℕ) (raws : List Raw) → length (all_raws (map (moved_raw s homes end) raws)) ≤ 3 * length (all_raws raws)
raws-le s homes end [] = omega arith
raws-le s homes end (raw ∷ rest) =
    let new = length-append (raw_bytes (moved_raw s homes end raw)) (all_raws (map (moved_raw s homes end) rest)) in
    let old = length-append (raw_bytes raw) (all_raws rest) in
    let here = table-le s homes end (table_of s raw.name) raw.bytes in
    let behind = raws-le s homes end rest in
    omega arith

added-le : (s : Setting) (homes : Homes) (end : ℕ) (b : Bool) → length (all_raws (cond b (added_table s homes end ∷ []) [])) ≤ 18
added-le s homes end true = let short = length-table (last_frame (home_of homes end) s.tail.throwable ∷ []) in omega arith
added-le s homes end false = omega arith

-- those of a version have at most three times as many bytes, and those of one more
pub tables-le : (s : Setting) (homes : Homes) (end : ℕ) (raws : List Raw) → length (flat_map raw_bytes (version_tables s homes end raws)) ≤ 3 * length (flat_map raw_bytes raws) + 18
tables-le s homes end raws =
    let tables : List Raw = map (moved_raw s homes end) raws in
    let added : List Raw = cond (lacks_frames s raws) (added_table s homes end ∷ []) [] in
    let parts : length (all_raws (version_tables s homes end raws)) ≡ length (all_raws tables ++ all_raws added) = ap length (flat_map-append raw_bytes tables added) in
    let sums = length-append (all_raws tables) (all_raws added) in
    let old = raws-le s homes end raws in
    let last = added-le s homes end (lacks_frames s raws) in
    omega (arith, parts)

-- ---- frames that find room: each has a byte at least

some-short : (short long delta : ℕ) → 1 ≤ length (short_or_long short long delta)
some-short short long delta = by_short (nat_le delta 63)
  where
    by_short : (b : Bool) → 1 ≤ length (cond b (u1 (short + delta)) (u1 long ++ u2 delta))
    by_short true = omega arith
    by_short false = omega arith

some-kind : (delta : ℕ) (k : FrameKind) → 1 ≤ length (kind_bytes delta k)
some-kind delta Same = some-short 0 251 delta
some-kind delta (OneItem t) =
    let whole = length-append (short_or_long 64 247 delta) (type_bytes t) in
    let short = some-short 64 247 delta in
    omega arith
some-kind delta (Chop count) = omega arith
some-kind delta (Append locals) = omega arith
some-kind delta (Full locals operands) = omega arith

frames-le : (before : Option ℕ) (frames : List Frame) → length frames ≤ length (frames_bytes before frames)
frames-le before [] = omega arith
frames-le before (frame ∷ rest) =
    let whole = length-append (frame_bytes before frame) (frames_bytes (Some frame.at) rest) in
    let here = some-kind (delta_of before frame.at) frame.kind in
    let behind = frames-le (Some frame.at) rest in
    omega arith

abbrev no_homes : Homes
no_homes = record { from = []; home = []; place = [] }

read-le : (bytes : List ℕ) (frames : List Frame) → frames_of bytes ≡ Ok frames → length frames ≤ 3 * length bytes
read-le bytes frames read =
    let moved : List Frame = moved_frames no_homes frames in
    let long = length-moved_frames no_homes bytes frames [] read in
    let all = frames-le None (moved ++ []) in
    let whole = length-append moved [] in
    let same = length-map frames (moved_frame no_homes) in
    omega arith

counted-le : (bytes : List ℕ) (r : Result (List Frame) FrameError) → frames_of bytes ≡ r → frame_count r ≤ 3 * length bytes
counted-le bytes (Ok frames) read = read-le bytes frames read
counted-le bytes (Err fault) read = omega arith

table-room : (s : Setting) (raw : Raw) → length raw.bytes ≤ 16384 → is_full_table s raw ≡ false
table-room s raw few =
    let most = counted-le raw.bytes (frames_of raw.bytes) refl in
    let less : eqb (frame_count (frames_of raw.bytes)) 65535 ≡ false = ne_eqb (frame_count (frames_of raw.bytes)) 65535 (λ is. omega arith) in
    ap (λ (b : Bool). is_frame_table (table_of s raw.name) && b) less ∙ and-false (is_frame_table (table_of s raw.name))

tables-room : (s : Setting) (raws : List Raw) → length (all_raws raws) ≤ 16384 → has_full_table s raws ≡ false
tables-room s [] few = refl
tables-room s (raw ∷ rest) few =
    let whole = length-append (raw_bytes raw) (all_raws rest) in
    or_from (is_full_table s raw) (has_full_table s rest) (table-room s raw (omega arith)) (tables-room s rest (omega arith))

count-le : (raws : List Raw) → length raws ≤ length (all_raws raws)
count-le [] = omega arith
count-le (raw ∷ rest) =
    let whole = length-append (raw_bytes raw) (all_raws rest) in
    let behind = count-le rest in
    omega arith

-- attributes of so few bytes have room for one more frame, and for one more table
pub frames-room : (s : Setting) (raws : List Raw) → length (flat_map raw_bytes raws) ≤ 16384 → are_frames_full s raws ≡ false
frames-room s raws few =
    let some = count-le raws in
    let less : eqb (length raws) 65535 ≡ false = ne_eqb (length raws) 65535 (λ is. omega arith) in
    or_from (has_full_table s raws) (lacks_frames s raws && eqb (length raws) 65535) (tables-room s raws few)
    (ap (λ (b : Bool). lacks_frames s raws && b) less ∙ and-false (lacks_frames s raws))
