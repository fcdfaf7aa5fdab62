-- Sound tables are moved.
use Rattle.std.proofs.Common.{◌≡◌, ℕ, ◌<◌, get_or, true, false, List, [], ◌∷◌, ◌++◌, length, Option, Some, None, Result, Ok, Err, refl, sym, ap, subst, ◌∙◌, arith}
use Rattle.std.specs.Prelude.{All, map, Contains, ◌&&◌, ◌==◌, is_ok}
use Rattle.std.specs.List.{AllByRecursion}
use Rattle.std.proofs.lemmas.Bool.{lt-ltb, le-leb, eqb-false, or_parts}
use Rattle.std.proofs.lemmas.List.{length-map}
use Rattle.std.proofs.lemmas.List.Elements.{All-contains, All-contains_itself, All-from_recursion, Contains-append_left, Contains-append_right}
use Rattle.const_pool.specs.declared.class.Raw.{Raw}
use Rattle.code_model.specs.declared.instr.Instr.{Instr}
use Rattle.code_model.specs.declared.laying.Group.{Group}
use Rattle.code_model.specs.declared.laying.Homes.{Homes}
use Rattle.code_model.specs.Instructions.{end_of, Reads}
use Rattle.code_model.specs.Layout.{Spot, group_end, spots_from, all_spots, source_end, end_from, homes_of}
use Rattle.code_model.proofs.CodeLayouts.Among.{source_end-reads}
use Rattle.code_model.proofs.CodeLayouts.Layouts.{homes-increasing}
use Rattle.code_model.proofs.Reading.Readings.{at-instruction_at, instruction_at_within}
use Rattle.jvm_model.specs.Rewriting.Versions.{group_of}
use Rattle.stackmap_shift.specs.declared.error.FrameError.{FrameError}
use Rattle.stackmap_shift.specs.declared.frames.Frame.{Frame}
use Rattle.stackmap_shift.specs.declared.frames.FrameKind.TheVariants.{Full}
use Rattle.stackmap_shift.specs.declared.frames.VType.TheVariants.{Object}
use Rattle.stackmap_shift.specs.Conditions.{IsBehind, Rise, AreWritable, AreHomes, EachStands}
use Rattle.stackmap_shift.specs.DebugTables.{lines_of, variables_of, line_bytes, variable_bytes, rows_bytes, moved_line, moved_variable, shifted_lines, shifted_variables}
use Rattle.stackmap_shift.specs.Frames.{frames_of}
use Rattle.stackmap_shift.specs.Spelling.{table_bytes}
use Rattle.stackmap_shift.specs.Tables.{◌>>=◌}
use Rattle.stackmap_shift.proofs.Rising.{moved_frames-push}
use Rattle.inject_events.specs.declared.settings.Setting.{Setting}
use Rattle.inject_events.specs.declared.settings.Table.{Table}
use Rattle.inject_events.specs.declared.settings.Table.TheVariants as table
use Rattle.inject_events.specs.Answers.{IsReadableCode}
use Rattle.inject_events.specs.Rewriting.{instrs_in, laid_version_of}
use Rattle.inject_events.specs.Settings.{probes_in}
use Rattle.inject_events.specs.SoundTables.{starts_of, HasSoundFrames, IsSoundTable, IsMovedTable, IsMovedRaw, MovesSoundTables}
use Rattle.jvm_model.specs.Rewriting.ImageTables.{moved_or_kept, moved_lines, moved_variables, is_behind, rise_from, is_writable}
use Rattle.inject_events.specs.Tables.{table_of, version_frames, framed_or_kept, moved_frame_table, moved_table, is_frame_table, frame_count, is_full_table, has_full_table}
use Rattle.inject_events.proofs.InstrsIn.{instrs_in-is, rise-in}
use Rattle.inject_events.proofs.Laying.{instrs_of-groups}
use Rattle.inject_events.proofs.Rooms.{IsMadeWhole-none}

-- ---- rows

rows-moved : {A : Type 0} (bytes : List ℕ) (rows : Result A FrameError) (spelled : A → List ℕ) → is_ok rows ≡ true
    → (rows >>= λ x. Ok (spelled x)) ≡ Ok (moved_or_kept bytes (rows >>= λ x. Ok (spelled x)))
rows-moved bytes (Ok rows) spelled read = refl
rows-moved bytes (Err fault) spelled read = absurd cc

lines-moved : (homes : Homes) (bytes : List ℕ) → is_ok (lines_of bytes) ≡ true → shifted_lines homes bytes ≡ Ok (moved_lines homes bytes)
unfolding shifted_lines
lines-moved homes bytes read = rows-moved bytes (lines_of bytes) (λ lines. rows_bytes line_bytes (map (moved_line homes) lines)) read

variables-moved : (homes : Homes) (bytes : List ℕ) → is_ok (variables_of bytes) ≡ true → shifted_variables homes bytes ≡ Ok (moved_variables homes bytes)
unfolding shifted_variables
variables-moved homes bytes read = rows-moved bytes (variables_of bytes) (λ variables. rows_bytes variable_bytes (map (moved_variable homes) variables)) read

-- ---- homes of a version

-- the starts of the instructions, and the code's end
from-starts : (at : ℕ) (leave : List ℕ) (instrs : List Instr) (end_spot : Spot)
    → map (λ (s : Spot). s.from) (spots_from at (map (group_of leave) instrs) ++ end_spot ∷ []) ≡ starts_of instrs ++ end_spot.from ∷ []
from-starts at leave [] end_spot = refl
from-starts at leave (i ∷ rest) end_spot = ap (λ (xs : List ℕ). i.at ∷ xs) (from-starts (group_end at (group_of leave i)) leave rest end_spot)

starts-within : (bytes : List ℕ) (at : ℕ) (instrs : List Instr) → Reads bytes at instrs → AllByRecursion (λ t. t < length bytes) (starts_of instrs)
starts-within bytes at [] reads = tt
starts-within bytes at (i ∷ rest) reads =
    let within = instruction_at_within bytes at i reads.0 in
    let here = at-instruction_at bytes at i reads.0 in
    (omega arith, starts-within bytes (end_of i) rest reads.1)

-- what is known of the homes of a code that was laid out
record HasHomes (bytes : List ℕ) (homes : Homes) : Type 0 where
  are : AreHomes homes
  from : homes.from ≡ starts_of (instrs_in bytes) ++ length bytes ∷ []
  within : All (λ t. t < length bytes) (starts_of (instrs_in bytes))

homes-laid : (front leave bytes : List ℕ) → IsReadableCode bytes → HasHomes bytes (homes_of front (map (group_of leave) (instrs_in bytes)))
homes-laid front leave bytes readable =
    let instrs : List Instr = instrs_in bytes in
    let groups : List Group = map (group_of leave) instrs in
    let homes : Homes = homes_of front groups in
    let spots : List Spot = all_spots front groups in
    let is : instrs ≡ readable.reading.instrs = instrs_in-is bytes readable.reading readable.reads in
    let reads : Reads bytes 0 instrs = subst (Reads bytes 0) (sym is) readable.reads.instrs in
    let ends : source_end 0 groups ≡ length bytes = source_end-reads bytes 0 0 groups (subst (Reads bytes 0) (sym (instrs_of-groups leave instrs)) reads) refl in
    let code_end : ℕ = end_from (length front) groups in
    record {
      are = record {
        starts = rise-in front leave [] bytes homes readable refl;
        homes = homes-increasing front groups;
        each = length-map spots (λ (s : Spot). s.home) ∙ sym (length-map spots (λ (s : Spot). s.from));
      };
      from = from-starts (length front) leave instrs (record { from = source_end 0 groups; home = code_end; place = code_end }) ∙ ap (λ (n : ℕ). starts_of instrs ++ n ∷ []) ends;
      within = All-from_recursion (λ t. t < length bytes) (starts_of instrs) (starts-within bytes 0 instrs reads);
    }

-- ---- frames

behind-is : (before : Option ℕ) (at : ℕ) → IsBehind before at → is_behind before at ≡ true
behind-is None at is = refl
behind-is (Some n) at is = lt-ltb n at is

rise_from-Rise : (before : Option ℕ) (frames : List Frame) → Rise before frames → rise_from before frames ≡ true
rise_from-Rise before [] rise = refl
rise_from-Rise before (frame ∷ rest) rise = rw (behind-is before frame.at rise.0) (rise_from-Rise (Some frame.at) rest rise.1)

writable-is : (frames : List Frame) → AreWritable frames → is_writable frames ≡ true
writable-is frames are = rw (le-leb (length frames) 65535 are.few) (rise_from-Rise None frames are.rise)

frames-writable : (s : Setting) (bytes : List ℕ) (homes : Homes) (frames : List Frame) → HasHomes bytes homes → EachStands (starts_of (instrs_in bytes)) frames → AreWritable frames → length frames < 65535
    → AreWritable (version_frames s homes (length bytes) frames)
frames-writable s bytes homes frames has stand writable few =
    let starts : List ℕ = starts_of (instrs_in bytes) in
    let end : ℕ = length bytes in
    let stands : EachStands homes.from frames = λ k d lt. subst (λ (xs : List ℕ). Contains xs (get_or frames k d).at) (sym has.from) (Contains-append_left starts (end ∷ []) (get_or frames k d).at (stand k d lt)) in
    let ends : Contains homes.from end = subst (λ (xs : List ℕ). Contains xs end) (sym has.from) (Contains-append_right starts (end ∷ []) end (All-contains_itself (end ∷ []) 0 end (omega arith))) in
    let below : All (λ (f : Frame). f.at < end) frames = λ k d lt. All-contains (λ t. t < end) starts (get_or frames k d).at has.within (stand k d lt) in
    moved_frames-push homes frames end (Full [] (Object s.tail.throwable ∷ [])) has.are stands ends below writable few (omega arith, omega arith)

frames-moved : (s : Setting) (bytes : List ℕ) (homes : Homes) (old : List ℕ) → HasHomes bytes homes → (sound : HasSoundFrames (starts_of (instrs_in bytes)) old) → (frame_count (frames_of old) == 65535) ≡ false
    → moved_frame_table s homes (length bytes) old ≡ table_bytes (version_frames s homes (length bytes) sound.frames)
frames-moved s bytes homes old has sound room =
    let frames : List Frame = sound.frames in
    let counted : frame_count (frames_of old) ≡ length frames = ap frame_count sound.read in
    let other = eqb-false (frame_count (frames_of old)) 65535 room in
    let few : length frames < 65535 = (let most = sound.writable.few in omega (arith, other)) in
    let writable = writable-is (version_frames s homes (length bytes) frames) (frames-writable s bytes homes frames has sound.stand sound.writable few) in
    ap (framed_or_kept s homes (length bytes) old) sound.read ∙ rw writable refl

-- ---- each table

moved-sound : (s : Setting) (bytes : List ℕ) (homes : Homes) (t : Table) (old : List ℕ) → HasHomes bytes homes → (is_frame_table t && (frame_count (frames_of old) == 65535)) ≡ false
    → IsSoundTable (starts_of (instrs_in bytes)) t old → IsMovedTable s homes (length bytes) t old (moved_table s homes (length bytes) t old)
moved-sound s bytes homes table.Lines old has room sound = lines-moved homes old sound
moved-sound s bytes homes table.Variables old has room sound = variables-moved homes old sound
moved-sound s bytes homes table.Frames old has room sound = (sound.frames, sound.read, frames-moved s bytes homes old has sound room)
moved-sound s bytes homes table.Other old has room sound = refl

all-moved : (s : Setting) (bytes : List ℕ) (homes : Homes) (raws : List Raw) → HasHomes bytes homes → has_full_table s raws ≡ false
    → AllByRecursion (λ (raw : Raw). IsSoundTable (starts_of (instrs_in bytes)) (table_of s raw.name) raw.bytes) raws → AllByRecursion (IsMovedRaw s homes (length bytes)) raws
all-moved s bytes homes [] has room sound = tt
all-moved s bytes homes (raw ∷ rest) has room sound =
    let both = or_parts (is_full_table s raw) (has_full_table s rest) room in
    (moved-sound s bytes homes (table_of s raw.name) raw.bytes has both.0 sound.0, all-moved s bytes homes rest has both.1 sound.1)

pub moves-sound : (s : Setting) → MovesSoundTables s
moves-sound s = λ number mark old readable none sound.
    let probes = probes_in s.tail number mark in
    all-moved s old.code (laid_version_of s number mark old).homes old.attributes (homes-laid probes.entry probes.leave old.code readable) (IsMadeWhole-none s number mark old none).room.full sound
