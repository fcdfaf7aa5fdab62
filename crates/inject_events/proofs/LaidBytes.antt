-- What is spelled is bytes: code that was laid out, and moved tables. And homes are within the code.
use Rattle.std.proofs.Common.{ℕ, zero, suc, ◌+◌, ◌<◌, ◌≤◌, ◌^◌, Bool, true, false, cond, leb, List, [], ◌∷◌, ◌++◌, length, Option, Some, None, arith}
use Rattle.std.specs.Prelude.{◌-◌, map, zip, replicate, unwrap_or, ℤ, pos, ◌+ℤ◌, ◌-ℤ◌, ◌==◌, Result, Ok, Err}
use Rattle.std.specs.Int.{Width, w8, w16, w32, byte_len, byte_at, bytes_high_first, to_be_bytes, cast_unsigned}
use Rattle.std.specs.List.{AllByRecursion, flat_map}
use Rattle.std.proofs.Math.Nat.{mod-lt}
use Rattle.const_pool.specs.ClassFile.{IsByte}
use Rattle.code_model.specs.declared.instr.Arg.{Arg}
use Rattle.code_model.specs.declared.instr.Arg.TheVariants as arg
use Rattle.code_model.specs.declared.instr.Instr.{Instr}
use Rattle.code_model.specs.declared.laying.Group.{Group}
use Rattle.code_model.specs.declared.laying.Homes.{Homes}
use Rattle.code_model.specs.Groups.{IsBytes}
use Rattle.code_model.specs.Instructions.{end_of, Reads}
use Rattle.code_model.specs.Operands.{padding_len}
use Rattle.code_model.specs.Layout.{Spot, u1, u2, u4, s4, number_bytes, signed_bytes, distance, padding, target_bytes, pair_bytes, operand_bytes, opcode_bytes, width_of, instr_bytes, place_of, group_end, spots_from, end_from, homes_of, found_beside, home_of, groups_bytes, laid_of}
use Rattle.code_model.proofs.CodeLayouts.Ready.{known}
use Rattle.code_model.proofs.CodeLayouts.Walks.{le-end_from}
use Rattle.jvm_model.specs.Rewriting.Versions.{is_return_opcode, group_of, probe_bytes}
use Rattle.stackmap_shift.specs.declared.error.FrameError.{FrameError}
use Rattle.stackmap_shift.specs.declared.frames.Frame.{Frame}
use Rattle.stackmap_shift.specs.declared.frames.FrameKind.{FrameKind}
use Rattle.stackmap_shift.specs.declared.frames.FrameKind.TheVariants.{Same, OneItem, Chop, Append, Full}
use Rattle.stackmap_shift.specs.declared.frames.VType.{VType}
use Rattle.stackmap_shift.specs.declared.frames.VType.TheVariants as item
use Rattle.stackmap_shift.specs.DebugTables.{line_bytes, variable_bytes, rows_bytes, lines_of, variables_of, moved_line, moved_variable, shifted_lines, shifted_variables}
use Rattle.stackmap_shift.specs.Spelling.{type_bytes, types_bytes, counted_bytes, short_or_long, kind_bytes, frame_bytes, delta_of, frames_bytes, table_bytes}
use Rattle.stackmap_shift.specs.Tables.{◌>>=◌}
use Rattle.jvm_model.specs.Rewriting.ImageTables.{moved_or_kept}

-- ---- lists

abbrev pub AreBytes : List ℕ → Type 0
AreBytes bytes = AllByRecursion IsByte bytes

pub both : (xs ys : List ℕ) → AreBytes xs → AreBytes ys → AreBytes (xs ++ ys)
both [] ys left right = right
both (x ∷ xs) ys left right = (left.0, both xs ys left.1 right)

each : {A : Type 0} (f : A → List ℕ) (xs : List A) → ((x : A) → AreBytes (f x)) → AreBytes (flat_map f xs)
each f [] are = tt
each f (x ∷ xs) are = both (f x) (flat_map f xs) (are x) (each f xs are)

zeros : (n : ℕ) → AreBytes (replicate n 0)
zeros zero = tt
zeros (suc n) = (omega arith, zeros n)

-- ---- numbers

byte-at : (k n : ℕ) → byte_at k n < 2 ^ 8
byte-at zero n = mod-lt n (omega arith)
byte-at (suc k) n = mod-lt _ (omega arith)

high-first : (k n : ℕ) → AreBytes (bytes_high_first k n)
high-first zero n = tt
high-first (suc k) n = (byte-at k n, high-first k n)

pub number : (w : Width) (n : ℕ) → AreBytes (to_be_bytes w n)
number w n = high-first (byte_len w) n

-- ---- instructions

signed : (w : Width) (n : ℤ) → AreBytes (signed_bytes w n)
signed w n = number w (cast_unsigned w n)

target : (home : ℕ → ℕ) (place : ℕ) (w : Width) (t : ℕ) → AreBytes (target_bytes home place w t)
target home place w t = signed w (distance place (home t))

pair : (home : ℕ → ℕ) (place : ℕ) (p : ℤ × ℕ) → AreBytes (pair_bytes home place p)
pair home place p = both (s4 p.0) (target_bytes home place w32 p.1) (signed w32 p.0) (target home place w32 p.1)

operand : (home : ℕ → ℕ) (place : ℕ) (w : Width) (a : Arg) → AreBytes (operand_bytes home place w a)
operand home place w arg.Plain = tt
operand home place w (arg.Value n) = signed w n
operand home place w (arg.Pool index) = number w index
operand home place w (arg.Local slot) = number w slot
operand home place w (arg.Inc slot n) = both (number_bytes w slot) (signed_bytes w n) (number w slot) (signed w n)
operand home place w (arg.Target t) = target home place w t
operand home place w (arg.Table default low targets) =
    let high : ℤ = (low +ℤ pos (length targets)) -ℤ pos 1 in
    let all : List ℕ = flat_map (target_bytes home place w32) targets in
    both (padding place) (target_bytes home place w32 default ++ (s4 low ++ (s4 high ++ all))) (zeros (padding_len place))
    (both (target_bytes home place w32 default) (s4 low ++ (s4 high ++ all)) (target home place w32 default)
    (both (s4 low) (s4 high ++ all) (signed w32 low) (both (s4 high) all (signed w32 high) (each (target_bytes home place w32) targets (target home place w32)))))
operand home place w (arg.Lookup default keys targets) =
    let all : List ℕ = flat_map (pair_bytes home place) (zip keys targets) in
    both (padding place) (target_bytes home place w32 default ++ (u4 (length keys) ++ all)) (zeros (padding_len place))
    (both (target_bytes home place w32 default) (u4 (length keys) ++ all) (target home place w32 default)
    (both (u4 (length keys)) all (number w32 (length keys)) (each (pair_bytes home place) (zip keys targets) (pair home place))))
operand home place w (arg.Interface index count last) = both (u2 index) (u1 count ++ u1 last) (number w16 index) (both (u1 count) (u1 last) (number w8 count) (number w8 last))
operand home place w (arg.Multi index dimensions) = both (u2 index) (u1 dimensions) (number w16 index) (number w8 dimensions)
operand home place w (arg.Array kind) = number w8 kind

opcode : (wide : Bool) (op : ℕ) → op < 256 → AreBytes (opcode_bytes wide op)
opcode true op below = (omega arith, (omega (arith, below), tt))
opcode false op below = (omega (arith, below), tt)

instr : (home : ℕ → ℕ) (place : ℕ) (i : Instr) → i.op < 256 → AreBytes (instr_bytes home place i)
instr home place i below = both (opcode_bytes i.wide i.op) (operand_bytes home place (width_of i) i.arg) (opcode i.wide i.op below) (operand home place (width_of i) i.arg)

-- ---- code with probes

front : (leave : List ℕ) (b : Bool) → AreBytes leave → AreBytes (cond b leave [])
front leave true are = are
front leave false are = tt

groups : (home : ℕ → ℕ) (leave bytes : List ℕ) (place at : ℕ) (instrs : List Instr) → AreBytes leave → IsBytes bytes → Reads bytes at instrs → AreBytes (groups_bytes home place (map (group_of leave) instrs))
groups home leave bytes place at [] left fits reads = tt
groups home leave bytes place at (i ∷ rest) left fits reads =
    let g : Group = group_of leave i in
    let here : List ℕ = instr_bytes home (place_of place g) i in
    let behind : List ℕ = groups_bytes home (group_end place g) (map (group_of leave) rest) in
    both g.before (here ++ behind) (front leave (is_return_opcode i.op) left)
    (both here behind (instr home (place_of place g) i (known bytes at i reads.0 fits).op) (groups home leave bytes (group_end place g) (end_of i) rest left fits reads.1))

pub probe : (n index : ℕ) → AreBytes (probe_bytes n index)
probe n index = both (17 ∷ u2 n) (184 ∷ u2 index) (omega arith, number w16 n) (omega arith, number w16 index)

pub laid : (entry leave back bytes : List ℕ) (instrs : List Instr) → AreBytes entry → AreBytes leave → AreBytes back → IsBytes bytes → Reads bytes 0 instrs
    → AreBytes (laid_of entry (map (group_of leave) instrs) back).code
laid entry leave back bytes instrs first left last fits reads =
    let gs : List Group = map (group_of leave) instrs in
    let middle : List ℕ = groups_bytes (home_of (homes_of entry gs)) (length entry) gs in
    both entry (middle ++ back) first (both middle back (groups (home_of (homes_of entry gs)) leave bytes (length entry) 0 instrs left fits reads) last)

-- ---- homes

-- what is found is at most what all are
found-le : (from homes : List ℕ) (most at : ℕ) → AllByRecursion (λ h. h ≤ most) homes → unwrap_or (found_beside from homes at) 0 ≤ most
found-le [] homes most at all = omega arith
found-le (n ∷ from) [] most at all = omega arith
found-le (n ∷ from) (h ∷ homes) most at all = by_test (n == at) (found-le from homes most at all.1)
  where
    by_test : (b : Bool) → unwrap_or (found_beside from homes at) 0 ≤ most → unwrap_or (cond b (Some h) (found_beside from homes at)) 0 ≤ most
    by_test true rest = all.0
    by_test false rest = rest

spots-le : (at most : ℕ) (gs : List Group) (last : Spot) → end_from at gs ≤ most → last.home ≤ most → AllByRecursion (λ h. h ≤ most) (map (λ (s : Spot). s.home) (spots_from at gs ++ last ∷ []))
spots-le at most [] last le end = (end, tt)
spots-le at most (g ∷ rest) last le end =
    let some = le-end_from (group_end at g) rest in
    (omega (arith, some, le), spots-le (group_end at g) most rest last le end)

pub home-le : (front : List ℕ) (gs : List Group) (at : ℕ) → home_of (homes_of front gs) at ≤ end_from (length front) gs
home-le front gs at =
    let code_end = end_from (length front) gs in
    found-le (homes_of front gs).from (homes_of front gs).home code_end at (spots-le (length front) code_end gs _ (omega arith) (omega arith))

-- ---- tables

item-bytes : (t : VType) → AreBytes (type_bytes t)
item-bytes item.Top = number w8 0
item-bytes item.Integer = number w8 1
item-bytes item.Float = number w8 2
item-bytes item.Double = number w8 3
item-bytes item.Long = number w8 4
item-bytes item.Null = number w8 5
item-bytes item.UninitThis = number w8 6
item-bytes (item.Object index) = both (u1 7) (u2 index) (number w8 7) (number w16 index)
item-bytes (item.Uninit offset) = both (u1 8) (u2 offset) (number w8 8) (number w16 offset)

items-bytes : (types : List VType) → AreBytes (types_bytes types)
items-bytes types = each type_bytes types item-bytes

counted-bytes : (types : List VType) → AreBytes (counted_bytes types)
counted-bytes types = both (u2 (length types)) (types_bytes types) (number w16 (length types)) (items-bytes types)

form-bytes : (short long delta : ℕ) → AreBytes (short_or_long short long delta)
form-bytes short long delta = by_test (leb delta 63)
  where
    by_test : (b : Bool) → AreBytes (cond b (u1 (short + delta)) (u1 long ++ u2 delta))
    by_test true = number w8 (short + delta)
    by_test false = both (u1 long) (u2 delta) (number w8 long) (number w16 delta)

kind-bytes : (delta : ℕ) (kind : FrameKind) → AreBytes (kind_bytes delta kind)
kind-bytes delta Same = form-bytes 0 251 delta
kind-bytes delta (OneItem t) = both (short_or_long 64 247 delta) (type_bytes t) (form-bytes 64 247 delta) (item-bytes t)
kind-bytes delta (Chop count) = both (u1 (251 - count)) (u2 delta) (number w8 (251 - count)) (number w16 delta)
kind-bytes delta (Append locals) =
    both (u1 (251 + length locals)) (u2 delta ++ types_bytes locals) (number w8 (251 + length locals)) (both (u2 delta) (types_bytes locals) (number w16 delta) (items-bytes locals))
kind-bytes delta (Full locals operands) =
    let both_lists : List ℕ = counted_bytes locals ++ counted_bytes operands in
    both (u1 255) (u2 delta ++ both_lists) (number w8 255)
    (both (u2 delta) both_lists (number w16 delta) (both (counted_bytes locals) (counted_bytes operands) (counted-bytes locals) (counted-bytes operands)))

frames-bytes : (before : Option ℕ) (frames : List Frame) → AreBytes (frames_bytes before frames)
frames-bytes before [] = tt
frames-bytes before (frame ∷ rest) = both (frame_bytes before frame) (frames_bytes (Some frame.at) rest) (kind-bytes (delta_of before frame.at) frame.kind) (frames-bytes (Some frame.at) rest)

pub table : (frames : List Frame) → AreBytes (table_bytes frames)
table frames = both (u2 (length frames)) (frames_bytes None frames) (number w16 (length frames)) (frames-bytes None frames)

rows : {A : Type 0} (row : A → List ℕ) (xs : List A) → ((x : A) → AreBytes (row x)) → AreBytes (rows_bytes row xs)
rows row xs are = both (u2 (length xs)) (flat_map row xs) (number w16 (length xs)) (each row xs are)

kept : {A : Type 0} (bytes : List ℕ) (found : Result A FrameError) (spelled : A → List ℕ) → AreBytes bytes → ((x : A) → AreBytes (spelled x)) → AreBytes (moved_or_kept bytes (found >>= λ x. Ok (spelled x)))
kept bytes (Ok x) spelled old are = are x
kept bytes (Err fault) spelled old are = old

pub moved-lines : (homes : Homes) (bytes : List ℕ) → AreBytes bytes → AreBytes (moved_or_kept bytes (shifted_lines homes bytes))
unfolding shifted_lines
moved-lines homes bytes old = kept bytes (lines_of bytes) (λ lines. rows_bytes line_bytes (map (moved_line homes) lines)) old (λ lines. rows line_bytes (map (moved_line homes) lines) (λ l. both (u2 l.start) (u2 l.number) (number w16 l.start) (number w16 l.number)))

pub moved-variables : (homes : Homes) (bytes : List ℕ) → AreBytes bytes → AreBytes (moved_or_kept bytes (shifted_variables homes bytes))
unfolding shifted_variables
moved-variables homes bytes old = kept bytes (variables_of bytes) (λ vs. rows_bytes variable_bytes (map (moved_variable homes) vs)) old (λ vs. rows variable_bytes (map (moved_variable homes) vs) (λ v.
    both (u2 v.start) (u2 v.len ++ (u2 v.name ++ (u2 v.descriptor ++ u2 v.slot))) (number w16 v.start)
    (both (u2 v.len) (u2 v.name ++ (u2 v.descriptor ++ u2 v.slot)) (number w16 v.len)
    (both (u2 v.name) (u2 v.descriptor ++ u2 v.slot) (number w16 v.name) (both (u2 v.descriptor) (u2 v.slot) (number w16 v.descriptor) (number w16 v.slot))))))
