-- How many bytes moved tables have: a table of rows as many as before, and a table of frames at most three times as
-- many, since a frame that had its delta in its type may get a long type.
use Rattle.std.proofs.Common.{◌≡◌, ℕ, zero, suc, ◌+◌, ◌*◌, ◌≤◌, Bool, true, false, cond, ltb, List, [], ◌∷◌, ◌++◌, length, Option, Some, None, refl, ap, subst, ◌∙◌, arith}
use Rattle.std.specs.Prelude.{Result, Ok, Err, map, nat_le, ◌==◌}
use Rattle.std.specs.Int.{w8, w16, from_be_bytes}
use Rattle.std.specs.List.{flat_map}
use Rattle.std.proofs.lemmas.Bool.{le-ltb}
use Rattle.std.proofs.lemmas.List.{length-append}
use Rattle.code_model.specs.declared.laying.Homes.{Homes}
use Rattle.byte_formats.proofs.Items.{ok_parts}
use Rattle.stackmap_shift.specs.declared.debug.Line.{Line}
use Rattle.stackmap_shift.specs.declared.debug.Variable.{Variable}
use Rattle.stackmap_shift.specs.declared.error.FrameError.{FrameError}
use Rattle.stackmap_shift.specs.declared.error.FrameError.TheVariants.{BadFrame}
use Rattle.stackmap_shift.specs.declared.forms.Form.{Form}
use Rattle.stackmap_shift.specs.declared.forms.Form.TheVariants as form
use Rattle.stackmap_shift.specs.declared.frames.Frame.{Frame}
use Rattle.stackmap_shift.specs.declared.frames.FrameKind.{FrameKind}
use Rattle.stackmap_shift.specs.declared.frames.FrameKind.TheVariants.{Same, OneItem, Chop, Append, Full}
use Rattle.stackmap_shift.specs.declared.frames.VType.{VType}
use Rattle.stackmap_shift.specs.declared.frames.VType.TheVariants as item
use Rattle.stackmap_shift.specs.DebugTables.{line_at, variable_at, lines_of, variables_of, line_bytes, variable_bytes, moved_line, moved_variable, shifted_lines, shifted_variables}
use Rattle.stackmap_shift.specs.Frames.{plain_type, known_type, object_at, uninit_at, behind_tag, type_at, form_of, short_delta, delta_by, delta_at, offset_at, known_form, one_item_at, append_at, full_at, kind_at, frame_at, frames_at, table_at, frames_of}
use Rattle.stackmap_shift.specs.Moves.{moved_kind, moved_frames, moved_type}
use Rattle.stackmap_shift.specs.Spelling.{u1, u2, type_bytes, types_bytes, counted_bytes, short_or_long, kind_bytes, frame_bytes, delta_of, frames_bytes, table_bytes}
use Rattle.stackmap_shift.specs.Tables.{Read, place, number_at, many_at, counted_at, nothing_left, whole_of}

-- ---- what was read in turn

ok_is : {A : Type 0} (x y : A) → (let r : Result A FrameError = Ok x in r ≡ Ok y) → x ≡ y
ok_is x y e = cc e

-- ---- how much is left behind what was read

u2-left : (limit : ℕ) (bytes : List ℕ) (x : ℕ × List ℕ) → number_at w16 limit bytes ≡ Ok x → length x.1 + 2 ≤ length bytes
unfolding number_at
u2-left limit [] x e = absurd cc
u2-left limit (a ∷ []) x e = absurd cc
u2-left limit (a ∷ b ∷ rest) x e =
    let n : ℕ = from_be_bytes w16 (a ∷ b ∷ []) in
    let long : ltb (length (a ∷ b ∷ rest)) 2 ≡ false = le-ltb (length (a ∷ b ∷ rest)) 2 (omega arith) in
    let is : (n, rest) ≡ x = ok_is (n, rest) x (subst (λ (t : Bool). cond t (Err (BadFrame limit)) (Ok (n, rest)) ≡ Ok x) long e) in
    subst (λ (y : ℕ × List ℕ). length y.1 + 2 ≤ length (a ∷ b ∷ rest)) is (omega arith)

u1-left : (limit : ℕ) (bytes : List ℕ) (x : ℕ × List ℕ) → number_at w8 limit bytes ≡ Ok x → length x.1 + 1 ≤ length bytes
unfolding number_at
u1-left limit [] x e = absurd cc
u1-left limit (a ∷ rest) x e =
    let n : ℕ = from_be_bytes w8 (a ∷ []) in
    let long : ltb (length (a ∷ rest)) 1 ≡ false = le-ltb (length (a ∷ rest)) 1 (omega arith) in
    let is : (n, rest) ≡ x = ok_is (n, rest) x (subst (λ (t : Bool). cond t (Err (BadFrame limit)) (Ok (n, rest)) ≡ Ok x) long e) in
    subst (λ (y : ℕ × List ℕ). length y.1 + 1 ≤ length (a ∷ rest)) is (omega arith)

-- the sum of what items weigh
abbrev pub total : {A : Type 0} → (A → ℕ) → List A → ℕ
total weight [] = 0
total weight (x ∷ xs) = weight x + total weight xs

-- an item weighs no more than the bytes that it takes
abbrev Takes : {A : Type 0} → (A → ℕ) → (ℕ → List ℕ → Read A) → Type 0
Takes {A} weight item = (limit : ℕ) (bytes : List ℕ) (x : A × List ℕ) → item limit bytes ≡ Ok x → weight x.0 + length x.1 ≤ length bytes

many-left : {A : Type 0} (weight : A → ℕ) (item : ℕ → List ℕ → Read A) → Takes weight item → (n limit : ℕ) (bytes : List ℕ) (x : List A × List ℕ) → many_at (item limit) n bytes ≡ Ok x
    → total weight x.0 + length x.1 ≤ length bytes
unfolding many_at
many-left {A} weight item takes zero limit bytes x e = subst (λ (y : List A × List ℕ). total weight y.0 + length y.1 ≤ length bytes) (ok_is _ x e) (omega arith)
many-left {A} weight item takes (suc n) limit bytes x e =
    let first = ok_parts (item limit bytes) _ x e in
    let others = ok_parts (many_at (item limit) n first.0.1) _ x first.2 in
    let one = takes limit bytes first.0 first.1 in
    let more = many-left weight item takes n limit first.0.1 others.0 others.1 in
    subst (λ (y : List A × List ℕ). total weight y.0 + length y.1 ≤ length bytes) (ok_is _ x others.2) (omega arith)

counted-left : {A : Type 0} (weight : A → ℕ) (item : ℕ → List ℕ → Read A) → Takes weight item → (limit : ℕ) (bytes : List ℕ) (x : List A × List ℕ) → counted_at item limit bytes ≡ Ok x
    → total weight x.0 + length x.1 + 2 ≤ length bytes
unfolding counted_at
counted-left weight item takes limit bytes x e =
    let count = ok_parts (number_at w16 limit bytes) _ x e in
    let number = u2-left limit bytes count.0 count.1 in
    let rest = many-left weight item takes count.0.0 limit count.0.1 x count.2 in
    omega arith

-- ---- types

abbrev one : VType → ℕ
one t = 1

object-left : (limit : ℕ) (bytes : List ℕ) (x : VType × List ℕ) → object_at limit bytes ≡ Ok x → length x.1 ≤ length bytes
unfolding object_at
object-left limit bytes x e =
    let index = ok_parts (number_at w16 limit bytes) _ x e in
    let left = u2-left limit bytes index.0 index.1 in
    subst (λ (y : VType × List ℕ). length y.1 ≤ length bytes) (ok_is _ x index.2) (omega arith)

uninit-left : (limit : ℕ) (bytes : List ℕ) (x : VType × List ℕ) → uninit_at limit bytes ≡ Ok x → length x.1 ≤ length bytes
unfolding uninit_at
uninit-left limit bytes x e =
    let offset = ok_parts (number_at w16 limit bytes) _ x e in
    let left = u2-left limit bytes offset.0 offset.1 in
    subst (λ (y : VType × List ℕ). length y.1 ≤ length bytes) (ok_is _ x offset.2) (omega arith)

known-left : (start : ℕ) (bytes : List ℕ) (o : Option VType) (x : VType × List ℕ) → known_type start bytes o ≡ Ok x → length x.1 ≤ length bytes
known-left start bytes (Some t) x e = subst (λ (y : VType × List ℕ). length y.1 ≤ length bytes) (ok_is (t, bytes) x e) (omega arith)
known-left start bytes None x e = absurd cc

tag-left : (start tag limit : ℕ) (bytes : List ℕ) (x : VType × List ℕ) → behind_tag start tag limit bytes ≡ Ok x → length x.1 ≤ length bytes
unfolding behind_tag
tag-left start tag limit bytes x e = by_object (tag == 7) e
  where
    by_uninit : (u : Bool) → cond u (uninit_at limit bytes) (known_type start bytes (plain_type tag)) ≡ Ok x → length x.1 ≤ length bytes
    by_uninit true e = uninit-left limit bytes x e
    by_uninit false e = known-left start bytes (plain_type tag) x e

    by_object : (o : Bool) → cond o (object_at limit bytes) (cond (tag == 8) (uninit_at limit bytes) (known_type start bytes (plain_type tag))) ≡ Ok x → length x.1 ≤ length bytes
    by_object true e = object-left limit bytes x e
    by_object false e = by_uninit (tag == 8) e

type-left : Takes one type_at
unfolding type_at
type-left = λ limit bytes x e.
    let tag = ok_parts (number_at w8 limit bytes) _ x e in
    let left = u1-left limit bytes tag.0 tag.1 in
    let behind = tag-left (place limit bytes) tag.0.0 limit tag.0.1 x tag.2 in
    omega arith

-- ---- what a frame weighs: no more bytes, however far it is behind the one before

abbrev weight_of : FrameKind → ℕ
weight_of Same = 3
weight_of (OneItem item) = 6
weight_of (Chop count) = 3
weight_of (Append locals) = 3 + 3 * total one locals
weight_of (Full locals operands) = 7 + 3 * (total one locals + total one operands)

abbrev pub weight : Frame → ℕ
weight frame = weight_of frame.kind

-- so much was taken, beside the frame's own type
abbrev HasKind : List ℕ → FrameKind × List ℕ → Type 0
HasKind bytes x = weight_of x.0 + 3 * length x.1 ≤ 3 * length bytes + 3

one-left : (limit : ℕ) (bytes : List ℕ) (x : FrameKind × List ℕ) → one_item_at limit bytes ≡ Ok x → HasKind bytes x
unfolding one_item_at
one-left limit bytes x e =
    let item = ok_parts (type_at limit bytes) _ x e in
    let left = type-left limit bytes item.0 item.1 in
    subst (HasKind bytes) (ok_is _ x item.2) (omega arith)

append-left : (count limit : ℕ) (bytes : List ℕ) (x : FrameKind × List ℕ) → append_at count limit bytes ≡ Ok x → HasKind bytes x
unfolding append_at
append-left count limit bytes x e =
    let locals = ok_parts (many_at (type_at limit) count bytes) _ x e in
    let left = many-left one type_at type-left count limit bytes locals.0 locals.1 in
    subst (HasKind bytes) (ok_is _ x locals.2) (omega arith)

full-left : (limit : ℕ) (bytes : List ℕ) (x : FrameKind × List ℕ) → full_at limit bytes ≡ Ok x → HasKind bytes x
unfolding full_at
full-left limit bytes x e =
    let locals = ok_parts (counted_at type_at limit bytes) _ x e in
    let operands = ok_parts (counted_at type_at limit locals.0.1) _ x locals.2 in
    let first = counted-left one type_at type-left limit bytes locals.0 locals.1 in
    let second = counted-left one type_at type-left limit locals.0.1 operands.0 operands.1 in
    subst (HasKind bytes) (ok_is _ x operands.2) (omega arith)

kind-left : (f : Form) (limit : ℕ) (bytes : List ℕ) (x : FrameKind × List ℕ) → kind_at f limit bytes ≡ Ok x → HasKind bytes x
unfolding kind_at
kind-left form.Same limit bytes x e = subst (HasKind bytes) (ok_is _ x e) (omega arith)
kind-left form.OneItem limit bytes x e = one-left limit bytes x e
kind-left (form.Chop count) limit bytes x e = subst (HasKind bytes) (ok_is _ x e) (omega arith)
kind-left (form.Append count) limit bytes x e = append-left count limit bytes x e
kind-left form.Full limit bytes x e = full-left limit bytes x e

delta-left : (limit : ℕ) (bytes : List ℕ) (o : Option ℕ) (x : ℕ × List ℕ) → delta_by limit bytes o ≡ Ok x → length x.1 ≤ length bytes
delta-left limit bytes (Some delta) x e = subst (λ (y : ℕ × List ℕ). length y.1 ≤ length bytes) (ok_is (delta, bytes) x e) (omega arith)
delta-left limit bytes None x e = let left = u2-left limit bytes x e in omega arith

frame-left : (before : Option ℕ) (limit : ℕ) (bytes : List ℕ) (x : Frame × List ℕ) → frame_at before limit bytes ≡ Ok x → weight x.0 + 3 * length x.1 ≤ 3 * length bytes
unfolding frame_at
frame-left before limit bytes x e =
    let start : ℕ = place limit bytes in
    let kind = ok_parts (number_at w8 limit bytes) _ x e in
    let form = ok_parts (known_form start (form_of kind.0.0)) _ x kind.2 in
    let delta = ok_parts (delta_at kind.0.0 limit kind.0.1) _ x form.2 in
    let offset = ok_parts (offset_at start before delta.0.0) _ x delta.2 in
    let contents = ok_parts (kind_at form.0 limit delta.0.1) _ x offset.2 in
    let behind_kind = u1-left limit bytes kind.0 kind.1 in
    let behind_delta = delta-left limit kind.0.1 (short_delta kind.0.0) delta.0 delta.1 in
    let read = kind-left form.0 limit delta.0.1 contents.0 contents.1 in
    subst (λ (y : Frame × List ℕ). weight y.0 + 3 * length y.1 ≤ 3 * length bytes) (ok_is _ x contents.2) (omega arith)

frames-left : (n : ℕ) (before : Option ℕ) (limit : ℕ) (bytes : List ℕ) (x : List Frame × List ℕ) → frames_at n before limit bytes ≡ Ok x → total weight x.0 + 3 * length x.1 ≤ 3 * length bytes
unfolding frames_at
frames-left zero before limit bytes x e = subst (λ (y : List Frame × List ℕ). total weight y.0 + 3 * length y.1 ≤ 3 * length bytes) (ok_is _ x e) (omega arith)
frames-left (suc n) before limit bytes x e =
    let first = ok_parts (frame_at before limit bytes) _ x e in
    let others = ok_parts (frames_at n (Some first.0.0.at) limit first.0.1) _ x first.2 in
    let one = frame-left before limit bytes first.0 first.1 in
    let more = frames-left n (Some first.0.0.at) limit first.0.1 others.0 others.1 in
    subst (λ (y : List Frame × List ℕ). total weight y.0 + 3 * length y.1 ≤ 3 * length bytes) (ok_is _ x others.2) (omega arith)

table-left : (limit : ℕ) (bytes : List ℕ) (x : List Frame × List ℕ) → table_at limit bytes ≡ Ok x → total weight x.0 + 6 ≤ 3 * length bytes
unfolding table_at
table-left limit bytes x e =
    let count = ok_parts (number_at w16 limit bytes) _ x e in
    let number = u2-left limit bytes count.0 count.1 in
    let frames = frames-left count.0.0 None limit count.0.1 x count.2 in
    omega arith

read-weigh : (bytes : List ℕ) (frames : List Frame) → frames_of bytes ≡ Ok frames → total weight frames + 6 ≤ 3 * length bytes
unfolding frames_of
read-weigh bytes frames e =
    let table = ok_parts (table_at (length bytes) bytes) _ frames e in
    let ends = ok_parts (nothing_left (length bytes) table.0.1) _ frames table.2 in
    subst (λ (fs : List Frame). total weight fs + 6 ≤ 3 * length bytes) (ok_is table.0.0 frames ends.2) (table-left (length bytes) bytes table.0 table.1)

-- ---- how long frames are

length-type : (t : VType) → length (type_bytes t) ≤ 3
length-type item.Top = omega arith
length-type item.Integer = omega arith
length-type item.Float = omega arith
length-type item.Double = omega arith
length-type item.Long = omega arith
length-type item.Null = omega arith
length-type item.UninitThis = omega arith
length-type (item.Object index) = omega arith
length-type (item.Uninit offset) = omega arith

length-types : (ts : List VType) → length (types_bytes ts) ≤ 3 * total one ts
length-types [] = omega arith
length-types (t ∷ ts) =
    let whole = length-append (type_bytes t) (types_bytes ts) in
    let first = length-type t in
    let rest = length-types ts in
    omega arith

length-short : (short long delta : ℕ) → length (short_or_long short long delta) ≤ 3
length-short short long delta = by_short (nat_le delta 63)
  where
    by_short : (b : Bool) → length (cond b (u1 (short + delta)) (u1 long ++ u2 delta)) ≤ 3
    by_short true = omega arith
    by_short false = omega arith

length-counted : (ts : List VType) → length (counted_bytes ts) ≤ 2 + 3 * total one ts
length-counted ts =
    let whole = length-append (u2 (length ts)) (types_bytes ts) in
    let all = length-types ts in
    omega arith

length-kind : (delta : ℕ) (k : FrameKind) → length (kind_bytes delta k) ≤ weight_of k
length-kind delta Same = length-short 0 251 delta
length-kind delta (OneItem t) =
    let whole = length-append (short_or_long 64 247 delta) (type_bytes t) in
    let short = length-short 64 247 delta in
    let first = length-type t in
    omega arith
length-kind delta (Chop count) = omega arith
length-kind delta (Append locals) = let all = length-types locals in omega arith
length-kind delta (Full locals operands) =
    let whole = length-append (counted_bytes locals) (counted_bytes operands) in
    let first = length-counted locals in
    let second = length-counted operands in
    omega arith

length-frames : (before : Option ℕ) (frames : List Frame) → length (frames_bytes before frames) ≤ total weight frames
length-frames before [] = omega arith
length-frames before (frame ∷ rest) =
    let whole = length-append (frame_bytes before frame) (frames_bytes (Some frame.at) rest) in
    let here = length-kind (delta_of before frame.at) frame.kind in
    let behind = length-frames (Some frame.at) rest in
    omega arith

pub length-table : (frames : List Frame) → length (table_bytes frames) ≤ 2 + total weight frames
length-table frames = let all = length-frames None frames in omega arith

-- ---- moves keep the weight

one-map : (f : VType → VType) (ts : List VType) → total one (map f ts) ≡ total one ts
one-map f [] = refl
one-map f (t ∷ ts) = ap (λ n. 1 + n) (one-map f ts)

weight-moved : (homes : Homes) (k : FrameKind) → weight_of (moved_kind homes k) ≡ weight_of k
weight-moved homes Same = refl
weight-moved homes (OneItem t) = refl
weight-moved homes (Chop count) = refl
weight-moved homes (Append locals) = ap (λ n. 3 + 3 * n) (one-map (moved_type homes) locals)
weight-moved homes (Full locals operands) =
    ap (λ n. 7 + 3 * (n + total one (map (moved_type homes) operands))) (one-map (moved_type homes) locals)
    ∙ ap (λ n. 7 + 3 * (total one locals + n)) (one-map (moved_type homes) operands)

total-moved : (homes : Homes) (frames last : List Frame) → total weight (moved_frames homes frames ++ last) ≡ total weight frames + total weight last
total-moved homes [] last = omega arith
total-moved homes (frame ∷ rest) last =
    let here = weight-moved homes frame.kind in
    let behind = total-moved homes rest last in
    omega (arith, here, behind)

-- ---- tables

-- frames that were read, moved, with others behind them
pub length-moved_frames : (homes : Homes) (bytes : List ℕ) (frames last : List Frame) → frames_of bytes ≡ Ok frames
    → length (table_bytes (moved_frames homes frames ++ last)) ≤ 3 * length bytes + total weight last
length-moved_frames homes bytes frames last read =
    let long = length-table (moved_frames homes frames ++ last) in
    let same = total-moved homes frames last in
    let most = read-weigh bytes frames read in
    omega (arith, same)

-- ---- rows

abbrev four : Line → ℕ
four line = 4

abbrev ten : Variable → ℕ
ten v = 10

line-left : Takes four line_at
unfolding line_at
line-left = λ limit bytes x e.
    let start = ok_parts (number_at w16 limit bytes) _ x e in
    let number = ok_parts (number_at w16 limit start.0.1) _ x start.2 in
    let a = u2-left limit bytes start.0 start.1 in
    let b = u2-left limit start.0.1 number.0 number.1 in
    subst (λ (y : Line × List ℕ). 4 + length y.1 ≤ length bytes) (ok_is _ x number.2) (omega arith)

variable-left : Takes ten variable_at
unfolding variable_at
variable-left = λ limit bytes x e.
    let start = ok_parts (number_at w16 limit bytes) _ x e in
    let len = ok_parts (number_at w16 limit start.0.1) _ x start.2 in
    let name = ok_parts (number_at w16 limit len.0.1) _ x len.2 in
    let descriptor = ok_parts (number_at w16 limit name.0.1) _ x name.2 in
    let slot = ok_parts (number_at w16 limit descriptor.0.1) _ x descriptor.2 in
    let a = u2-left limit bytes start.0 start.1 in
    let b = u2-left limit start.0.1 len.0 len.1 in
    let c = u2-left limit len.0.1 name.0 name.1 in
    let d = u2-left limit name.0.1 descriptor.0 descriptor.1 in
    let f = u2-left limit descriptor.0.1 slot.0 slot.1 in
    subst (λ (y : Variable × List ℕ). 10 + length y.1 ≤ length bytes) (ok_is _ x slot.2) (omega arith)

rows-weigh : {A : Type 0} (each : A → ℕ) (item : ℕ → List ℕ → Read A) → Takes each item → (bytes : List ℕ) (rows : List A) → whole_of (counted_at item) bytes ≡ Ok rows → total each rows + 2 ≤ length bytes
rows-weigh each item takes bytes rows e =
    let found = ok_parts (counted_at item (length bytes) bytes) _ rows e in
    let ends = ok_parts (nothing_left (length bytes) found.0.1) _ rows found.2 in
    let left = counted-left each item takes (length bytes) bytes found.0 found.1 in
    subst (λ (rs : List _). total each rs + 2 ≤ length bytes) (ok_is found.0.0 rows ends.2) (omega arith)

length-lines : (homes : Homes) (lines : List Line) → length (flat_map line_bytes (map (moved_line homes) lines)) ≤ total four lines
length-lines homes [] = omega arith
length-lines homes (line ∷ rest) =
    let whole = length-append (line_bytes (moved_line homes line)) (flat_map line_bytes (map (moved_line homes) rest)) in
    let behind = length-lines homes rest in
    omega arith

length-variables : (homes : Homes) (vs : List Variable) → length (flat_map variable_bytes (map (moved_variable homes) vs)) ≤ total ten vs
length-variables homes [] = omega arith
length-variables homes (v ∷ rest) =
    let whole = length-append (variable_bytes (moved_variable homes v)) (flat_map variable_bytes (map (moved_variable homes) rest)) in
    let behind = length-variables homes rest in
    omega arith

pub length-shifted_lines : (homes : Homes) (bytes new : List ℕ) → shifted_lines homes bytes ≡ Ok new → length new ≤ length bytes
unfolding shifted_lines lines_of
length-shifted_lines homes bytes new e =
    let lines = ok_parts (lines_of bytes) _ new e in
    let read = rows-weigh four line_at line-left bytes lines.0 lines.1 in
    let long = length-lines homes lines.0 in
    subst (λ (xs : List ℕ). length xs ≤ length bytes) (ok_is _ new lines.2) (omega arith)

pub length-shifted_variables : (homes : Homes) (bytes new : List ℕ) → shifted_variables homes bytes ≡ Ok new → length new ≤ length bytes
unfolding shifted_variables variables_of
length-shifted_variables homes bytes new e =
    let variables = ok_parts (variables_of bytes) _ new e in
    let read = rows-weigh ten variable_at variable-left bytes variables.0 variables.1 in
    let long = length-variables homes variables.0 in
    subst (λ (xs : List ℕ). length xs ≤ length bytes) (ok_is _ new variables.2) (omega arith)
