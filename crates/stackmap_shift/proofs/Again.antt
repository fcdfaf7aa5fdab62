-- What is written is read again.
use Rattle.std.proofs.Common.{◌≡◌, ℕ, zero, suc, ◌+◌, ◌-◌, ◌<◌, ◌≤◌, ◌%◌, ◌^◌, Bool, true, false, cond, ltb, leb, List, [], ◌∷◌, ◌++◌, length, Option, Some, None, Result, Ok, Err, refl, sym, ap, ◌∙◌, append_assoc, arith}
use Rattle.std.specs.Int.{w8, w16}
use Rattle.std.specs.List.{AllByRecursion, list_all}
use Rattle.std.proofs.lemmas.List.Elements.{recursion_from_All}
use Rattle.std.proofs.lemmas.Bool.{leb-true, ltb-true, lt-ltb, le-ltb, and_parts}
use Rattle.std.proofs.lemmas.List.{append-nil, length-append}
use Rattle.std.proofs.lemmas.Nat.{from_be_bytes-to_be_bytes_2}
use Rattle.stackmap_shift.specs.declared.error.FrameError.{FrameError}
use Rattle.stackmap_shift.specs.declared.forms.Form.{Form}
use Rattle.stackmap_shift.specs.declared.forms.Form.TheVariants as form
use Rattle.stackmap_shift.specs.declared.frames.VType.{VType}
use Rattle.stackmap_shift.specs.declared.frames.VType.TheVariants.{Top, Integer, Float, Double, Long, Null, UninitThis, Object, Uninit}
use Rattle.stackmap_shift.specs.declared.frames.FrameKind.{FrameKind}
use Rattle.stackmap_shift.specs.declared.frames.FrameKind.TheVariants.{Same, OneItem, Chop, Append, Full}
use Rattle.stackmap_shift.specs.declared.frames.Frame.{Frame}
use Rattle.stackmap_shift.specs.Tables.{◌>>=◌, Read, place, number_at, many_at, counted_at}
use Rattle.stackmap_shift.specs.Frames.{object_at, uninit_at, behind_tag, type_at, form_of, short_delta, delta_by, delta_at, offset_behind, offset_at, known_form, one_item_at, append_at, full_at, kind_at, frame_at, frames_at, table_at, frames_of}
use Rattle.stackmap_shift.specs.Spelling.{u1, u2, type_bytes, types_bytes, counted_bytes, delta_of, short_or_long, kind_bytes, frame_bytes, frames_bytes, table_bytes}
use Rattle.stackmap_shift.specs.Conditions.{FitsKind, FitsFrame, IsBehind, Rise, AreWritable, is_u2, is_narrow_type, is_narrow_kind, is_narrow_frame}

-- ---- numbers and types

pub u1_again : (limit n : ℕ) (rest : List ℕ) → n < 256 → number_at w8 limit (u1 n ++ rest) ≡ Ok (n, rest)
unfolding number_at
u1_again limit n rest lt =
    let long : ltb (length (u1 n ++ rest)) 1 ≡ false = le-ltb _ _ (omega (arith, length-append (u1 n) rest)) in
    let value : n % 256 ≡ n = omega arith in
    rw long (ap (λ (m : ℕ). Ok (m, rest)) value)

pub u2_again : (limit n : ℕ) (rest : List ℕ) → n < 2 ^ 16 → number_at w16 limit (u2 n ++ rest) ≡ Ok (n, rest)
unfolding number_at
u2_again limit n rest lt =
    let long : ltb (length (u2 n ++ rest)) 2 ≡ false = le-ltb _ _ (omega (arith, length-append (u2 n) rest)) in
    rw long (ap (λ (m : ℕ). Ok (m, rest)) (from_be_bytes-to_be_bytes_2 n lt))

-- what follows an item that is read
pub next_is : {A B : Type 0} (f : A → Result B FrameError) (r : Result A FrameError) (x : A) → r ≡ Ok x → (r >>= f) ≡ f x
next_is f r x e = ap (λ (q : Result _ FrameError). q >>= f) e

plain_again : (limit tag : ℕ) (rest : List ℕ) → tag < 256 → type_at limit (u1 tag ++ rest) ≡ behind_tag (place limit (u1 tag ++ rest)) tag limit rest
unfolding type_at
plain_again limit tag rest lt = next_is (λ (t : ℕ × List ℕ). behind_tag (place limit (u1 tag ++ rest)) t.0 limit t.1) _ (tag, rest) (u1_again limit tag rest lt)

object_again : (limit n : ℕ) (rest : List ℕ) → n < 2 ^ 16 → object_at limit (u2 n ++ rest) ≡ Ok (Object n, rest)
unfolding object_at
object_again limit n rest lt = next_is (λ (t : ℕ × List ℕ). Ok (Object t.0, t.1)) _ (n, rest) (u2_again limit n rest lt)

uninit_again : (limit n : ℕ) (rest : List ℕ) → n < 2 ^ 16 → uninit_at limit (u2 n ++ rest) ≡ Ok (Uninit n, rest)
unfolding uninit_at
uninit_again limit n rest lt = next_is (λ (t : ℕ × List ℕ). Ok (Uninit t.0, t.1)) _ (n, rest) (u2_again limit n rest lt)

pub type_again : (limit : ℕ) (t : VType) (rest : List ℕ) → is_narrow_type t ≡ true → type_at limit (type_bytes t ++ rest) ≡ Ok (t, rest)
unfolding behind_tag
type_again limit Top rest narrow = plain_again limit 0 rest (omega arith)
type_again limit Integer rest narrow = plain_again limit 1 rest (omega arith)
type_again limit Float rest narrow = plain_again limit 2 rest (omega arith)
type_again limit Double rest narrow = plain_again limit 3 rest (omega arith)
type_again limit Long rest narrow = plain_again limit 4 rest (omega arith)
type_again limit Null rest narrow = plain_again limit 5 rest (omega arith)
type_again limit UninitThis rest narrow = plain_again limit 6 rest (omega arith)
type_again limit (Object n) rest narrow = plain_again limit 7 (u2 n ++ rest) (omega arith) ∙ object_again limit n rest (ltb-true n 65536 narrow)
type_again limit (Uninit n) rest narrow = plain_again limit 8 (u2 n ++ rest) (omega arith) ∙ uninit_again limit n rest (ltb-true n 65536 narrow)

-- ---- lists of types

pub types_again : (limit : ℕ) (types : List VType) (rest : List ℕ) → list_all is_narrow_type types ≡ true → many_at (type_at limit) (length types) (types_bytes types ++ rest) ≡ Ok (types, rest)
unfolding many_at
types_again limit [] rest narrow = refl
types_again limit (t ∷ types) rest narrow =
    let others : VType × List ℕ → Read (List VType) = λ x. many_at (type_at limit) (length types) x.1 >>= λ xs. Ok (x.0 ∷ xs.0, xs.1) in
    let first = type_again limit t (types_bytes types ++ rest) (and_parts (is_narrow_type t) (list_all is_narrow_type types) narrow).0 in
    ap (many_at (type_at limit) (suc (length types))) (append_assoc (type_bytes t) (types_bytes types) rest)
    ∙ next_is others _ (t, types_bytes types ++ rest) first
    ∙ next_is (λ (xs : List VType × List ℕ). Ok (t ∷ xs.0, xs.1)) _ (types, rest) (types_again limit types rest (and_parts (is_narrow_type t) (list_all is_narrow_type types) narrow).1)

pub counted_again : (limit : ℕ) (types : List VType) (rest : List ℕ) → length types ≤ 65535 → list_all is_narrow_type types ≡ true → counted_at type_at limit (counted_bytes types ++ rest) ≡ Ok (types, rest)
unfolding counted_at
counted_again limit types rest few narrow =
    ap (counted_at type_at limit) (append_assoc (u2 (length types)) (types_bytes types) rest)
    ∙ next_is (λ (n : ℕ × List ℕ). many_at (type_at limit) n.0 n.1) _ (length types, types_bytes types ++ rest) (u2_again limit (length types) (types_bytes types ++ rest) (omega arith))
    ∙ types_again limit types rest narrow

-- ---- frames

-- a frame of these steps
frame_of_steps : (before : Option ℕ) (limit : ℕ) (bytes : List ℕ) (kind : ℕ) (behind : List ℕ) (f : Form) (delta : ℕ) (contents : List ℕ) (at : ℕ) (k : FrameKind) (rest : List ℕ)
    → number_at w8 limit bytes ≡ Ok (kind, behind) → form_of kind ≡ Some f → delta_at kind limit behind ≡ Ok (delta, contents) → offset_behind before delta ≡ at → at ≤ 65535
    → kind_at f limit contents ≡ Ok (k, rest) → frame_at before limit bytes ≡ Ok (record { at = at; kind = k }, rest)
unfolding frame_at
frame_of_steps before limit bytes kind behind f delta contents at k rest number is_form is_delta offset low is_kind =
    let start = place limit bytes in
    let told : offset_at start before delta ≡ Ok at = ap (λ n. cond (ltb 65535 n) (Err (Rattle.stackmap_shift.specs.declared.error.FrameError.TheVariants.BadFrame start)) (Ok n)) offset ∙ ap (λ b. cond b (Err (Rattle.stackmap_shift.specs.declared.error.FrameError.TheVariants.BadFrame start)) (Ok at)) (le-ltb 65535 at low) in
    let made : ℕ → FrameKind × List ℕ → Read Frame = λ o x. Ok (record { at = o; kind = x.0 }, x.1) in
    let behind_offset : Form → List ℕ → ℕ → Read Frame = λ g bs o. kind_at g limit bs >>= made o in
    let behind_delta : Form → ℕ × List ℕ → Read Frame = λ g d. offset_at start before d.0 >>= behind_offset g d.1 in
    let behind_form : ℕ × List ℕ → Form → Read Frame = λ n g. delta_at n.0 limit n.1 >>= behind_delta g in
    let behind_kind : ℕ × List ℕ → Read Frame = λ n. known_form start (form_of n.0) >>= behind_form n in
    next_is behind_kind _ (kind, behind) number
    ∙ next_is (behind_form (kind, behind)) _ f (ap (known_form start) is_form)
    ∙ next_is (behind_delta f) _ (delta, contents) is_delta
    ∙ next_is (behind_offset f contents) _ at told
    ∙ next_is (made at) _ (k, rest) is_kind

-- the delta behind a long type
long_delta : (kind limit delta : ℕ) (rest : List ℕ) → short_delta kind ≡ None → delta < 2 ^ 16 → delta_at kind limit (u2 delta ++ rest) ≡ Ok (delta, rest)
long_delta kind limit delta rest long lt = ap (delta_by limit (u2 delta ++ rest)) long ∙ u2_again limit delta rest lt

-- the delta in a short type
delta_within : (kind limit delta : ℕ) (rest : List ℕ) → short_delta kind ≡ Some delta → delta_at kind limit rest ≡ Ok (delta, rest)
delta_within kind limit delta rest short = ap (delta_by limit rest) short

-- a type without a short form
long_again : (before : Option ℕ) (limit kind : ℕ) (f : Form) (delta at : ℕ) (k : FrameKind) (contents rest : List ℕ)
    → kind < 256 → form_of kind ≡ Some f → short_delta kind ≡ None → delta < 2 ^ 16 → offset_behind before delta ≡ at → at ≤ 65535
    → kind_at f limit contents ≡ Ok (k, rest) → frame_at before limit (u1 kind ++ (u2 delta ++ contents)) ≡ Ok (record { at = at; kind = k }, rest)
long_again before limit kind f delta at k contents rest byte is_form long lt offset low is_kind =
    frame_of_steps before limit (u1 kind ++ (u2 delta ++ contents)) kind (u2 delta ++ contents) f delta contents at k rest (u1_again limit kind (u2 delta ++ contents) byte) is_form (long_delta kind limit delta contents long lt) offset low is_kind

-- what a short type and the long one of the same form have
record AreTypesOf (f : Form) (short long : ℕ) : Type 0 where
  low : short ≤ 64
  short_form : (delta : ℕ) → delta ≤ 63 → form_of (short + delta) ≡ Some f
  has_delta : (delta : ℕ) → delta ≤ 63 → short_delta (short + delta) ≡ Some delta
  byte : long < 256
  long_form : form_of long ≡ Some f
  no_delta : short_delta long ≡ None

abbrev some : ℕ → Option ℕ
some n = Some n

same_types : AreTypesOf form.Same 0 251
same_types = record {
  low = omega arith;
  short_form = λ delta le. rw (lt-ltb (0 + delta) 64 (omega arith)) refl;
  has_delta = λ delta le. (let same : 0 + delta ≡ delta = omega arith in rw (lt-ltb (0 + delta) 64 (omega arith)) (ap some same));
  byte = omega arith;
  long_form = refl;
  no_delta = refl;
}

one_item_types : AreTypesOf form.OneItem 64 247
one_item_types = record {
  low = omega arith;
  short_form = λ delta le. rw (le-ltb (64 + delta) 64 (omega arith), lt-ltb (64 + delta) 128 (omega arith)) refl;
  has_delta = λ delta le. (let same : 64 + delta - 64 ≡ delta = omega arith in rw (le-ltb (64 + delta) 64 (omega arith), lt-ltb (64 + delta) 128 (omega arith)) (ap some same));
  byte = omega arith;
  long_form = refl;
  no_delta = refl;
}

either_again : (before : Option ℕ) (limit short long : ℕ) (f : Form) (delta at : ℕ) (k : FrameKind) (contents rest : List ℕ)
    → AreTypesOf f short long → delta < 2 ^ 16 → offset_behind before delta ≡ at → at ≤ 65535 → kind_at f limit contents ≡ Ok (k, rest)
    → frame_at before limit (short_or_long short long delta ++ contents) ≡ Ok (record { at = at; kind = k }, rest)
either_again before limit short long f delta at k contents rest types lt offset low is_kind = by_case (leb delta 63) refl
  where
    by_case : (b : Bool) → leb delta 63 ≡ b → frame_at before limit (cond b (u1 (short + delta)) (u1 long ++ u2 delta) ++ contents) ≡ Ok (record { at = at; kind = k }, rest)
    by_case true is =
        let le : delta ≤ 63 = leb-true delta 63 is in
        let short_low = types.low in
        frame_of_steps before limit (u1 (short + delta) ++ contents) (short + delta) contents f delta contents at k rest (u1_again limit (short + delta) contents (omega arith)) (types.short_form delta le)
        (delta_within (short + delta) limit delta contents (types.has_delta delta le)) offset low is_kind
    by_case false is = ap (frame_at before limit) (append_assoc (u1 long) (u2 delta) contents) ∙ long_again before limit long f delta at k contents rest types.byte types.long_form types.no_delta lt offset low is_kind

-- what a long type of its own form has
record IsLongTypeOf (f : Form) (kind : ℕ) : Type 0 where
  byte : kind < 256
  form : form_of kind ≡ Some f
  no_delta : short_delta kind ≡ None

chop_type : (count : ℕ) → 1 ≤ count → count ≤ 3 → IsLongTypeOf (form.Chop count) (251 - count)
chop_type zero some few = absurd (omega arith)
chop_type (suc zero) some few = record { byte = omega arith; form = refl; no_delta = refl }
chop_type (suc (suc zero)) some few = record { byte = omega arith; form = refl; no_delta = refl }
chop_type (suc (suc (suc zero))) some few = record { byte = omega arith; form = refl; no_delta = refl }
chop_type (suc (suc (suc (suc n)))) some few = absurd (omega arith)

append_type : (count : ℕ) → 1 ≤ count → count ≤ 3 → IsLongTypeOf (form.Append count) (251 + count)
append_type zero some few = absurd (omega arith)
append_type (suc zero) some few = record { byte = omega arith; form = refl; no_delta = refl }
append_type (suc (suc zero)) some few = record { byte = omega arith; form = refl; no_delta = refl }
append_type (suc (suc (suc zero))) some few = record { byte = omega arith; form = refl; no_delta = refl }
append_type (suc (suc (suc (suc n)))) some few = absurd (omega arith)

one_item_again : (limit : ℕ) (t : VType) (rest : List ℕ) → is_narrow_type t ≡ true → kind_at form.OneItem limit (type_bytes t ++ rest) ≡ Ok (OneItem t, rest)
unfolding kind_at one_item_at
one_item_again limit t rest narrow = next_is (λ (x : VType × List ℕ). Ok (OneItem x.0, x.1)) _ (t, rest) (type_again limit t rest narrow)

append_again : (limit : ℕ) (types : List VType) (rest : List ℕ) → list_all is_narrow_type types ≡ true → kind_at (form.Append (length types)) limit (types_bytes types ++ rest) ≡ Ok (Append types, rest)
unfolding kind_at append_at
append_again limit types rest narrow = next_is (λ (x : List VType × List ℕ). Ok (Append x.0, x.1)) _ (types, rest) (types_again limit types rest narrow)

full_again : (limit : ℕ) (locals operands : List VType) (rest : List ℕ) → FitsKind (Full locals operands) → is_narrow_kind (Full locals operands) ≡ true
    → kind_at form.Full limit (counted_bytes locals ++ (counted_bytes operands ++ rest)) ≡ Ok (Full locals operands, rest)
unfolding kind_at full_at
full_again limit locals operands rest fits narrow =
    let narrow_lists = and_parts (list_all is_narrow_type locals) (list_all is_narrow_type operands) narrow in
    next_is (λ (x : List VType × List ℕ). counted_at type_at limit x.1 >>= λ y. Ok (Full x.0 y.0, y.1)) _ (locals, counted_bytes operands ++ rest) (counted_again limit locals (counted_bytes operands ++ rest) fits.0 narrow_lists.0)
    ∙ next_is (λ (y : List VType × List ℕ). Ok (Full locals y.0, y.1)) _ (operands, rest) (counted_again limit operands rest fits.1 narrow_lists.1)

-- a frame of a delta
kind_again : (before : Option ℕ) (limit delta at : ℕ) (k : FrameKind) (rest : List ℕ) → FitsKind k → is_narrow_kind k ≡ true → delta < 2 ^ 16 → offset_behind before delta ≡ at → at ≤ 65535
    → frame_at before limit (kind_bytes delta k ++ rest) ≡ Ok (record { at = at; kind = k }, rest)
unfolding kind_at
kind_again before limit delta at Same rest fits narrow lt offset low = either_again before limit 0 251 form.Same delta at Same rest rest same_types lt offset low refl
kind_again before limit delta at (OneItem t) rest fits narrow lt offset low =
    ap (frame_at before limit) (append_assoc (short_or_long 64 247 delta) (type_bytes t) rest)
    ∙ either_again before limit 64 247 form.OneItem delta at (OneItem t) (type_bytes t ++ rest) rest one_item_types lt offset low (one_item_again limit t rest narrow)
kind_again before limit delta at (Chop count) rest fits narrow lt offset low =
    let kind = chop_type count fits.0 fits.1 in
    ap (frame_at before limit) (append_assoc (u1 (251 - count)) (u2 delta) rest)
    ∙ long_again before limit (251 - count) (form.Chop count) delta at (Chop count) rest rest kind.byte kind.form kind.no_delta lt offset low refl
kind_again before limit delta at (Append locals) rest fits narrow lt offset low =
    let kind = append_type (length locals) fits.0 fits.1 in
    ap (frame_at before limit) (append_assoc (u1 (251 + length locals)) (u2 delta ++ types_bytes locals) rest ∙ ap (λ bytes. u1 (251 + length locals) ++ bytes) (append_assoc (u2 delta) (types_bytes locals) rest))
    ∙ long_again before limit (251 + length locals) (form.Append (length locals)) delta at (Append locals) (types_bytes locals ++ rest) rest kind.byte kind.form kind.no_delta lt offset low (append_again limit locals rest narrow)
kind_again before limit delta at (Full locals operands) rest fits narrow lt offset low =
    ap (frame_at before limit) (simp append_assoc)
    ∙ long_again before limit 255 form.Full delta at (Full locals operands) (counted_bytes locals ++ (counted_bytes operands ++ rest)) rest (omega arith) refl refl lt offset low (full_again limit locals operands rest fits narrow)

delta_back : (before : Option ℕ) (at : ℕ) → IsBehind before at → offset_behind before (delta_of before at) ≡ at
delta_back None at behind = refl
delta_back (Some b) at behind = omega arith

delta_low : (before : Option ℕ) (at : ℕ) → at ≤ 65535 → delta_of before at < 2 ^ 16
delta_low None at low = omega arith
delta_low (Some b) at low = omega arith

pub frame_again : (before : Option ℕ) (limit : ℕ) (f : Frame) (rest : List ℕ) → IsBehind before f.at → FitsFrame f → is_narrow_frame f ≡ true → frame_at before limit (frame_bytes before f ++ rest) ≡ Ok (f, rest)
frame_again before limit f rest behind fits narrow =
    let parts = and_parts (is_u2 f.at) (is_narrow_kind f.kind) narrow in
    let lt = ltb-true f.at 65536 parts.0 in
    kind_again before limit (delta_of before f.at) f.at f.kind rest fits parts.1 (delta_low before f.at (omega arith)) (delta_back before f.at behind) (omega arith)

pub frames_again : (before : Option ℕ) (limit : ℕ) (fs : List Frame) (rest : List ℕ) → Rise before fs → AllByRecursion FitsFrame fs → list_all is_narrow_frame fs ≡ true
    → frames_at (length fs) before limit (frames_bytes before fs ++ rest) ≡ Ok (fs, rest)
unfolding frames_at
frames_again before limit [] rest rise fit narrow = refl
frames_again before limit (f ∷ fs) rest rise fit narrow =
    let behind = frames_bytes (Some f.at) fs ++ rest in
    let others : Frame × List ℕ → Read (List Frame) = λ x. frames_at (length fs) (Some x.0.at) limit x.1 >>= λ xs. Ok (x.0 ∷ xs.0, xs.1) in
    ap (frames_at (suc (length fs)) before limit) (append_assoc (frame_bytes before f) (frames_bytes (Some f.at) fs) rest)
    ∙ next_is others _ (f, behind) (frame_again before limit f behind rise.0 fit.0 (and_parts (is_narrow_frame f) (list_all is_narrow_frame fs) narrow).0)
    ∙ next_is (λ (xs : List Frame × List ℕ). Ok (f ∷ xs.0, xs.1)) _ (fs, rest) (frames_again (Some f.at) limit fs rest rise.1 fit.1 (and_parts (is_narrow_frame f) (list_all is_narrow_frame fs) narrow).1)

-- ---- the table

table_again : (limit : ℕ) (fs : List Frame) → AreWritable fs → list_all is_narrow_frame fs ≡ true → table_at limit (table_bytes fs) ≡ Ok (fs, [])
unfolding table_at
table_again limit fs writable narrow =
    let bytes = frames_bytes None fs in
    let few = writable.few in
    next_is (λ (n : ℕ × List ℕ). frames_at n.0 None limit n.1) _ (length fs, bytes) (u2_again limit (length fs) bytes (omega arith))
    ∙ ap (frames_at (length fs) None limit) (sym (append-nil bytes)) ∙ frames_again None limit fs [] writable.rise (recursion_from_All FitsFrame fs writable.fit) narrow

pub frames_of-table_bytes : (fs : List Frame) → AreWritable fs → list_all is_narrow_frame fs ≡ true → frames_of (table_bytes fs) ≡ Ok fs
unfolding frames_of
frames_of-table_bytes fs writable narrow = rw (table_again (length (table_bytes fs)) fs writable narrow) refl
