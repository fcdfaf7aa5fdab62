-- Frames that were read of bytes can be written: their offsets rise, and each is of a kind that has bytes (JVM
-- Specification 4.7.4).
use Rattle.std.proofs.Common.{◌≡◌, ℕ, zero, suc, ◌-◌, ◌<◌, ◌≤◌, Bool, true, false, cond, eqb, ltb, List, [], ◌∷◌, length, Option, Some, None, refl, ap, subst, arith}
use Rattle.std.specs.Prelude.{Result, Ok, Err, nat_lt, ◌==◌}
use Rattle.std.specs.Int.{w8, w16, from_be_bytes}
use Rattle.std.specs.List.{AllByRecursion}
use Rattle.std.proofs.lemmas.Bool.{le-ltb, ltb-true, ltb-false, eqb-false}
use Rattle.std.proofs.lemmas.List.Elements.{All-from_recursion}
use Rattle.byte_formats.proofs.Items.{ok_parts}
use Rattle.stackmap_shift.specs.declared.error.FrameError.{FrameError}
use Rattle.stackmap_shift.specs.declared.error.FrameError.TheVariants.{BadFrame}
use Rattle.stackmap_shift.specs.declared.forms.Form.{Form}
use Rattle.stackmap_shift.specs.declared.forms.Form.TheVariants as form
use Rattle.stackmap_shift.specs.declared.frames.Frame.{Frame}
use Rattle.stackmap_shift.specs.declared.frames.FrameKind.{FrameKind}
use Rattle.stackmap_shift.specs.declared.frames.VType.{VType}
use Rattle.stackmap_shift.specs.Conditions.{FitsKind, FitsForm, FitsFrame, IsBehind, Rise, AreWritable}
use Rattle.stackmap_shift.specs.Frames.{plain_type, known_type, object_at, uninit_at, behind_tag, type_at, form_of, short_delta, delta_by, delta_at, offset_behind, offset_at, known_form, one_item_at, append_at, full_at, kind_at, frame_at, frames_at, table_at, frames_of}
use Rattle.stackmap_shift.specs.Tables.{place, number_at, many_at, counted_at, nothing_left}

abbrev AreBytes : List ℕ → Type 0
AreBytes bytes = AllByRecursion (λ byte. byte < 256) bytes

-- ---- what was read in turn

ok_is : {A : Type 0} (x y : A) → (let r : Result A FrameError = Ok x in r ≡ Ok y) → x ≡ y
ok_is x y e = cc e

-- ---- numbers

record IsReadU2 (x : ℕ × List ℕ) : Type 0 where
  few : x.0 ≤ 65535
  rest : AreBytes x.1

u2-read : (limit : ℕ) (bytes : List ℕ) (x : ℕ × List ℕ) → AreBytes bytes → number_at w16 limit bytes ≡ Ok x → IsReadU2 x
unfolding number_at
u2-read limit [] x all e = absurd cc
u2-read limit (a ∷ []) x all e = absurd cc
u2-read limit (a ∷ b ∷ rest) x all e =
    let n : ℕ = from_be_bytes w16 (a ∷ b ∷ []) in
    let long : ltb (length (a ∷ b ∷ rest)) 2 ≡ false = le-ltb (length (a ∷ b ∷ rest)) 2 (omega arith) in
    let is : (n, rest) ≡ x = ok_is (n, rest) x (subst (λ (t : Bool). cond t (Err (BadFrame limit)) (Ok (n, rest)) ≡ Ok x) long e) in
    let high = all.0 in
    let low = all.1.0 in
    subst IsReadU2 is (record { few = omega arith; rest = all.1.1 })

u1-read : (limit : ℕ) (bytes : List ℕ) (x : ℕ × List ℕ) → AreBytes bytes → number_at w8 limit bytes ≡ Ok x → AreBytes x.1
unfolding number_at
u1-read limit [] x all e = absurd cc
u1-read limit (a ∷ rest) x all e =
    let n : ℕ = from_be_bytes w8 (a ∷ []) in
    let long : ltb (length (a ∷ rest)) 1 ≡ false = le-ltb (length (a ∷ rest)) 1 (omega arith) in
    let is : (n, rest) ≡ x = ok_is (n, rest) x (subst (λ (t : Bool). cond t (Err (BadFrame limit)) (Ok (n, rest)) ≡ Ok x) long e) in
    subst (λ (y : ℕ × List ℕ). AreBytes y.1) is all.1

-- ---- types

object-read : (limit : ℕ) (bytes : List ℕ) (x : VType × List ℕ) → AreBytes bytes → object_at limit bytes ≡ Ok x → AreBytes x.1
unfolding object_at
object-read limit bytes x all e =
    let index = ok_parts (number_at w16 limit bytes) _ x e in
    subst (λ (y : VType × List ℕ). AreBytes y.1) (ok_is _ x index.2) (u2-read limit bytes index.0 all index.1).rest

uninit-read : (limit : ℕ) (bytes : List ℕ) (x : VType × List ℕ) → AreBytes bytes → uninit_at limit bytes ≡ Ok x → AreBytes x.1
unfolding uninit_at
uninit-read limit bytes x all e =
    let offset = ok_parts (number_at w16 limit bytes) _ x e in
    subst (λ (y : VType × List ℕ). AreBytes y.1) (ok_is _ x offset.2) (u2-read limit bytes offset.0 all offset.1).rest

known-read : (start : ℕ) (bytes : List ℕ) (o : Option VType) (x : VType × List ℕ) → AreBytes bytes → known_type start bytes o ≡ Ok x → AreBytes x.1
known-read start bytes (Some t) x all e = subst (λ (y : VType × List ℕ). AreBytes y.1) (ok_is (t, bytes) x e) all
known-read start bytes None x all e = absurd cc

tag-read : (start tag limit : ℕ) (bytes : List ℕ) (x : VType × List ℕ) → AreBytes bytes → behind_tag start tag limit bytes ≡ Ok x → AreBytes x.1
unfolding behind_tag
tag-read start tag limit bytes x all e = by_object (tag == 7) e
  where
    by_uninit : (u : Bool) → cond u (uninit_at limit bytes) (known_type start bytes (plain_type tag)) ≡ Ok x → AreBytes x.1
    by_uninit true e = uninit-read limit bytes x all e
    by_uninit false e = known-read start bytes (plain_type tag) x all e

    by_object : (o : Bool) → cond o (object_at limit bytes) (cond (tag == 8) (uninit_at limit bytes) (known_type start bytes (plain_type tag))) ≡ Ok x → AreBytes x.1
    by_object true e = object-read limit bytes x all e
    by_object false e = by_uninit (tag == 8) e

type-read : (limit : ℕ) (bytes : List ℕ) (x : VType × List ℕ) → AreBytes bytes → type_at limit bytes ≡ Ok x → AreBytes x.1
unfolding type_at
type-read limit bytes x all e =
    let tag = ok_parts (number_at w8 limit bytes) _ x e in
    tag-read (place limit bytes) tag.0.0 limit tag.0.1 x (u1-read limit bytes tag.0 all tag.1) tag.2

record AreRead (n : ℕ) (x : List VType × List ℕ) : Type 0 where
  count : length x.0 ≡ n
  rest : AreBytes x.1

types-read : (n limit : ℕ) (bytes : List ℕ) (x : List VType × List ℕ) → AreBytes bytes → many_at (type_at limit) n bytes ≡ Ok x → AreRead n x
unfolding many_at
types-read zero limit bytes x all e = subst (AreRead 0) (ok_is _ x e) (record { count = refl; rest = all })
types-read (suc n) limit bytes x all e =
    let first = ok_parts (type_at limit bytes) _ x e in
    let others = ok_parts (many_at (type_at limit) n first.0.1) _ x first.2 in
    let more = types-read n limit first.0.1 others.0 (type-read limit bytes first.0 all first.1) others.1 in
    subst (AreRead (suc n)) (ok_is _ x others.2) (record { count = ap suc more.count; rest = more.rest })

record AreCounted (x : List VType × List ℕ) : Type 0 where
  few : length x.0 ≤ 65535
  rest : AreBytes x.1

counted-read : (limit : ℕ) (bytes : List ℕ) (x : List VType × List ℕ) → AreBytes bytes → counted_at type_at limit bytes ≡ Ok x → AreCounted x
unfolding counted_at
counted-read limit bytes x all e =
    let count = ok_parts (number_at w16 limit bytes) _ x e in
    let number = u2-read limit bytes count.0 all count.1 in
    let types = types-read count.0.0 limit count.0.1 x number.rest count.2 in
    let same = types.count in
    let few = number.few in
    record { few = omega arith; rest = types.rest }

-- ---- the kind of a frame

record IsReadKind (x : FrameKind × List ℕ) : Type 0 where
  fits : FitsKind x.0
  rest : AreBytes x.1

one-read : (limit : ℕ) (bytes : List ℕ) (x : FrameKind × List ℕ) → AreBytes bytes → one_item_at limit bytes ≡ Ok x → IsReadKind x
unfolding one_item_at
one-read limit bytes x all e =
    let item = ok_parts (type_at limit bytes) _ x e in
    subst IsReadKind (ok_is _ x item.2) (record { fits = tt; rest = type-read limit bytes item.0 all item.1 })

append-read : (count limit : ℕ) (bytes : List ℕ) (x : FrameKind × List ℕ) → (1 ≤ count) × (count ≤ 3) → AreBytes bytes → append_at count limit bytes ≡ Ok x → IsReadKind x
unfolding append_at
append-read count limit bytes x fits all e =
    let locals = ok_parts (many_at (type_at limit) count bytes) _ x e in
    let types = types-read count limit bytes locals.0 all locals.1 in
    let same = types.count in
    let some = fits.0 in
    let few = fits.1 in
    subst IsReadKind (ok_is _ x locals.2) (record { fits = (omega arith, omega arith); rest = types.rest })

full-read : (limit : ℕ) (bytes : List ℕ) (x : FrameKind × List ℕ) → AreBytes bytes → full_at limit bytes ≡ Ok x → IsReadKind x
unfolding full_at
full-read limit bytes x all e =
    let locals = ok_parts (counted_at type_at limit bytes) _ x e in
    let operands = ok_parts (counted_at type_at limit locals.0.1) _ x locals.2 in
    let first = counted-read limit bytes locals.0 all locals.1 in
    let second = counted-read limit locals.0.1 operands.0 first.rest operands.1 in
    subst IsReadKind (ok_is _ x operands.2) (record { fits = (first.few, second.few); rest = second.rest })

kind-read : (f : Form) (limit : ℕ) (bytes : List ℕ) (x : FrameKind × List ℕ) → FitsForm f → AreBytes bytes → kind_at f limit bytes ≡ Ok x → IsReadKind x
unfolding kind_at
kind-read form.Same limit bytes x fits all e = subst IsReadKind (ok_is _ x e) (record { fits = tt; rest = all })
kind-read form.OneItem limit bytes x fits all e = one-read limit bytes x all e
kind-read (form.Chop count) limit bytes x fits all e = subst IsReadKind (ok_is _ x e) (record { fits = fits; rest = all })
kind-read (form.Append count) limit bytes x fits all e = append-read count limit bytes x fits all e
kind-read form.Full limit bytes x fits all e = full-read limit bytes x all e

-- ---- its form, its delta and its offset

abbrev FitsAnyForm : Option Form → Type 0
FitsAnyForm None = Unit {0}
FitsAnyForm (Some f) = FitsForm f

form-fits : (kind : ℕ) → FitsAnyForm (form_of kind)
form-fits kind = by_same (ltb kind 64)
  where
    by_append : (b : Bool) → ltb kind 251 ≡ false → eqb kind 251 ≡ false → ltb kind 255 ≡ b → FitsAnyForm (cond b (Some (form.Append (kind - 251))) (Some form.Full))
    by_append true above other below = let a = ltb-false kind 251 above in let o = eqb-false kind 251 other in let l = ltb-true kind 255 below in (omega (arith, o), omega arith)
    by_append false above other below = tt

    by_long : (b : Bool) → ltb kind 251 ≡ false → eqb kind 251 ≡ b → FitsAnyForm (cond b (Some form.Same) (cond (ltb kind 255) (Some (form.Append (kind - 251))) (Some form.Full)))
    by_long true above is = tt
    by_long false above is = by_append (ltb kind 255) above is refl

    by_chop : (b : Bool) → ltb kind 247 ≡ false → eqb kind 247 ≡ false → ltb kind 251 ≡ b
        → FitsAnyForm (cond b (Some (form.Chop (251 - kind))) (cond (eqb kind 251) (Some form.Same) (cond (ltb kind 255) (Some (form.Append (kind - 251))) (Some form.Full))))
    by_chop true above other below = let a = ltb-false kind 247 above in let o = eqb-false kind 247 other in let l = ltb-true kind 251 below in (omega arith, omega (arith, o))
    by_chop false above other below = by_long (eqb kind 251) below refl

    by_item : (b : Bool) → ltb kind 247 ≡ false → eqb kind 247 ≡ b
        → FitsAnyForm (cond b (Some form.OneItem) (cond (ltb kind 251) (Some (form.Chop (251 - kind))) (cond (eqb kind 251) (Some form.Same) (cond (ltb kind 255) (Some (form.Append (kind - 251))) (Some form.Full)))))
    by_item true above is = tt
    by_item false above is = by_chop (ltb kind 251) above is refl

    by_none : (b : Bool) → ltb kind 247 ≡ b
        → FitsAnyForm (cond b None (cond (eqb kind 247) (Some form.OneItem) (cond (ltb kind 251) (Some (form.Chop (251 - kind))) (cond (eqb kind 251) (Some form.Same) (cond (ltb kind 255) (Some (form.Append (kind - 251))) (Some form.Full))))))
    by_none true below = tt
    by_none false above = by_item (eqb kind 247) above refl

    by_short : (b : Bool)
        → FitsAnyForm (cond b (Some form.OneItem) (cond (ltb kind 247) None (cond (eqb kind 247) (Some form.OneItem) (cond (ltb kind 251) (Some (form.Chop (251 - kind))) (cond (eqb kind 251) (Some form.Same) (cond (ltb kind 255) (Some (form.Append (kind - 251))) (Some form.Full)))))))
    by_short true = tt
    by_short false = by_none (ltb kind 247) refl

    by_same : (b : Bool)
        → FitsAnyForm (cond b (Some form.Same) (cond (ltb kind 128) (Some form.OneItem) (cond (ltb kind 247) None (cond (eqb kind 247) (Some form.OneItem) (cond (ltb kind 251) (Some (form.Chop (251 - kind))) (cond (eqb kind 251) (Some form.Same) (cond (ltb kind 255) (Some (form.Append (kind - 251))) (Some form.Full))))))))
    by_same true = tt
    by_same false = by_short (ltb kind 128)

known-form : (start : ℕ) (o : Option Form) (f : Form) → FitsAnyForm o → known_form start o ≡ Ok f → FitsForm f
known-form start (Some g) f fits e = subst FitsForm (ok_is g f e) fits
known-form start None f fits e = absurd cc

delta-read : (limit : ℕ) (bytes : List ℕ) (o : Option ℕ) (x : ℕ × List ℕ) → AreBytes bytes → delta_by limit bytes o ≡ Ok x → AreBytes x.1
delta-read limit bytes (Some delta) x all e = subst (λ (y : ℕ × List ℕ). AreBytes y.1) (ok_is (delta, bytes) x e) all
delta-read limit bytes None x all e = (u2-read limit bytes x all e).rest

behind-offset : (before : Option ℕ) (delta : ℕ) → IsBehind before (offset_behind before delta)
behind-offset None delta = tt
behind-offset (Some n) delta = omega arith

offset-behind : (start : ℕ) (before : Option ℕ) (delta at : ℕ) → offset_at start before delta ≡ Ok at → IsBehind before at
offset-behind start before delta at e = by_far (nat_lt 65535 (offset_behind before delta)) e
  where
    by_far : (far : Bool) → cond far (Err (BadFrame start)) (Ok (offset_behind before delta)) ≡ Ok at → IsBehind before at
    by_far true e = absurd cc
    by_far false e = subst (IsBehind before) (ok_is (offset_behind before delta) at e) (behind-offset before delta)

-- ---- frames

record IsReadFrame (before : Option ℕ) (x : Frame × List ℕ) : Type 0 where
  behind : IsBehind before x.0.at
  fits : FitsFrame x.0
  rest : AreBytes x.1

frame-read : (before : Option ℕ) (limit : ℕ) (bytes : List ℕ) (x : Frame × List ℕ) → AreBytes bytes → frame_at before limit bytes ≡ Ok x → IsReadFrame before x
unfolding frame_at
frame-read before limit bytes x all e =
    let start : ℕ = place limit bytes in
    let kind = ok_parts (number_at w8 limit bytes) _ x e in
    let form = ok_parts (known_form start (form_of kind.0.0)) _ x kind.2 in
    let delta = ok_parts (delta_at kind.0.0 limit kind.0.1) _ x form.2 in
    let offset = ok_parts (offset_at start before delta.0.0) _ x delta.2 in
    let contents = ok_parts (kind_at form.0 limit delta.0.1) _ x offset.2 in
    let behind_kind = u1-read limit bytes kind.0 all kind.1 in
    let behind_delta = delta-read limit kind.0.1 (short_delta kind.0.0) delta.0 behind_kind delta.1 in
    let fits = known-form start (form_of kind.0.0) form.0 (form-fits kind.0.0) form.1 in
    let read = kind-read form.0 limit delta.0.1 contents.0 fits behind_delta contents.1 in
    subst (IsReadFrame before) (ok_is _ x contents.2)
    (record { behind = offset-behind start before delta.0.0 offset.0 offset.1; fits = read.fits; rest = read.rest })

record AreReadFrames (n : ℕ) (before : Option ℕ) (x : List Frame × List ℕ) : Type 0 where
  count : length x.0 ≡ n
  rise : Rise before x.0
  fit : AllByRecursion FitsFrame x.0

frames-read : (n : ℕ) (before : Option ℕ) (limit : ℕ) (bytes : List ℕ) (x : List Frame × List ℕ) → AreBytes bytes → frames_at n before limit bytes ≡ Ok x → AreReadFrames n before x
unfolding frames_at
frames-read zero before limit bytes x all e = subst (AreReadFrames 0 before) (ok_is _ x e) (record { count = refl; rise = tt; fit = tt })
frames-read (suc n) before limit bytes x all e =
    let first = ok_parts (frame_at before limit bytes) _ x e in
    let others = ok_parts (frames_at n (Some first.0.0.at) limit first.0.1) _ x first.2 in
    let one = frame-read before limit bytes first.0 all first.1 in
    let more = frames-read n (Some first.0.0.at) limit first.0.1 others.0 one.rest others.1 in
    subst (AreReadFrames (suc n) before) (ok_is _ x others.2)
    (record { count = ap suc more.count; rise = (one.behind, more.rise); fit = (one.fits, more.fit) })

table-read : (limit : ℕ) (bytes : List ℕ) (x : List Frame × List ℕ) → AreBytes bytes → table_at limit bytes ≡ Ok x → AreWritable x.0
unfolding table_at
table-read limit bytes x all e =
    let count = ok_parts (number_at w16 limit bytes) _ x e in
    let number = u2-read limit bytes count.0 all count.1 in
    let frames = frames-read count.0.0 None limit count.0.1 x number.rest count.2 in
    let same = frames.count in
    let few = number.few in
    record { few = omega arith; rise = frames.rise; fit = All-from_recursion FitsFrame x.0 frames.fit }

pub frames_of-writable : (bytes : List ℕ) (frames : List Frame) → AreBytes bytes → frames_of bytes ≡ Ok frames → AreWritable frames
unfolding frames_of
frames_of-writable bytes frames all e =
    let table = ok_parts (table_at (length bytes) bytes) _ frames e in
    let ends = ok_parts (nothing_left (length bytes) table.0.1) _ frames table.2 in
    subst AreWritable (ok_is table.0.0 frames ends.2) (table-read (length bytes) bytes table.0 all table.1)
