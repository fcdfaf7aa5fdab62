-- What is read of a method descriptor is what the grammar says (JVM Specification 4.3.2, 4.3.3).
use Rattle.std.proofs.Common.{◌≡◌, ◌≢◌, ◌↔◌, ℕ, zero, suc, ◌≤◌, true, false, eqb, leb, List, [], ◌∷◌, ◌++◌, length, Option, Some, None, codes, refl, sym, ap, subst, ◌∙◌, append_assoc, arith}
use Rattle.std.specs.Option.{option_and_then, option_map}
use Rattle.std.specs.List.{AllByRecursion}
use Rattle.std.proofs.lemmas.Bool.{eqb-true, eqb-false, ne_eqb, leb-true, le-leb}
use Rattle.std.proofs.lemmas.List.{append-nil}
use Rattle.std.proofs.lemmas.List.Sums.{sum_by-cons}
use Rattle.std.proofs.lemmas.Slice.Eq.{bytes_eq-Decides}
use Rattle.std.proofs.lemmas.Option.{same_Some}
use Rattle.jf_bytes.proofs.Options.{map_parts, and_then_parts}
use Rattle.const_pool.specs.declared.descriptor.Kind.{Kind}
use Rattle.const_pool.specs.declared.descriptor.Kind.TheVariants.{Int, Long, Ref, Byte, Bool as boolean, Char, Short, Float, Double}
use Rattle.const_pool.specs.declared.descriptor.Shape.{Shape}
use Rattle.const_pool.specs.Descriptors.{IsName, IsBase, IsField, AreFields, IsResult, IsMethod, dimensions_text, held_kind, slots, slot_count}
use Rattle.const_pool.specs.Stages.{letter_kind}
use Rattle.const_pool.proofs.FieldTexts.{chosen, not_failed}
use Rattle.jvm_model.specs.Basis.Descriptors.{same_text, Typed, type_parsed, array_of, name_rest, class_rest, base_front, type_front, first_type, Params, with_param, parameters_closed, params_by, params_front, only_type, result_by, result_of, shape_with, with_result, with_room, shape_of}
use Rattle.jvm_model.proofs.Images.ImagePools.{chosen_by}

-- ---- what is in the grammar is read

not_semicolon : (unit : ℕ) → codes ";" ≢ unit ∷ [] → eqb unit 59 ≡ false
not_semicolon unit h = ne_eqb unit 59 (λ e. h (ap (λ (u : ℕ). u ∷ []) (sym e)))

name_read : (name rest : List ℕ) → AllByRecursion (λ unit. codes ";" ≢ unit ∷ []) name → name_rest (name ++ 59 ∷ rest) ≡ Some rest
name_read [] rest plain = refl
name_read (unit ∷ name) rest plain = rw (not_semicolon unit plain.0) (name_read name rest plain.1)

class_read : (name rest : List ℕ) → IsName name → class_rest (name ++ 59 ∷ rest) ≡ Some rest
class_read [] rest h = absurd (h.some refl)
class_read (unit ∷ name) rest h = rw (not_semicolon unit h.plain.0) (name_read name rest h.plain.1)

-- a base begins with no `[`
no_array : (most unit : ℕ) (rest : List ℕ) → eqb unit 91 ≡ false → type_front most (unit ∷ rest) ≡ base_front unit rest
no_array zero unit rest apart = refl
no_array (suc n) unit rest apart = rw apart refl

base_read : (most : ℕ) (text rest : List ℕ) (kind : Kind) → IsBase text kind → type_front most (text ++ rest) ≡ Some (type_parsed kind rest)
base_read most text rest Byte h = rw h (no_array most 66 rest refl)
base_read most text rest Char h = rw h (no_array most 67 rest refl)
base_read most text rest Double h = rw h (no_array most 68 rest refl)
base_read most text rest Float h = rw h (no_array most 70 rest refl)
base_read most text rest Int h = rw h (no_array most 73 rest refl)
base_read most text rest Long h = rw h (no_array most 74 rest refl)
base_read most text rest Short h = rw h (no_array most 83 rest refl)
base_read most text rest boolean h = rw h (no_array most 90 rest refl)
base_read most text rest Ref h =
    let behind : (h.0 ++ codes ";") ++ rest ≡ h.0 ++ 59 ∷ rest = append_assoc h.0 (codes ";") rest in
    ap (λ t. type_front most (t ++ rest)) h.2
    ∙ (no_array most 76 ((h.0 ++ codes ";") ++ rest) refl
    ∙ ap (option_map (type_parsed Ref)) (ap class_rest behind ∙ class_read h.0 rest h.1))

type_read : (n most : ℕ) (element rest : List ℕ) (kind : Kind) → IsBase element kind → n ≤ most
    → type_front most ((dimensions_text n ++ element) ++ rest) ≡ Some (type_parsed (held_kind n kind) rest)
type_read zero most element rest kind h le = base_read most element rest kind h
type_read (suc n) zero element rest kind h le = absurd (omega arith)
type_read (suc n) (suc most) element rest kind h le = ap (option_map array_of) (type_read n most element rest kind h (omega arith))

field_read : (text rest : List ℕ) (kind : Kind) → IsField text kind → first_type (text ++ rest) ≡ Some (type_parsed kind rest)
field_read text rest kind h =
    ap (λ t. first_type (t ++ rest)) h.spelled
    ∙ (type_read h.dimensions 255 h.element rest h.element_kind h.base h.most
    ∙ ap (λ k. Some (type_parsed k rest)) (sym h.held))

params_read : (n : ℕ) (text rest : List ℕ) (kinds : List Kind) → AreFields text kinds → length kinds ≤ n
    → params_front n (text ++ 41 ∷ rest) ≡ Some (record { kinds = kinds; rest = rest })
params_read zero text rest [] h le = rw h refl
params_read (suc n) text rest [] h le = rw h refl
params_read zero text rest (k ∷ ks) h le = absurd (omega arith)
params_read (suc n) text rest (k ∷ ks) h le =
    let one : first_type (text ++ 41 ∷ rest) ≡ Some (type_parsed k (h.1 ++ 41 ∷ rest)) =
    ap (λ t. first_type (t ++ 41 ∷ rest)) h.4 ∙ (ap first_type (append_assoc h.0 h.1 (41 ∷ rest)) ∙ field_read h.0 (h.1 ++ 41 ∷ rest) k h.2) in
    ap (params_by (params_front n) (text ++ 41 ∷ rest)) one ∙ ap (option_map (with_param k)) (params_read n h.1 rest ks h.3 (omega arith))

some_slot : (k : Kind) → 1 ≤ slots k
some_slot Byte = omega arith
some_slot Char = omega arith
some_slot Double = omega arith
some_slot Float = omega arith
some_slot Int = omega arith
some_slot Long = omega arith
some_slot Short = omega arith
some_slot boolean = omega arith
some_slot Ref = omega arith

some_slots : (ks : List Kind) → length ks ≤ slot_count ks
some_slots [] = omega arith
some_slots (k ∷ ks) = omega (arith, sum_by-cons slots k ks, some_slot k, some_slots ks)

result_read : (text : List ℕ) (result : Option Kind) → IsResult text result → result_of text ≡ Some result
result_read text None h = rw h refl
result_read text (Some kind) h = ap (result_by text) (ap first_type (sym (append-nil text)) ∙ field_read text [] kind h)

room_read : (shape : Shape) → slot_count shape.params ≤ 255 → with_room shape ≡ Some shape
room_read shape le = rw (le-leb (slot_count shape.params) 255 le) refl

pub method_read : (text : List ℕ) (shape : Shape) → IsMethod text shape → shape_of text ≡ Some shape
method_read text shape h =
    let params : params_front 255 (h.params ++ 41 ∷ h.result) ≡ Some (record { kinds = shape.params; rest = h.result }) =
    params_read 255 h.params h.result shape.params h.fields (omega (arith, some_slots shape.params, h.most)) in
    ap shape_of h.spelled
    ∙ (ap (λ o. option_and_then with_room (option_and_then with_result o)) params
    ∙ (ap (λ o. option_and_then with_room (option_map (shape_with shape.params) o)) (result_read h.result shape.result h.returned)
    ∙ room_read shape h.most))

-- ---- what is read is in the grammar

by_letter : (unit letter : ℕ) (found kind : Kind) → IsBase (letter ∷ []) found → eqb unit letter ≡ true → ◌≡◌ {A = Option Kind} (Some found) (Some kind) → IsBase (unit ∷ []) kind
by_letter unit letter found kind h same is =
    subst (λ (k : Kind). IsBase (unit ∷ []) k) (same_Some found kind is) (subst (λ (u : ℕ). IsBase (u ∷ []) found) (sym (eqb-true unit letter same)) h)

letter_base : (unit : ℕ) (kind : Kind) → letter_kind unit ≡ Some kind → IsBase (unit ∷ []) kind
letter_base unit kind e =
    chosen _ _ _ _ e (λ same is. by_letter unit 66 Byte kind refl same is) (λ not e.
    chosen _ _ _ _ e (λ same is. by_letter unit 67 Char kind refl same is) (λ not e.
    chosen _ _ _ _ e (λ same is. by_letter unit 68 Double kind refl same is) (λ not e.
    chosen _ _ _ _ e (λ same is. by_letter unit 70 Float kind refl same is) (λ not e.
    chosen _ _ _ _ e (λ same is. by_letter unit 73 Int kind refl same is) (λ not e.
    chosen _ _ _ _ e (λ same is. by_letter unit 74 Long kind refl same is) (λ not e.
    chosen _ _ _ _ e (λ same is. by_letter unit 83 Short kind refl same is) (λ not e.
    chosen _ _ _ _ e (λ same is. by_letter unit 90 boolean kind refl same is) (λ not e. absurd cc))))))))

semicolon_not : (unit : ℕ) → eqb unit 59 ≡ false → codes ";" ≢ unit ∷ []
semicolon_not unit h e = eqb-false unit 59 h cc

-- a text up to the next `;`
record IsNamed (text rest : List ℕ) : Type 0 where
  name : List ℕ
  plain : AllByRecursion (λ unit. codes ";" ≢ unit ∷ []) name
  spelled : text ≡ name ++ 59 ∷ rest

name_sound : (text rest : List ℕ) → name_rest text ≡ Some rest → IsNamed text rest
name_sound [] rest e = absurd cc
name_sound (unit ∷ text) rest e =
    chosen _ _ _ _ e
    (λ same is.
    let here : IsNamed (59 ∷ text) text = record { name = []; plain = tt; spelled = refl } in
    subst (λ (u : ℕ). IsNamed (u ∷ text) rest) (sym (eqb-true unit 59 same)) (subst (IsNamed (59 ∷ text)) (same_Some text rest is) here))
    (λ apart is.
    let r = name_sound text rest is in
    record { name = unit ∷ r.name; plain = (semicolon_not unit apart, r.plain); spelled = ap (λ (t : List ℕ). unit ∷ t) r.spelled })

class_sound : (text rest : List ℕ) → class_rest text ≡ Some rest → (name : List ℕ) × IsName name × (text ≡ name ++ 59 ∷ rest)
class_sound [] rest e = absurd cc
class_sound (unit ∷ text) rest e =
    let n = not_failed _ _ _ e in
    let r = name_sound text rest n.1 in
    (unit ∷ r.name, record { some = λ e. absurd cc; plain = (semicolon_not unit n.0, r.plain) }, ap (λ (t : List ℕ). unit ∷ t) r.spelled)

-- a type with at most so many `[` stands in front
record IsTyped (most : ℕ) (text : List ℕ) (t : Typed) : Type 0 where
  dimensions : ℕ
  fits : dimensions ≤ most
  element : List ℕ
  element_kind : Kind
  base : IsBase element element_kind
  spelled : text ≡ (dimensions_text dimensions ++ element) ++ t.rest
  held : t.kind ≡ held_kind dimensions element_kind

base_sound : (most unit : ℕ) (rest : List ℕ) (t : Typed) → base_front unit rest ≡ Some t → IsTyped most (unit ∷ rest) t
base_sound most unit rest t e =
    chosen _ _ _ _ e
    (λ same is.
    let m = map_parts (type_parsed Ref) (class_rest rest) t is in
    let c = class_sound rest m.0 m.1 in
    let found : IsTyped most (unit ∷ rest) (type_parsed Ref m.0) = record {
      dimensions = 0;
      fits = omega arith;
      element = codes "L" ++ (c.0 ++ codes ";");
      element_kind = Ref;
      base = (c.0, c.1, refl);
      spelled = ap (λ (u : ℕ). u ∷ rest) (eqb-true unit 76 same) ∙ ap (λ (r : List ℕ). 76 ∷ r) (c.2 ∙ sym (append_assoc c.0 (codes ";") m.0));
      held = refl;
    } in
    subst (IsTyped most (unit ∷ rest)) m.2 found)
    (λ apart is.
    let m = map_parts (λ (kind : Kind). type_parsed kind rest) (letter_kind unit) t is in
    let found : IsTyped most (unit ∷ rest) (type_parsed m.0 rest) = record {
      dimensions = 0;
      fits = omega arith;
      element = unit ∷ [];
      element_kind = m.0;
      base = letter_base unit m.0 m.1;
      spelled = refl;
      held = refl;
    } in
    subst (IsTyped most (unit ∷ rest)) m.2 found)

array_sound : (n unit : ℕ) (rest : List ℕ) (x t : Typed) → unit ≡ 91 → array_of x ≡ t → IsTyped n rest x → IsTyped (suc n) (unit ∷ rest) t
array_sound n unit rest x t is made h =
    let found : IsTyped (suc n) (unit ∷ rest) (array_of x) = record {
      dimensions = suc h.dimensions;
      fits = omega (arith, h.fits);
      element = h.element;
      element_kind = h.element_kind;
      base = h.base;
      spelled = ap (λ (u : ℕ). u ∷ rest) is ∙ ap (λ (r : List ℕ). 91 ∷ r) h.spelled;
      held = refl;
    } in
    subst (IsTyped (suc n) (unit ∷ rest)) made found

type_sound : (most : ℕ) (text : List ℕ) (t : Typed) → type_front most text ≡ Some t → IsTyped most text t
type_sound zero [] t e = absurd cc
type_sound zero (unit ∷ rest) t e = base_sound zero unit rest t e
type_sound (suc n) [] t e = absurd cc
type_sound (suc n) (unit ∷ rest) t e =
    chosen _ _ _ _ e
    (λ same is.
    let m = map_parts array_of (type_front n rest) t is in
    array_sound n unit rest m.0 t (eqb-true unit 91 same) m.2 (type_sound n rest m.0 m.1))
    (λ apart is. base_sound (suc n) unit rest t is)

field_sound : (text : List ℕ) (t : Typed) → first_type text ≡ Some t → (front : List ℕ) × IsField front t.kind × (text ≡ front ++ t.rest)
field_sound text t e =
    let h = type_sound 255 text t e in
    let field : IsField (dimensions_text h.dimensions ++ h.element) t.kind = record {
      dimensions = h.dimensions;
      most = h.fits;
      element = h.element;
      element_kind = h.element_kind;
      base = h.base;
      spelled = refl;
      held = h.held;
    } in
    (dimensions_text h.dimensions ++ h.element, field, h.spelled)

-- parameters stand before `)`
record AreBefore (text : List ℕ) (p : Params) : Type 0 where
  params : List ℕ
  fields : AreFields params p.kinds
  spelled : text ≡ params ++ 41 ∷ p.rest

closed_sound : (text : List ℕ) (p : Params) → parameters_closed text ≡ Some p → AreBefore text p
closed_sound [] p e = absurd cc
closed_sound (unit ∷ rest) p e =
    let none : Params = record { kinds = []; rest = rest } in
    let t = chosen_by (eqb unit 41) (Some none) p e in
    let found : AreBefore (unit ∷ rest) none = record { params = []; fields = refl; spelled = ap (λ (u : ℕ). u ∷ rest) (eqb-true unit 41 t.0) } in
    subst (AreBefore (unit ∷ rest)) (same_Some none p t.1) found

one_more : (text first : List ℕ) (kind : Kind) (rest : List ℕ) (p : Params) → IsField first kind → text ≡ first ++ rest → AreBefore rest p → AreBefore text (with_param kind p)
one_more text first kind rest p field spelled h = record {
  params = first ++ h.params;
  fields = (first, h.params, field, h.fields, refl);
  spelled = spelled ∙ (ap (λ (t : List ℕ). first ++ t) h.spelled ∙ sym (append_assoc first h.params (41 ∷ p.rest)));
}

params_by_sound : (n : ℕ) (text : List ℕ) (p : Params) (o : Option Typed) → first_type text ≡ o → params_by (params_front n) text o ≡ Some p
    → ((x : List ℕ) (q : Params) → params_front n x ≡ Some q → AreBefore x q) → AreBefore text p
params_by_sound n text p None is e others = closed_sound text p e
params_by_sound n text p (Some t) is e others =
    let m = map_parts (with_param t.kind) (params_front n t.rest) p e in
    let f = field_sound text t is in
    subst (AreBefore text) m.2 (one_more text f.0 t.kind t.rest m.0 f.1 f.2 (others t.rest m.0 m.1))

params_sound : (n : ℕ) (text : List ℕ) (p : Params) → params_front n text ≡ Some p → AreBefore text p
params_sound zero text p e = closed_sound text p e
params_sound (suc n) text p e = params_by_sound n text p (first_type text) refl e (params_sound n)

only_sound : (text front : List ℕ) (kind : Kind) (rest : List ℕ) (result : Option Kind) → IsField front kind → text ≡ front ++ rest → only_type kind rest ≡ Some result → IsResult text result
only_sound text front kind [] result field spelled e =
    subst (IsResult text) (same_Some (Some kind) result e) (subst (λ (t : List ℕ). IsField t kind) (sym (spelled ∙ append-nil front)) field)
only_sound text front kind (unit ∷ rest) result field spelled e = absurd cc

void_sound : (text : List ℕ) (result : Option Kind) → result_by text None ≡ Some result → IsResult text result
void_sound text result e =
    let t = chosen_by (same_text text (codes "V")) (Some None) result e in
    subst (IsResult text) (same_Some None result t.1) ((bytes_eq-Decides text (codes "V")).0 t.0)

result_by_sound : (text : List ℕ) (result : Option Kind) (o : Option Typed) → first_type text ≡ o → result_by text o ≡ Some result → IsResult text result
result_by_sound text result None is e = void_sound text result e
result_by_sound text result (Some t) is e = let f = field_sound text t is in only_sound text f.0 t.kind t.rest result f.1 f.2 e

behind_open : (rest : List ℕ) (p : Params) (result : Option Kind) → AreBefore rest p → IsResult p.rest result → slot_count p.kinds ≤ 255 → IsMethod (40 ∷ rest) (shape_with p.kinds result)
behind_open rest p result h returned most = record {
  params = h.params;
  result = p.rest;
  fields = h.fields;
  most = most;
  returned = returned;
  spelled = ap (λ (t : List ℕ). 40 ∷ t) h.spelled;
}

open_sound : (rest : List ℕ) (shape : Shape) → option_and_then with_room (option_and_then with_result (params_front 255 rest)) ≡ Some shape → IsMethod (40 ∷ rest) shape
open_sound rest shape e =
    let room = and_then_parts with_room (option_and_then with_result (params_front 255 rest)) shape e in
    let fits = chosen_by (leb (slot_count room.0.params) 255) (Some room.0) shape room.2 in
    let given = and_then_parts with_result (params_front 255 rest) room.0 room.1 in
    let made = map_parts (shape_with given.0.kinds) (result_of given.0.rest) room.0 given.2 in
    let kinds : given.0.kinds ≡ room.0.params = ap (λ (s : Shape). s.params) made.2 in
    let most : slot_count given.0.kinds ≤ 255 = leb-true (slot_count given.0.kinds) 255 (ap (λ (ks : List Kind). leb (slot_count ks) 255) kinds ∙ fits.0) in
    let found = behind_open rest given.0 made.0 (params_sound 255 rest given.0 given.1) (result_by_sound given.0.rest made.0 (first_type given.0.rest) refl made.1) most in
    subst (IsMethod (40 ∷ rest)) (made.2 ∙ same_Some room.0 shape fits.1) found

pub method_sound : (text : List ℕ) (shape : Shape) → shape_of text ≡ Some shape → IsMethod text shape
method_sound [] shape e = absurd cc
method_sound (unit ∷ rest) shape e =
    let t = chosen_by (eqb unit 40) (option_and_then with_room (option_and_then with_result (params_front 255 rest))) shape e in
    subst (λ (u : ℕ). IsMethod (u ∷ rest) shape) (sym (eqb-true unit 40 t.0)) (open_sound rest shape t.1)

-- ---- both

pub shape_grammar : (text : List ℕ) (shape : Shape) → (shape_of text ≡ Some shape) ↔ IsMethod text shape
shape_grammar text shape = (method_sound text shape, method_read text shape)

-- a text that is no method descriptor has no shape
pub no_shape : (text : List ℕ) → ((shape : Shape) → IsMethod text shape → ⊥) → shape_of text ≡ None
no_shape text none = by_found (shape_of text) refl where
  by_found : (o : Option Shape) → shape_of text ≡ o → o ≡ None
  by_found None e = refl
  by_found (Some shape) e = absurd (none shape (method_sound text shape e))
