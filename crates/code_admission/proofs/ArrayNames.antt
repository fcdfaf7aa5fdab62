-- The dimensions of a name by which code may refer to a class are those of what it stands for.
use Rattle.std.proofs.Common.{◌≡◌, ◌≢◌, ℕ, zero, suc, ◌+◌, ◌≤◌, Bool, true, false, cond, List, [], ◌∷◌, ◌++◌, length, position, take, Option, Some, None, refl, sym, ap, subst, ◌∙◌, codes, zero-add, arith}
use Rattle.std.specs.Prelude.{◌==◌, ◌||◌, not, is_some, nat_le, unwrap_or}
use Rattle.std.specs.List.{AllByRecursion}
use Rattle.std.specs.Option.{option_and_then, option_map}
use Rattle.std.proofs.lemmas.Bool.{le-leb, ne_eqb, eq-eqb}
use Rattle.std.proofs.lemmas.List.{length-append}
use Rattle.const_pool.specs.declared.descriptor.Kind.{Kind}
use Rattle.const_pool.specs.declared.descriptor.Kind.TheVariants as kind
use Rattle.const_pool.specs.Descriptors.{IsBase, IsField, IsName, dimensions_text}
use Rattle.jvm_model.specs.Classes.Kinds.{Element, Named, array_from, array_meaning, before_semicolon, element_of, is_array_name, meaning_of}
use Rattle.code_admission.specs.Texts.{dimensions_of, field_kind, is_class_name, is_field_text}
use Rattle.code_admission.proofs.Grammar.{field_kind_found}
use Rattle.code_admission.proofs.Positions.{position-behind}

-- ---- an element

abbrev is_semicolon : ℕ → Bool
is_semicolon unit = unit == 59

plain-unit : (unit : ℕ) → codes ";" ≢ unit ∷ [] → (unit == 59) ≡ false
plain-unit unit other = ne_eqb unit 59 (λ e. other (ap (λ (u : ℕ). u ∷ []) (sym e)))

position-end : (name : List ℕ) → AllByRecursion (λ unit. codes ";" ≢ unit ∷ []) name → position is_semicolon (name ++ codes ";") ≡ Some (length name)
position-end [] plain = refl
position-end (unit ∷ name) plain = position-behind is_semicolon unit (name ++ codes ";") (length name) (plain-unit unit plain.0) (position-end name plain.1)

before-there : (name : List ℕ) → AllByRecursion (λ unit. codes ";" ≢ unit ∷ []) name → is_some (before_semicolon (name ++ codes ";")) ≡ true
before-there name plain =
    let long : length name + 1 ≡ length (name ++ codes ";") = sym (length-append name (codes ";")) in
    ap (λ o. is_some (option_and_then (λ at. cond (at + 1 == length (name ++ codes ";")) (Some (take at (name ++ codes ";"))) None) o)) (position-end name plain)
    ∙ ap (λ b. is_some (cond b (Some (take (length name) (name ++ codes ";"))) None)) (eq-eqb (length name + 1) (length (name ++ codes ";")) long)

pub mapped-there : {A B : Type 0} (f : A → B) (o : Option A) → is_some o ≡ true → is_some (option_map f o) ≡ true
mapped-there f None e = e
mapped-there f (Some x) e = refl

class-there : (name : List ℕ) → IsName name → is_some (element_of (codes "L" ++ (name ++ codes ";"))) ≡ true
class-there [] is = absurd (is.some refl)
class-there (unit ∷ name) is =
    ap (λ b. is_some (cond (not b) (option_map Named (before_semicolon (unit ∷ name ++ codes ";"))) None)) (plain-unit unit is.plain.0)
    ∙ mapped-there Named (before_semicolon (unit ∷ name ++ codes ";")) (before-there (unit ∷ name) is.plain)

-- a base is an element, and begins as no array
record IsElement (text : List ℕ) : Type 0 where
  there : is_some (element_of text) ≡ true
  plain : is_array_name text ≡ false

base-element : (text : List ℕ) (k : Kind) → IsBase text k → IsElement text
base-element text kind.Byte is = subst IsElement (sym is) (record { there = refl; plain = refl })
base-element text kind.Char is = subst IsElement (sym is) (record { there = refl; plain = refl })
base-element text kind.Double is = subst IsElement (sym is) (record { there = refl; plain = refl })
base-element text kind.Float is = subst IsElement (sym is) (record { there = refl; plain = refl })
base-element text kind.Int is = subst IsElement (sym is) (record { there = refl; plain = refl })
base-element text kind.Long is = subst IsElement (sym is) (record { there = refl; plain = refl })
base-element text kind.Short is = subst IsElement (sym is) (record { there = refl; plain = refl })
base-element text kind.Bool is = subst IsElement (sym is) (record { there = refl; plain = refl })
base-element text kind.Ref is = subst IsElement (sym is.2) (record { there = class-there is.0 is.1; plain = refl })

-- ---- an array

dimensions-counted : (n : ℕ) (text : List ℕ) → is_array_name text ≡ false → dimensions_of (dimensions_text n ++ text) ≡ n
dimensions-counted zero [] plain = refl
dimensions-counted zero (unit ∷ rest) plain = ap (λ b. cond b (dimensions_of rest + 1) 0) plain
dimensions-counted (suc n) text plain = ap (λ k. k + 1) (dimensions-counted n text plain) ∙ (let e : n + 1 ≡ suc n = omega arith in e)

array-behind : (d n : ℕ) (text : List ℕ) → array_from d (dimensions_text n ++ text) ≡ array_from (d + n) text
array-behind d zero text = ap (λ k. array_from k text) (let e : d ≡ d + 0 = omega arith in e)
array-behind d (suc n) text = array-behind (d + 1) n text ∙ ap (λ k. array_from k text) (let e : d + 1 + n ≡ d + suc n = omega arith in e)

array-element : (d : ℕ) (text : List ℕ) → d ≤ 255 → IsElement text → (element : Element) × (array_from d text ≡ Some (array_meaning d element))
array-element d [] few is = absurd cc (is.there)
array-element d (unit ∷ rest) few is = by (element_of (unit ∷ rest)) refl is.there
  where
    by : (o : Option Element) → element_of (unit ∷ rest) ≡ o → is_some o ≡ true → (element : Element) × (array_from d (unit ∷ rest) ≡ Some (array_meaning d element))
    by None found there = absurd cc
    by (Some element) found there = (
      element,
      ap (λ b. cond b (array_from (d + 1) rest) (cond (nat_le d 255) (option_map (array_meaning d) (element_of (unit ∷ rest))) None)) is.plain
          ∙ (ap (λ b. cond b (option_map (array_meaning d) (element_of (unit ∷ rest))) None) (le-leb d 255 few)
          ∙ ap (option_map (array_meaning d)) found),
    )

-- ---- names

-- as many as it has in front
record HasDimensions (name : List ℕ) : Type 0 where
  same : (meaning_of name).dimensions ≡ dimensions_of name
  few : dimensions_of name ≤ 255

plain-dimensions : (name : List ℕ) → is_array_name name ≡ false → dimensions_of name ≡ 0
plain-dimensions [] plain = refl
plain-dimensions (unit ∷ rest) plain = ap (λ b. cond b (dimensions_of rest + 1) 0) plain

plain-has : (name : List ℕ) → is_array_name name ≡ false → HasDimensions name
plain-has name plain =
    let none = plain-dimensions name plain in
    record {
      same = ap (λ b. (cond b (unwrap_or (array_from 0 name) (array_meaning 0 (Named name))) (array_meaning 0 (Named name))).dimensions) plain ∙ sym none;
      few = omega (arith, none);
    }

array-has : (name : List ℕ) (k : Kind) → is_array_name name ≡ true → IsField name k → HasDimensions name
array-has name k array field =
    let element = base-element field.element field.element_kind field.base in
    let counted : dimensions_of name ≡ field.dimensions = ap dimensions_of field.spelled ∙ dimensions-counted field.dimensions field.element element.plain in
    let found = array-element field.dimensions field.element field.most element in
    let from : array_from 0 name ≡ Some (array_meaning field.dimensions found.0) = ap (array_from 0) field.spelled ∙ (array-behind 0 field.dimensions field.element ∙ (ap (λ k. array_from k field.element) (zero-add field.dimensions) ∙ found.1)) in
    record {
      same = ap (λ b. (cond b (unwrap_or (array_from 0 name) (array_meaning 0 (Named name))) (array_meaning 0 (Named name))).dimensions) array
          ∙ (ap (λ o. (unwrap_or o (array_meaning 0 (Named name))).dimensions) from ∙ sym counted);
      few = (let most = field.most in omega (arith, counted, most));
    }

pub class-dimensions : (name : List ℕ) → is_class_name name ≡ true → ((meaning_of name).dimensions ≡ dimensions_of name) × (dimensions_of name ≤ 255)
class-dimensions name is = by (is_array_name name) refl is
  where
    field : (o : Option Kind) → field_kind name ≡ o → is_some o ≡ true → (k : Kind) × (field_kind name ≡ Some k)
    field None found there = absurd cc
    field (Some k) found there = (k, found)

    by : (b : Bool) → is_array_name name ≡ b → (not b || is_field_text name) ≡ true → ((meaning_of name).dimensions ≡ dimensions_of name) × (dimensions_of name ≤ 255)
    by false plain named = let has = plain-has name plain in (has.same, has.few)
    by true array named =
        let k = field (field_kind name) refl named in
        let has = array-has name k.0 array (field_kind_found name k.0 k.1) in
        (has.same, has.few)
