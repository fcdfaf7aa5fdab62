-- The kinds of classes and arrays, and what they are of: of classes that are loaded, where a name was loaded without a
-- fault (JVM Specification 5.3, 5.4.3.1).
use Rattle.std.proofs.Common.{◌≡◌, ℕ, zero, suc, ◌+◌, ◌-◌, ◌*◌, ◌<◌, ◌≤◌, Bool, true, false, List, [], ◌∷◌, ap, sym, subst, refl, ◌∙◌, lit<, arith}
use Rattle.std.proofs.lemmas.Nat.{div-mul-add, mod-mul-add}
use Rattle.std.specs.Prelude.{◌/◌, ◌%◌, length, Option, Some, None, codes, position, nat_le, nat_lt, unwrap_or, not, ◌==◌, ◌||◌, ◌&&◌, if◌then◌else◌}
use Rattle.std.specs.List.{AllByRecursion, list_any, position_or_len}
use Rattle.std.specs.Option.{option_map}
use Rattle.std.proofs.lemmas.Slice.Eq.{bytes_eq-Decides}
use Rattle.std.proofs.lemmas.Option.{none-some, same_Some}
use Rattle.std.proofs.lemmas.Bool.{lt-ltb, le-ltb}
use Rattle.const_pool.specs.BuiltIn.{built_in_names}
use Rattle.jvm_model.specs.declared.program.Program.{Program}
use Rattle.jvm_model.specs.Basis.Descriptors.{same_text}
use Rattle.jvm_model.specs.Basis.KindNumbers.{base_of_class, class_of_base, kind_number, user_count}
use Rattle.jvm_model.specs.Classes.Kinds.{Element, Primitive, Named, Meaning, array_from, array_meaning, before_semicolon, element_of, kind_named, meaning_of, parts_named, primitive_code}
use Rattle.jvm_model.specs.Classes.Load.{load_of}
use Rattle.jvm_model.specs.Basis.Programs.{class_named, has_name}
use Rattle.jvm_model.specs.Basis.SharedState.{class_of_kind, kind_for}
use Rattle.jvm_model.specs.Soundness.Sound.{HasBuiltIn, IsBuiltIn, IsBuiltInName, IsFit, IsLoaded, IsUsable, IsPrimitiveArray}
use Rattle.jvm_model.proofs.Soundness.SoundClasses.{load-there}

-- ---- bases

abbrev base_by : Bool → ℕ → ℕ → ℕ
base_by own users class = if own then 256 + class else 16 + (class - users)

abbrev class_by : ℕ → ℕ → Option ℕ
class_by users base = if nat_lt base 16 then None else if nat_lt base 256 then Some (users + (base - 16)) else Some (base - 256)

own-back : (users class : ℕ) → class_by users (256 + class) ≡ Some class
own-back users class =
    ap (λ b. if b then None else if nat_lt (256 + class) 256 then Some (users + (256 + class - 16)) else Some (256 + class - 256)) (le-ltb (256 + class) 16 (omega arith))
    ∙ (ap (λ b. if b then Some (users + (256 + class - 16)) else Some (256 + class - 256)) (le-ltb (256 + class) 256 (omega arith))
    ∙ ap Some (omega arith))

built-in-back : (users class : ℕ) → users ≤ class → class < users + 240 → class_by users (16 + (class - users)) ≡ Some class
built-in-back users class above within =
    ap (λ b. if b then None else if nat_lt (16 + (class - users)) 256 then Some (users + (16 + (class - users) - 16)) else Some (16 + (class - users) - 256))
    (le-ltb (16 + (class - users)) 16 (omega arith))
    ∙ (ap (λ b. if b then Some (users + (16 + (class - users) - 16)) else Some (16 + (class - users) - 256)) (lt-ltb (16 + (class - users)) 256 (omega arith))
    ∙ ap Some (omega arith))

back-by : (users class : ℕ) (b : Bool) → nat_lt class users ≡ b → class < users + 240 → class_by users (base_by b users class) ≡ Some class
back-by users class true is within = own-back users class
back-by users class false is within = built-in-back users class (grind (arith)) within

module _ (p : Program) (class : ℕ) (there : class < length p.classes) (few : length p.classes ≤ 4149) where
  pub class-back : class_of_base p (base_of_class p class) ≡ Some class
  class-back = back-by (user_count p) class (nat_lt class (user_count p)) refl (let users : ℕ = length p.classes - 53 in omega arith)

  by-test : (b : Bool) → nat_lt class (user_count p) ≡ b → base_by b (user_count p) class < 16777216
  by-test true is = omega arith
  by-test false is = omega arith

  pub base-below : base_of_class p class < 16777216
  base-below = by-test (nat_lt class (user_count p)) refl

-- ---- kinds

module _ (p : Program) (loaded : List ℕ) (root : IsLoaded loaded (user_count p)) where
  -- an array's class is java/lang/Object
  array-class : (kind : ℕ) → 16777216 ≤ kind → IsLoaded loaded (class_of_kind p kind)
  array-class kind big =
      subst (IsLoaded loaded) (sym (ap (λ b. if b then unwrap_or (class_of_base p kind) 0 else user_count p) (le-ltb kind 16777216 big))) root

  class-of : (dimensions base class : ℕ) → base < 16777216 → class_of_base p base ≡ Some class → IsLoaded loaded class
      → IsLoaded loaded (class_of_kind p (dimensions * 16777216 + base))
  class-of zero base class small is there =
      subst (λ k. IsLoaded loaded (class_of_kind p k)) (let e : base ≡ 0 * 16777216 + base = omega arith in e)
      (subst (IsLoaded loaded)
      (sym (ap (λ b. if b then unwrap_or (class_of_base p base) 0 else user_count p) (lt-ltb base 16777216 small)
      ∙ ap (λ o. unwrap_or o 0) is)) there)
  class-of (suc dimensions) base class small is there = array-class (suc dimensions * 16777216 + base) (omega arith)

  pub of-class : (dimensions base class : ℕ) → base < 16777216 → class_of_base p base ≡ Some class → IsLoaded loaded class
      → IsUsable p loaded (dimensions * 16777216 + base)
  of-class dimensions base class small is there = record {
    known = λ other e. subst (IsLoaded loaded)
        (same_Some class other (sym is ∙ (ap (class_of_base p) (sym (mod-mul-add dimensions 16777216 base small)) ∙ e))) there;
    of_class = class-of dimensions base class small is there;
  }

  pub of-primitive : (dimensions base : ℕ) → 1 ≤ dimensions → base < 16 → IsUsable p loaded (dimensions * 16777216 + base)
  of-primitive dimensions base deep small = record {
    known = λ class e. absurd (none-some class
        (sym (ap (λ b. if b then None else if nat_lt base 256 then Some (user_count p + (base - 16)) else Some (base - 256)) (lt-ltb base 16 small))
        ∙ (ap (class_of_base p) (sym (mod-mul-add dimensions 16777216 base (omega arith))) ∙ e)));
    of_class = array-class (dimensions * 16777216 + base) (omega arith);
  }

  pub primitive : (kind : ℕ) → IsPrimitiveArray kind → IsUsable p loaded kind
  primitive kind is =
      let long : 16777216 ≤ kind = is.array in
      let short : kind < 16777232 = is.primitive in
      let whole : 1 * 16777216 + (kind - 16777216) ≡ kind = omega (arith, long) in
      subst (IsUsable p loaded) whole (of-primitive 1 (kind - 16777216) (omega arith) (omega (arith, long, short)))

  -- an array over a kind
  pub over : (kind : ℕ) → IsUsable p loaded kind → IsUsable p loaded (16777216 + kind)
  over kind is = record {
    known = λ class e. is.known class (ap (class_of_base p) (let same : kind % 16777216 ≡ (16777216 + kind) % 16777216 = sym (one_more kind) in same) ∙ e);
    of_class = array-class (16777216 + kind) (omega arith);
  }
    where
      one_more : (n : ℕ) → (16777216 + n) % 16777216 ≡ n % 16777216
      one_more n = grind (arith)

  -- what an array of at least two dimensions has as elements
  pub under_usable : (kind : ℕ) → 2 * 16777216 ≤ kind → IsUsable p loaded kind → IsUsable p loaded (kind - 16777216)
  under_usable kind deep is = record {
    known = λ class e. is.known class (ap (class_of_base p) (same kind deep) ∙ e);
    of_class = array-class (kind - 16777216) (omega arith);
  }
    where
      same : (n : ℕ) → 2 * 16777216 ≤ n → n % 16777216 ≡ (n - 16777216) % 16777216
      same n h = grind (arith)

-- ---- what a name means

-- an element that is no class is one of an array
record IsMeaning (m : Meaning) : Type 0 where
  deep : (code : ℕ) → m.element ≡ Primitive code → 1 ≤ m.dimensions
  small : (code : ℕ) → m.element ≡ Primitive code → code < 16

record IsElement (e : Element) : Type 0 where
  small : (code : ℕ) → e ≡ Primitive code → code < 16

no-primitive : (name : List ℕ) (code : ℕ) → Named name ≡ Primitive code → ⊥
no-primitive name code e = cc

named-element : (name : List ℕ) → IsElement (Named name)
named-element name = record { small = λ code e. absurd (no-primitive name code e) }

primitive-element : (own : ℕ) → own < 16 → IsElement (Primitive own)
primitive-element own small = record { small = λ code e. subst (λ n. n < 16) (same own code e) small }
  where
    same : (a b : ℕ) → Primitive a ≡ Primitive b → a ≡ b
    same a b e = cc

abbrev Each : Option Element → Type 0
Each None = Unit {0}
Each (Some e) = IsElement e

if-code : (b : Bool) (code : ℕ) (o : Option ℕ) → code < 16 → Each (option_map Primitive o) → Each (option_map Primitive (if b then Some code else o))
if-code true code o small rest = primitive-element code small
if-code false code o small rest = rest

code-element : (unit : ℕ) → Each (option_map Primitive (primitive_code unit))
code-element unit =
    if-code (unit == 90) 4 _ (lit< tt) (if-code (unit == 67) 5 _ (lit< tt) (if-code (unit == 70) 6 _ (lit< tt) (if-code (unit == 68) 7 _ (lit< tt)
    (if-code (unit == 66) 8 _ (lit< tt) (if-code (unit == 83) 9 _ (lit< tt) (if-code (unit == 73) 10 _ (lit< tt) (if-code (unit == 74) 11 None (lit< tt) tt)))))))

class-element : (o : Option (List ℕ)) → Each (option_map Named o)
class-element None = tt
class-element (Some name) = named-element name

long-element : (b : Bool) (o : Option (List ℕ)) → Each (if b then option_map Named o else None)
long-element true o = class-element o
long-element false o = tt

each-element : (units : List ℕ) → Each (element_of units)
each-element [] = tt
each-element (unit ∷ []) = code-element unit
each-element (unit ∷ next ∷ rest) = long-element (unit == 76 && not (next == 59)) (before_semicolon (next ∷ rest))

abbrev EachMeaning : ℕ → Option Meaning → Type 0
EachMeaning least None = Unit {0}
EachMeaning least (Some m) = (least ≤ m.dimensions) × IsElement m.element

mapped : (d : ℕ) (o : Option Element) → Each o → EachMeaning d (option_map (array_meaning d) o)
mapped d None each = tt
mapped d (Some e) each = (omega arith, each)

lower : (a b : ℕ) (o : Option Meaning) → a ≤ b → EachMeaning b o → EachMeaning a o
lower a b None h each = tt
lower a b (Some m) h each = (let deep : b ≤ m.dimensions = each.0 in omega arith, each.1)

from-each : (d : ℕ) (units : List ℕ) → EachMeaning d (array_from d units)
from-each d [] = tt
from-each d (unit ∷ rest) = by (from-each (d + 1) rest) (unit == 91) (nat_le d 255)
  where
    by : EachMeaning (d + 1) (array_from (d + 1) rest) → (a b : Bool) → EachMeaning d (if a then array_from (d + 1) rest else if b then option_map (array_meaning d) (element_of (unit ∷ rest)) else None)
    by deeper true b = lower d (d + 1) (array_from (d + 1) rest) (omega arith) deeper
    by deeper false true = mapped d (element_of (unit ∷ rest)) (each-element (unit ∷ rest))
    by deeper false false = tt

plain : (name : List ℕ) → IsMeaning (array_meaning 0 (Named name))
plain name = record { deep = λ code e. absurd (no-primitive name code e); small = λ code e. absurd (no-primitive name code e) }

or-plain : (name : List ℕ) (o : Option Meaning) → EachMeaning 1 o → IsMeaning (unwrap_or o (array_meaning 0 (Named name)))
or-plain name None each = plain name
or-plain name (Some m) each = record { deep = λ code e. each.0; small = each.1.small }

means : (name : List ℕ) → IsMeaning (meaning_of name)
means [] = plain []
means (unit ∷ rest) = by (unit == 91) refl
  where
    by : (b : Bool) → (unit == 91) ≡ b
        → IsMeaning (if b then unwrap_or (if b then array_from 1 rest else if nat_le 0 255 then option_map (array_meaning 0) (element_of (unit ∷ rest)) else None) (array_meaning 0 (Named (unit ∷ rest))) else array_meaning 0 (Named (unit ∷ rest)))
    by true is = or-plain (unit ∷ rest) (array_from 1 rest) (from-each 1 rest)
    by false is = plain (unit ∷ rest)

-- ---- the kind

pub named-class : {X : Type 0} (test : X → Bool) (xs : List X) (at : ℕ) → position test xs ≡ Some at → at < length xs
named-class test xs at e = by (nat_lt (position_or_len test xs) (length xs)) refl e
  where
    by : (b : Bool) → nat_lt (position_or_len test xs) (length xs) ≡ b → (if b then Some (position_or_len test xs) else None) ≡ Some at → at < length xs
    by true is e = subst (λ n. n < length xs) (same_Some (position_or_len test xs) at e) (grind (arith))
    by false is e = absurd (none-some at e)

module _ (p : Program) (before after : List ℕ) (grown : (class : ℕ) → IsLoaded before class → IsLoaded after class) where
  pub usable-grows : (kind : ℕ) → IsUsable p before kind → IsUsable p after kind
  usable-grows kind is = record {
    known = λ class e. grown class (is.known class e);
    of_class = grown (class_of_kind p kind) is.of_class;
  }

module _ (p : Program) (few : length p.classes ≤ 4149) (loaded : List ℕ) (root : IsLoaded loaded (user_count p)) where
  -- a class that is loaded, and arrays of it
  class-usable : (dimensions class : ℕ) → class < length p.classes → IsLoaded loaded class
      → IsUsable p loaded (dimensions * 16777216 + base_of_class p class) × ((dimensions * 16777216 + base_of_class p class) / 16777216 ≡ dimensions)
  class-usable dimensions class within there = (
    of-class p loaded root dimensions (base_of_class p class) class (base-below p class within few) (class-back p class within few) there,
    div-mul-add dimensions 16777216 (base_of_class p class) (base-below p class within few),
  )

  by-class : (dimensions kind : ℕ) (own : List ℕ) (o : Option ℕ) → class_named p own ≡ o → ((class : ℕ) → class_named p own ≡ Some class → IsLoaded loaded class)
      → option_map kind_number (option_map (λ base. record { dimensions = dimensions; base = base }) (option_map (base_of_class p) o)) ≡ Some kind
      → IsUsable p loaded kind × (kind / 16777216 ≡ dimensions)
  by-class dimensions kind own None found there e = absurd (none-some kind e)
  by-class dimensions kind own (Some class) found there e =
      subst (λ k. IsUsable p loaded k × (k / 16777216 ≡ dimensions)) (same_Some (dimensions * 16777216 + base_of_class p class) kind e)
      (class-usable dimensions class (named-class (has_name own) p.classes class found) (there class found))

  by-element : (dimensions kind : ℕ) (e : Element) → IsMeaning (record { dimensions = dimensions; element = e })
      → ((own : List ℕ) → e ≡ Named own → (class : ℕ) → class_named p own ≡ Some class → IsLoaded loaded class)
      → option_map kind_number (parts_named p (record { dimensions = dimensions; element = e })) ≡ Some kind
      → IsUsable p loaded kind × (kind / 16777216 ≡ dimensions)
  by-element dimensions kind (Primitive code) is there e =
      subst (λ k. IsUsable p loaded k × (k / 16777216 ≡ dimensions)) (same_Some (dimensions * 16777216 + code) kind e) (
        of-primitive p loaded root dimensions code (is.deep code refl) (is.small code refl),
        div-mul-add dimensions 16777216 code (let small : code < 16 = is.small code refl in omega arith),
      )
  by-element dimensions kind (Named own) is there e = by-class dimensions kind own (class_named p own) refl (there own refl) e

-- the kind that a name stands for once it was loaded without a fault, with its dimensions
pub name-usable : (p : Program) (name loaded : List ℕ) (kind : ℕ) → length p.classes ≤ 4149 → IsLoaded (load_of p loaded name).loaded (user_count p)
    → (load_of p loaded name).fault ≡ None → kind_named p name ≡ Some kind
    → IsUsable p (load_of p loaded name).loaded kind × (kind / 16777216 ≡ (meaning_of name).dimensions)
name-usable p name loaded kind few root none named =
    by-element p few (load_of p loaded name).loaded root (meaning_of name).dimensions kind (meaning_of name).element (means name) (load-there p loaded name none) named

-- ---- built-in classes

same-is : (xs ys : List ℕ) → same_text xs ys ≡ true → xs ≡ ys
same-is xs ys e = (bytes_eq-Decides xs ys).0 e

module _ (p : Program) (name : List ℕ) where
  found-among : (names : List (List ℕ)) → AllByRecursion (IsBuiltIn p) names → list_any (same_text name) names ≡ true → IsBuiltIn p name
  found-among [] each is = absurd (let no : false ≡ true → ⊥ = λ e. cc in no is)
  found-among (x ∷ names) each is = by (same_text name x) refl is (found-among names each.1)
    where
      by : (b : Bool) → same_text name x ≡ b → (b || list_any (same_text name) names) ≡ true → (list_any (same_text name) names ≡ true → IsBuiltIn p name) → IsBuiltIn p name
      by true same is rest = subst (IsBuiltIn p) (sym (same-is name x same)) each.0
      by false same is rest = rest is

  pub built-in-class : IsFit p → IsBuiltInName name → IsBuiltIn p name
  built-in-class fit is = found-among built_in_names fit.built_in is

module _ (p : Program) (fit : IsFit p) (loaded : List ℕ) (has : HasBuiltIn p loaded) where
  pub built-in-there : (name : List ℕ) → (is : IsBuiltIn p name) → (is.class < length p.classes) × IsLoaded loaded is.class
  built-in-there name is =
      let within = named-class (has_name name) p.classes is.class is.found in
      (within, has.each is.class is.behind within)

  -- java/lang/Object, which is the class of arrays, is loaded
  pub has-root : IsLoaded loaded (user_count p)
  has-root =
      let first : IsBuiltIn p (codes "java/lang/Object") = fit.built_in.0 in
      let within : first.class < length p.classes = (built-in-there (codes "java/lang/Object") first).0 in
      let behind : user_count p ≤ first.class = first.behind in
      has.each (user_count p) (omega arith) (omega (arith, within, behind))

  -- an object of a built-in class, and an array of such
  pub built-in-usable : (dimensions : ℕ) (name : List ℕ) → IsBuiltInName name → IsUsable p loaded (dimensions * 16777216 + kind_for p name)
  built-in-usable dimensions name known =
      let is = built-in-class p name fit known in
      subst (λ class. IsUsable p loaded (dimensions * 16777216 + base_of_class p (unwrap_or class 0))) (sym is.found)
      (class-usable p fit.few loaded has-root dimensions is.class (built-in-there name is).0 (built-in-there name is).1).0

  pub kind-usable : (name : List ℕ) → IsBuiltInName name → IsUsable p loaded (kind_for p name)
  kind-usable name known = subst (IsUsable p loaded) (let e : 0 * 16777216 + kind_for p name ≡ kind_for p name = omega arith in e) (built-in-usable 0 name known)

  base-behind : (place : ℕ) → place < 53 → class_of_base p (16 + place) ≡ Some (user_count p + place)
  base-behind place few =
      ap (λ b. if b then None else if nat_lt (16 + place) 256 then Some (user_count p + (16 + place - 16)) else Some (16 + place - 256)) (le-ltb (16 + place) 16 (omega arith))
      ∙ (ap (λ b. if b then Some (user_count p + (16 + place - 16)) else Some (16 + place - 256)) (lt-ltb (16 + place) 256 (omega arith))
      ∙ ap (λ n. let o : Option ℕ = Some (user_count p + n) in o) (let e : 16 + place - 16 ≡ place = omega arith in e))

  -- an object of the built-in class at this place
  pub behind-usable : (place : ℕ) → place < 53 → IsUsable p loaded (16 + place)
  behind-usable place few =
      let whole : 53 ≤ length p.classes = has.whole in
      let there : IsLoaded loaded (user_count p + place) = has.each (user_count p + place) (omega arith) (omega (arith, whole)) in
      subst (IsUsable p loaded) (let e : 0 * 16777216 + (16 + place) ≡ 16 + place = omega arith in e)
      (of-class p loaded has-root 0 (16 + place) (user_count p + place) (omega arith) (base-behind place few) there)
