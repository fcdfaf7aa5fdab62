-- What the names of an instruction stand for, and where their methods are (JVM Specification 5.4.3, 5.4.5, 5.5).
use Rattle.std.proofs.Common.{◌≡◌, ℕ, zero, suc, ◌+◌, ◌*◌, ◌≤◌, ◌<◌, Bool, true, false, List, [], ◌∷◌, ◌++◌, length, ap, ap₂, sym, subst, refl, ◌∙◌, eqb-true, inl, inr, arith}
use Rattle.std.proofs.lemmas.Bool.{ne_eqb, false≢true, or_right, le-ltb, lt-ltb, ltb-true}
use Rattle.std.proofs.lemmas.Nat.{div-mul-add, le-div, mod-mul-add}
use Rattle.std.proofs.lemmas.List.{append-nil}
use Rattle.std.specs.Prelude.{◌/◌, ◌%◌, codes, filter, filter_map, flat_map, Option, Some, None, is_some, Result, Ok, Err, slice_get, nat_le, nat_lt, unwrap_or, ◌==◌, ◌&&◌, ◌||◌, ◌⊎◌, if◌then◌else◌}
use Rattle.std.specs.Bool.{beq}
use Rattle.std.specs.List.{list_any, cons_option}
use Rattle.std.specs.Option.{option_and_then, option_map, option_map_or, option_to_list}
use Rattle.std.proofs.lemmas.Option.{none-some, same_Some}
use Rattle.jf_bytes.proofs.Tests.{equals_itself}
use Rattle.const_pool.specs.declared.class.ClassFile.{ClassFile}
use Rattle.const_pool.specs.References.{NameAndType}
use Rattle.jvm_model.specs.Basis.Data.{MethodPlace, Program, Outcome}
use Rattle.jvm_model.specs.Basis.KindNumbers.{base_of_class, class_of_base, kind_number, kind_parts, user_count}
use Rattle.jvm_model.specs.Classes.Kinds.{Element, Named, Meaning, array_from, array_meaning, base_of_element, element_of, is_above_arrays, is_subbase, is_subbase_of, is_subkind, kind_named, meaning_of, parts_named}
use Rattle.jvm_model.specs.Classes.Load.{is_among, load_of}
use Rattle.jvm_model.specs.Classes.Lookup.{MemberPlace, Found, Fails, first_in, field_at, found_or, incompatible_change, is_interface, is_subtype, method_at, resolved_field, resolved_method, superclasses, superclasses_within, superinterfaces, superinterfaces_within, supertypes, supertypes_within, superclass_of}
use Rattle.jvm_model.specs.Instructions.SymbolicReference.{member_found}
use Rattle.jvm_model.specs.Basis.Methods.{method_named}
use Rattle.jvm_model.specs.Basis.Programs.{class_at, class_named, has_name, initializer_name, initializer_of, number_from, number_of_method, place_of_method, same_place}
use Rattle.jvm_model.specs.Classes.Selection.{candidate, is_abstract, nearest, method_selected}
use Rattle.jvm_model.specs.Basis.SharedState.{class_of_kind, no_such_field, no_such_method}
use Rattle.jvm_model.specs.Soundness.Sound.{IsFit, IsLoaded}
use Rattle.jvm_model.proofs.Soundness.SoundClasses.{load-there}
use Rattle.jvm_model.proofs.Soundness.SoundKinds.{base-below, class-back, named-class}
use Rattle.jvm_model.specs.Soundness.Climbing.{Climbs, HasBareObject, IsDue}
use Rattle.jvm_model.specs.Profiling.Targets.{loaded_class_named, is_array_type, method_coded, initializers}
use Rattle.jvm_model.proofs.Loading.Among.{among-front, among-behind}

ok-ok : {A : Type 0} (x y : A) → (let r : Result A Outcome = Ok x in r) ≡ Ok y → x ≡ y
ok-ok x y e = cc

err-ok : {A : Type 0} (o : Outcome) (x : A) → Err o ≡ Ok x → ⊥
err-ok o x e = cc

-- ---- lists

pub among-flat : {A : Type 0} (f : A → List ℕ) (x : ℕ) (y : A) (test : A → Bool) (ys : List A) → list_any test ys ≡ true → ((z : A) → test z ≡ true → is_among x (f z) ≡ true)
    → is_among x (flat_map f ys) ≡ true
among-flat f x y test [] there is = absurd (false≢true there)
among-flat f x y test (z ∷ ys) there is = by (test z) refl there (λ h. among-flat f x y test ys h is)
  where
    by : (b : Bool) → test z ≡ b → (b || list_any test ys) ≡ true → (list_any test ys ≡ true → is_among x (flat_map f ys) ≡ true) → is_among x (f z ++ flat_map f ys) ≡ true
    by true same h rest = among-front x (f z) (flat_map f ys) (is z same)
    by false other h rest = among-behind x (f z) (flat_map f ys) (rest h)

pub among-filter : (test : ℕ → Bool) (x : ℕ) (xs : List ℕ) → is_among x xs ≡ true → test x ≡ true → is_among x (filter test xs) ≡ true
among-filter test x [] there is = absurd (false≢true there)
among-filter test x (y ∷ xs) there is = by (x == y) refl there (λ h. among-filter test x xs h is)
  where
    kept : (b : Bool) → is_among x (filter test xs) ≡ true → is_among x (if b then y ∷ filter test xs else filter test xs) ≡ true
    kept true h = or_right (x == y) (is_among x (filter test xs)) h
    kept false h = h

    by : (b : Bool) → (x == y) ≡ b → (b || is_among x xs) ≡ true → (is_among x xs ≡ true → is_among x (filter test xs) ≡ true)
        → is_among x (if test y then y ∷ filter test xs else filter test xs) ≡ true
    by true same h rest =
        ap (λ b. is_among x (if b then y ∷ filter test xs else filter test xs)) (ap test (sym (eqb-true x y same)) ∙ is)
        ∙ ap (λ b. b || is_among x (filter test xs)) same
    by false other h rest = kept (test y) (rest h)

among-made : (f : ℕ → Option ℕ) (x y : ℕ) (xs : List ℕ) → is_among x xs ≡ true → f x ≡ Some y → is_among y (filter_map f xs) ≡ true
among-made f x y [] there is = absurd (false≢true there)
among-made f x y (z ∷ xs) there is = by (x == z) refl there (λ h. among-made f x y xs h is)
  where
    kept : (o : Option ℕ) → is_among y (filter_map f xs) ≡ true → is_among y (cons_option o (filter_map f xs)) ≡ true
    kept None h = h
    kept (Some k) h = or_right (y == k) (is_among y (filter_map f xs)) h

    by : (b : Bool) → (x == z) ≡ b → (b || is_among x xs) ≡ true → (is_among x xs ≡ true → is_among y (filter_map f xs) ≡ true)
        → is_among y (cons_option (f z) (filter_map f xs)) ≡ true
    by true same h rest =
        ap (λ o. is_among y (cons_option o (filter_map f xs))) (ap f (sym (eqb-true x z same)) ∙ is)
        ∙ ap (λ b. b || is_among y (filter_map f xs)) (equals_itself y)
    by false other h rest = kept (f z) (rest h)

first-among : (at : ℕ → Option ℕ) (classes : List ℕ) (m : MemberPlace) → first_in at classes ≡ Some m → is_among m.class classes ≡ true
first-among at [] m e = absurd (none-some m e)
first-among at (class ∷ rest) m e = by (at class) e (first-among at rest m)
  where
    by : (o : Option ℕ) → option_map_or (λ position. Some (record { class = class; position = position })) o (first_in at rest) ≡ Some m
        → (first_in at rest ≡ Some m → is_among m.class rest ≡ true) → is_among m.class (class ∷ rest) ≡ true
    by None e rest_is = or_right (m.class == class) (is_among m.class rest) (rest_is e)
    by (Some position) e rest_is =
        let same : class ≡ m.class = ap (λ (q : MemberPlace). q.class) (same_Some (let q : MemberPlace = record { class = class; position = position } in q) m e) in
        ap (λ c. (m.class == c) || is_among m.class rest) same ∙ ap (λ b. b || is_among m.class rest) (equals_itself m.class)

-- ---- what a name stands for

array-deep : (deep : ℕ) (name : List ℕ) (m : Meaning) → array_from deep name ≡ Some m → deep ≤ m.dimensions
array-deep deep [] m e = absurd (none-some m e)
array-deep deep (unit ∷ rest) m e = by (unit == 91) e (array-deep (deep + 1) rest m)
  where
    of : (o : Option Element) → option_map (array_meaning deep) o ≡ Some m → deep ≤ m.dimensions
    of None e = absurd (none-some m e)
    of (Some element) e = let same : deep ≡ m.dimensions = ap (λ (x : Meaning). x.dimensions) (same_Some (array_meaning deep element) m e) in omega (arith, same)

    by-deep : (b : Bool) → (if b then option_map (array_meaning deep) (element_of (unit ∷ rest)) else None) ≡ Some m → deep ≤ m.dimensions
    by-deep true e = of (element_of (unit ∷ rest)) e
    by-deep false e = absurd (none-some m e)

    by : (b : Bool) → (if b then array_from (deep + 1) rest else if nat_le deep 255 then option_map (array_meaning deep) (element_of (unit ∷ rest)) else None) ≡ Some m
        → (array_from (deep + 1) rest ≡ Some m → deep + 1 ≤ m.dimensions) → deep ≤ m.dimensions
    by true e further = let more = further e in omega (arith, more)
    by false e further = by-deep (nat_le deep 255) e

-- a class's own name, or one of an array
data Means (name : List ℕ) (m : Meaning) : Type 0 where
  own : m ≡ array_meaning 0 (Named name) → Means name m
  deeper : 1 ≤ m.dimensions → Means name m

means : (name : List ℕ) → Means name (meaning_of name)
means [] = own refl
means (unit ∷ rest) = by (unit == 91) refl
  where
    array : (o : Option Meaning) → array_from 1 rest ≡ o → Means (unit ∷ rest) (unwrap_or o (array_meaning 0 (Named (unit ∷ rest))))
    array None e = own refl
    array (Some m) e = deeper (array-deep 1 rest m e)

    by : (b : Bool) → (unit == 91) ≡ b → Means (unit ∷ rest) (if b then unwrap_or (if b then array_from 1 rest else if nat_le 0 255 then option_map (array_meaning 0) (element_of (unit ∷ rest)) else None) (array_meaning 0 (Named (unit ∷ rest))) else array_meaning 0 (Named (unit ∷ rest)))
    by true e = array (array_from 1 rest) refl
    by false e = own refl

-- ---- kinds by numbers

no-dimensions : (kind : ℕ) → kind < 16777216 → kind / 16777216 ≡ 0
no-dimensions kind small = ap (λ k. k / 16777216) (let e : kind ≡ 0 * 16777216 + kind = omega arith in e) ∙ div-mul-add 0 16777216 kind small

own-base : (kind : ℕ) → kind < 16777216 → kind % 16777216 ≡ kind
own-base kind small = ap (λ k. k % 16777216) (let e : kind ≡ 0 * 16777216 + kind = omega arith in e) ∙ mod-mul-add 0 16777216 kind small

some-dimensions : (kind : ℕ) → 16777216 ≤ kind → 1 ≤ kind / 16777216
some-dimensions kind big = le-div 1 kind 16777216 (omega arith) (omega arith)

module _ (p : Program) (fit : IsFit p) where
  -- the kind that a name stands for, where it is resolved
  pub data Names (loaded name : List ℕ) (kind : ℕ) : Type 0 where
    of_class : (class : ℕ) → kind < 16777216 → class_of_base p kind ≡ Some class → class_of_kind p kind ≡ class → IsLoaded loaded class → is_array_type name ≡ false
        → loaded_class_named p loaded name ≡ Some class → Names loaded name kind
    of_array : 16777216 ≤ kind → class_of_kind p kind ≡ user_count p → is_array_type name ≡ true → Names loaded name kind

  own-names : (loaded name : List ℕ) (kind : ℕ) → meaning_of name ≡ array_meaning 0 (Named name)
      → ((class : ℕ) → class_named p name ≡ Some class → IsLoaded loaded class) → kind_named p name ≡ Some kind → Names loaded name kind
  own-names loaded name kind plain there named = by (class_named p name) refl (sym (ap (λ m. option_map kind_number (parts_named p m)) plain) ∙ named)
    where
      by : (o : Option ℕ) → class_named p name ≡ o → option_map kind_number (option_map (λ base. record { dimensions = 0; base = base }) (option_map (base_of_class p) o)) ≡ Some kind
          → Names loaded name kind
      by None member_found e = absurd (none-some kind e)
      by (Some class) member_found e =
          let within : class < length p.classes = named-class (has_name name) p.classes class member_found in
          let small : base_of_class p class < 16777216 = base-below p class within fit.few in
          let is : kind ≡ base_of_class p class = sym (same_Some (0 * 16777216 + base_of_class p class) kind e) ∙ (let z : 0 * 16777216 + base_of_class p class ≡ base_of_class p class = omega arith in z) in
          let back : class_of_base p kind ≡ Some class = ap (class_of_base p) is ∙ class-back p class within fit.few in
          let less : kind < 16777216 = subst (λ k. k < 16777216) (sym is) small in
          of_class class less back
          (ap (λ b. if b then unwrap_or (class_of_base p kind) 0 else user_count p) (lt-ltb kind 16777216 less) ∙ ap (λ o. unwrap_or o 0) back)
          (there class member_found)
          (ap (λ (m : Meaning). nat_lt 0 m.dimensions) plain)
          (ap (λ o. option_and_then (λ c. if is_among c loaded then Some c else None) o) member_found ∙ ap (λ b. let o : Option ℕ = if b then Some class else None in o) (there class member_found))

  deep-names : (loaded name : List ℕ) (kind : ℕ) → 1 ≤ (meaning_of name).dimensions → kind_named p name ≡ Some kind → Names loaded name kind
  deep-names loaded name kind deep named = by (base_of_element p (meaning_of name).element) named
    where
      by : (o : Option ℕ) → option_map kind_number (option_map (λ base. record { dimensions = (meaning_of name).dimensions; base = base }) o) ≡ Some kind → Names loaded name kind
      by None e = absurd (none-some kind e)
      by (Some base) e =
          let is : (meaning_of name).dimensions * 16777216 + base ≡ kind = same_Some ((meaning_of name).dimensions * 16777216 + base) kind e in
          let big : 16777216 ≤ kind = omega (arith, is, deep) in
          of_array big (ap (λ b. if b then unwrap_or (class_of_base p kind) 0 else user_count p) (le-ltb kind 16777216 big)) (lt-ltb 0 (meaning_of name).dimensions (omega (arith, deep)))

  pub kind-names : (loaded name : List ℕ) (kind : ℕ) → (load_of p loaded name).loaded ≡ loaded → (load_of p loaded name).fault ≡ None → kind_named p name ≡ Some kind
      → Names loaded name kind
  kind-names loaded name kind whole none named = by (means name)
    where
      by : Means name (meaning_of name) → Names loaded name kind
      by (own e) =
          own-names loaded name kind e
          (λ class member_found. subst (λ l. IsLoaded l class) whole (load-there p loaded name none name (ap (λ (m : Meaning). m.element) e) class member_found)) named
      by (deeper deep) = deep-names loaded name kind deep named

  -- ---- a receiver

  -- it is of a class below the named one, or an array
  pub data Receives (loaded : List ℕ) (class lower : ℕ) : Type 0 where
    receives_class : is_subtype p lower class ≡ true → Receives loaded class lower
    receives_array : lower ≡ user_count p → Receives loaded class lower

  -- of two kinds, the upper one of a class
  pub sub-class : (lower upper : ℕ) (class : ℕ) → upper < 16777216 → class_of_base p upper ≡ Some class → is_subkind p (kind_parts lower) (kind_parts upper) ≡ true
      → (loaded : List ℕ) → Receives loaded class (class_of_kind p lower)
  sub-class lower upper class small is sub loaded = by (nat_lt lower 16777216) refl
    where
      of_base : lower < 16777216 → (o : Option ℕ) → class_of_base p lower ≡ o → is_subbase_of p lower upper o (Some class) ≡ true → is_subtype p (unwrap_or o 0) class ≡ true
      of_base less None none e = absurd (false≢true e)
      of_base less (Some a) some e = e

      by : (b : Bool) → nat_lt lower 16777216 ≡ b → Receives loaded class (if b then unwrap_or (class_of_base p lower) 0 else user_count p)
      by false e = receives_array refl
      by true e =
          let less : lower < 16777216 = ltb-true lower 16777216 e in
          let flat : is_subkind p (kind_parts lower) (kind_parts upper) ≡ is_subbase_of p lower upper (class_of_base p lower) (class_of_base p upper) =
          ap₂ (λ a b. is_subkind p (record { dimensions = a; base = lower % 16777216 }) (record { dimensions = b; base = upper % 16777216 })) (no-dimensions lower less) (no-dimensions upper small)
          ∙ ap₂ (λ a b. is_subbase_of p a b (class_of_base p a) (class_of_base p b)) (own-base lower less) (own-base upper small) in
          receives_class (of_base less (class_of_base p lower) refl (ap (is_subbase_of p lower upper (class_of_base p lower)) (sym is) ∙ (sym flat ∙ sub)))

  -- only arrays are below arrays
  pub sub-array : (lower upper : ℕ) → 16777216 ≤ upper → is_subkind p (kind_parts lower) (kind_parts upper) ≡ true → class_of_kind p lower ≡ user_count p
  sub-array lower upper big sub = by (nat_lt lower 16777216) refl
    where
      by : (b : Bool) → nat_lt lower 16777216 ≡ b → (if b then unwrap_or (class_of_base p lower) 0 else user_count p) ≡ user_count p
      by false e = refl
      by true e =
          let less : lower < 16777216 = ltb-true lower 16777216 e in
          let some : 1 ≤ upper / 16777216 = some-dimensions upper big in
          let other : (0 == upper / 16777216) ≡ false = ne_eqb 0 (upper / 16777216) (λ same. omega (arith, some)) in
          let above : nat_lt (upper / 16777216) 0 ≡ false = le-ltb (upper / 16777216) 0 (omega arith) in
          let flat : is_subkind p (kind_parts lower) (kind_parts upper) ≡ false =
          ap (λ a. is_subkind p (record { dimensions = a; base = lower % 16777216 }) (kind_parts upper)) (no-dimensions lower less)
          ∙ (ap (λ b. if b then is_subbase p (lower % 16777216) (upper % 16777216) else nat_lt (upper / 16777216) 0 && is_above_arrays (upper % 16777216)) other
          ∙ ap (λ b. b && is_above_arrays (upper % 16777216)) above) in
          absurd (false≢true (sym flat ∙ sub))

-- ---- java/lang/Object

module _ (p : Program) (bare : HasBareObject p) where
  abbrev pub object : ℕ
  object = user_count p

  or-none : (x y : ℕ) → (x == y || false) ≡ true → x ≡ y
  or-none x y e = eqb-true x y (by (x == y) e)
    where
      by : (b : Bool) → (b || false) ≡ true → b ≡ true
      by true e = refl
      by false e = absurd (false≢true e)

  walk-super : (n : ℕ) → flat_map (superclasses_within p n) (superclass_of p object) ≡ []
  walk-super n = ap (flat_map (superclasses_within p n)) bare.superclass

  above-object : (n x : ℕ) → is_among x (supertypes_within p n object) ≡ true → x ≡ object
  above-object zero x e = absurd (false≢true e)
  above-object (suc n) x e =
      or-none x object
      (sym (ap (λ l. is_among x (object ∷ l)) (ap₂ (λ a b. flat_map (supertypes_within p n) a ++ flat_map (supertypes_within p n) b) bare.interfaces bare.superclass)) ∙ e)

  supers-object : (n x : ℕ) → is_among x (superclasses_within p n object) ≡ true → x ≡ object
  supers-object zero x e = absurd (false≢true e)
  supers-object (suc n) x e = or-none x object (sym (ap (λ l. is_among x (object ∷ l)) (walk-super n)) ∙ e)

  no-interfaces : (n : ℕ) → superinterfaces_within p n object ≡ []
  no-interfaces zero = refl
  no-interfaces (suc n) =
      ap₂ (λ a b. flat_map (λ i. i ∷ superinterfaces_within p n i) a ++ (if is_interface p object then [] else flat_map (superinterfaces_within p n) b)) bare.interfaces bare.superclass
      ∙ by (is_interface p object)
    where
      by : (b : Bool) → (let l : List ℕ = if b then [] else [] in l) ≡ []
      by true = refl
      by false = refl

  no-initializer : (m : ℕ) → initializer_of p object ≡ Some m → ⊥
  no-initializer m e = by (class_at p object) e
    where
      of : (o : Option ℕ) → option_and_then (number_of_method p object) o ≡ Some m → ⊥
      of None e = none-some m e
      of (Some at) e = none-some m (sym (bare.methods at) ∙ e)

      by : (o : Option ClassFile) → option_and_then (λ c. option_and_then (number_of_method p object) (method_named c initializer_name)) o ≡ Some m → ⊥
      by None e = none-some m e
      by (Some c) e = of (method_named c initializer_name) e

  pub object-due : (loaded ms : List ℕ) → IsDue p loaded ms object
  object-due loaded ms d m there sub e = absurd (no-initializer m (ap (initializer_of p) (sym (above-object (length p.classes) d sub)) ∙ e))

  pub object-coded : (member_found : Option MemberPlace) → ((m : MemberPlace) → member_found ≡ Some m → m.class ≡ object) → method_coded p member_found ≡ []
  object-coded None is = refl
  object-coded (Some m) is = ap option_to_list (ap (λ c. number_of_method p c m.position) (is m refl) ∙ bare.methods m.position)

  -- what is found in it stands in it
  pub field-object : (wanted : NameAndType) (m : MemberPlace) → resolved_field p object wanted ≡ Found m → m.class ≡ object
  field-object wanted m e = by (first_in (field_at p wanted) (supertypes p object)) refl e
    where
      by : (o : Option MemberPlace) → first_in (field_at p wanted) (supertypes p object) ≡ o → found_or o no_such_field ≡ Found m → m.class ≡ object
      by None is e = absurd (let no : Fails no_such_field ≡ Found m → ⊥ = λ e. cc in no e)
      by (Some k) is e =
          let same : k ≡ m = (let one : Found k ≡ Found m → k ≡ m = λ e. cc in one e) in
          above-object (length p.classes) m.class (first-among (field_at p wanted) (supertypes p object) m (is ∙ ap Some same))

  pub method-object : (wanted : NameAndType) (m : MemberPlace) → resolved_method p object false wanted ≡ Found m → m.class ≡ object
  method-object wanted m e = by (is_interface p object) refl e
    where
      among : (o : Option MemberPlace) → first_in (method_at p wanted) (superclasses p object ++ superinterfaces p object) ≡ o → found_or o no_such_method ≡ Found m → m.class ≡ object
      among None is e = absurd (let no : Fails no_such_method ≡ Found m → ⊥ = λ e. cc in no e)
      among (Some k) is e =
          let same : k ≡ m = (let one : Found k ≡ Found m → k ≡ m = λ e. cc in one e) in
          let whole : superclasses p object ++ superinterfaces p object ≡ superclasses p object = ap (λ l. superclasses p object ++ l) (no-interfaces (length p.classes)) ∙ append-nil (superclasses p object) in
          supers-object (length p.classes) m.class
          (ap (is_among m.class) (sym whole) ∙ first-among (method_at p wanted) (superclasses p object ++ superinterfaces p object) m (is ∙ ap Some same))

      by : (b : Bool) → is_interface p object ≡ b
          → (if beq b false then found_or (first_in (method_at p wanted) (if b then object ∷ (superinterfaces p object ++ option_to_list (class_named p (codes "java/lang/Object"))) else superclasses p object ++ superinterfaces p object)) no_such_method
          else Fails incompatible_change) ≡ Found m → m.class ≡ object
      by true is e = absurd (let no : Fails incompatible_change ≡ Found m → ⊥ = λ e. cc in no e)
      by false is e = among (first_in (method_at p wanted) (superclasses p object ++ superinterfaces p object)) refl e

  pub nearest-object : (interface : Bool) (m member_found : MemberPlace) → method_selected p object interface m ≡ Some member_found → member_found.class ≡ object
  nearest-object interface m member_found e = by (nearest p object interface m) refl e
    where
      of : (b : Bool) (k : MemberPlace) → nearest p object interface m ≡ Some k → (let o : Option MemberPlace = if b then None else Some k in o) ≡ Some member_found → member_found.class ≡ object
      of true k is e = absurd (none-some member_found e)
      of false k is e =
          supers-object (length p.classes) member_found.class (first-among (candidate p interface m) (superclasses p object) member_found (is ∙ e))

      by : (o : Option MemberPlace) → nearest p object interface m ≡ o → option_and_then (λ k. if is_abstract p k then None else Some k) o ≡ Some member_found → member_found.class ≡ object
      by None is e = absurd (none-some member_found e)
      by (Some k) is e = of (is_abstract p k) k is e

-- ---- members of classes

module _ (p : Program) (loaded : List ℕ) (climbs : Climbs p loaded) where
  pub field-above : (class : ℕ) (wanted : NameAndType) (m : MemberPlace) → resolved_field p class wanted ≡ Found m → is_subtype p class m.class ≡ true
  field-above class wanted m e = by (first_in (field_at p wanted) (supertypes p class)) refl e
    where
      by : (o : Option MemberPlace) → first_in (field_at p wanted) (supertypes p class) ≡ o → found_or o no_such_field ≡ Found m → is_subtype p class m.class ≡ true
      by None is e = absurd (let no : Fails no_such_field ≡ Found m → ⊥ = λ e. cc in no e)
      by (Some k) is e =
          let same : k ≡ m = (let one : Found k ≡ Found m → k ≡ m = λ e. cc in one e) in
          first-among (field_at p wanted) (supertypes p class) m (is ∙ ap Some same)

  -- of a class, no interface
  pub method-above : (class : ℕ) (wanted : NameAndType) (m : MemberPlace) → IsLoaded loaded class → resolved_method p class false wanted ≡ Found m → is_subtype p class m.class ≡ true
  method-above class wanted m there e = by (is_interface p class) refl e
    where
      either : (x : ℕ) (xs ys : List ℕ) → is_among x (xs ++ ys) ≡ true → (is_among x xs ≡ true) ⊎ (is_among x ys ≡ true)
      either x [] ys h = inr h
      either x (y ∷ xs) ys h = step (x == y) h (either x xs ys)
        where
          step : (b : Bool) → (b || is_among x (xs ++ ys)) ≡ true → (is_among x (xs ++ ys) ≡ true → (is_among x xs ≡ true) ⊎ (is_among x ys ≡ true))
              → ((b || is_among x xs) ≡ true) ⊎ (is_among x ys ≡ true)
          step true h rest = inl refl
          step false h rest = rest h

      above : (is_among m.class (superclasses p class) ≡ true) ⊎ (is_among m.class (superinterfaces p class) ≡ true) → is_subtype p class m.class ≡ true
      above (inl h) = climbs.superclasses class m.class there h
      above (inr h) = climbs.superinterfaces class m.class there h

      among : (o : Option MemberPlace) → first_in (method_at p wanted) (superclasses p class ++ superinterfaces p class) ≡ o → found_or o no_such_method ≡ Found m → is_subtype p class m.class ≡ true
      among None is e = absurd (let no : Fails no_such_method ≡ Found m → ⊥ = λ e. cc in no e)
      among (Some k) is e =
          let same : k ≡ m = (let one : Found k ≡ Found m → k ≡ m = λ e. cc in one e) in
          above (either m.class (superclasses p class) (superinterfaces p class)
          (first-among (method_at p wanted) (superclasses p class ++ superinterfaces p class) m (is ∙ ap Some same)))

      by : (b : Bool) → is_interface p class ≡ b
          → (if beq b false then found_or (first_in (method_at p wanted) (if b then class ∷ (superinterfaces p class ++ option_to_list (class_named p (codes "java/lang/Object"))) else superclasses p class ++ superinterfaces p class)) no_such_method
          else Fails incompatible_change) ≡ Found m → is_subtype p class m.class ≡ true
      by true is e = absurd (let no : Fails incompatible_change ≡ Found m → ⊥ = λ e. cc in no e)
      by false is e = among (first_in (method_at p wanted) (superclasses p class ++ superinterfaces p class)) refl e

  -- ---- initializers

  pub initializers-due : (class : ℕ) → IsDue p loaded (initializers p loaded class) class
  initializers-due class d m there sub e = among-made (initializer_of p) d m (filter (is_subtype p class) loaded) (among-filter (is_subtype p class) d loaded there sub) e

  pub due-above : (ms : List ℕ) (class above : ℕ) → IsLoaded loaded class → is_subtype p class above ≡ true → IsDue p loaded ms class → IsDue p loaded ms above
  due-above ms class above there sub due d m d_there d_sub e = due d m d_there (climbs.further class above d there sub d_sub) e

-- ---- a number is a method's

number-there : (k n class at : ℕ) (places : List MethodPlace) (i : ℕ) → number_from k class at places ≡ Some n → n ≡ k + i → is_some (slice_get places i) ≡ true
number-there k n class at [] i e is = absurd (none-some n e)
number-there k n class at (x ∷ rest) i e is = by (same_place class at x) e i is (number-there (k + 1) n class at rest)
  where
    by : (b : Bool) → (if b then Some k else number_from (k + 1) class at rest) ≡ Some n → (i : ℕ) → n ≡ k + i
        → ((j : ℕ) → number_from (k + 1) class at rest ≡ Some n → n ≡ k + 1 + j → is_some (slice_get rest j) ≡ true) → is_some (slice_get (x ∷ rest) i) ≡ true
    by b e zero is behind = refl
    by true e (suc j) is behind = let here = same_Some k n e in absurd (omega arith)
    by false e (suc j) is behind = behind j e (omega arith)

pub number-place : (p : Program) (class at n : ℕ) → number_of_method p class at ≡ Some n → is_some (place_of_method p n) ≡ true
number-place p class at n e = number-there 0 n class at p.methods n e (omega arith)

pub initializer-place : (p : Program) (class m : ℕ) → initializer_of p class ≡ Some m → is_some (place_of_method p m) ≡ true
initializer-place p class m e = by (class_at p class) e
  where
    of : (o : Option ℕ) → option_and_then (number_of_method p class) o ≡ Some m → is_some (place_of_method p m) ≡ true
    of None e = absurd (none-some m e)
    of (Some at) e = number-place p class at m e

    by : (o : Option ClassFile) → option_and_then (λ c. option_and_then (number_of_method p class) (method_named c initializer_name)) o ≡ Some m → is_some (place_of_method p m) ≡ true
    by None e = absurd (none-some m e)
    by (Some c) e = of (method_named c initializer_name) e
