-- With more classes loaded a method has more targets.
use Rattle.std.proofs.Common.{◌≡◌, ℕ, Bool, true, false, List, [], ◌∷◌, ◌++◌, ap, refl, ◌∙◌}
use Rattle.std.specs.Prelude.{filter, filter_map, flat_map, Option, Some, None, ◌==◌, ◌||◌, if◌then◌else◌}
use Rattle.std.specs.List.{cons_option}
use Rattle.std.specs.Option.{option_and_then, option_map_or}
use Rattle.std.proofs.lemmas.Bool.{false≢true}
use Rattle.const_pool.specs.References.{Reference}
use Rattle.jvm_model.specs.Basis.Data.{Program, Local, Operation, Within, Named, Athrow, Monitor, Newarray, Arraylength, LoadElement, StoreElement, LdcString}
use Rattle.jvm_model.specs.Instructions.SymbolicReference.{SymbolicReference, New, Getfield, Putfield, Getstatic, Putstatic, Invokevirtual, Invokespecial, Invokestatic, Invokeinterface, Checkcast, Instanceof, Anewarray, Multianewarray, LdcClass}
use Rattle.jvm_model.specs.Instructions.FieldRules.{is_static_field}
use Rattle.jvm_model.specs.Instructions.InvocationRules.{Selecting, Virtual, OfInterface, Special, names_interface, selected_by}
use Rattle.jvm_model.specs.Basis.KindNumbers.{user_count}
use Rattle.jvm_model.specs.Classes.Load.{is_among}
use Rattle.jvm_model.specs.Classes.Lookup.{MemberPlace, is_subtype, resolved_field, resolved_method}
use Rattle.jvm_model.specs.Basis.Programs.{class_named, initializer_of}
use Rattle.jvm_model.specs.Classes.Selection.{is_static}
use Rattle.jvm_model.specs.Profiling.Targets.{loaded_class_named, is_array_type, class_with_methods, found_where, coded_at, method_coded, initializers, selections, invoked_by, begun_on, begun_static, begun_field, where_loaded, begun_by, begun_by_operation, targets_in}
use Rattle.jvm_model.proofs.Loading.Among.{among-front, among-behind}

abbrev Among : List ℕ → List ℕ → Type 0
Among xs ys = (m : ℕ) → is_among m xs ≡ true → is_among m ys ≡ true

same : (xs : List ℕ) → Among xs xs
same xs m h = h

none : (xs : List ℕ) → Among [] xs
none xs m h = absurd (false≢true h)

either : (xs ys cs bs : List ℕ) → Among xs cs → Among ys bs → Among (xs ++ ys) (cs ++ bs)
either [] ys cs bs first second m h = among-behind m cs bs (second m h)
either (x ∷ xs) ys cs bs first second m h = by (m == x) refl h (either xs ys cs bs (λ k g. first k (later k g)) second m)
  where
    later : (k : ℕ) → is_among k xs ≡ true → is_among k (x ∷ xs) ≡ true
    later k g = or-later (k == x) (is_among k xs) g
      where
        or-later : (a b : Bool) → b ≡ true → (a || b) ≡ true
        or-later true b e = refl
        or-later false b e = e

    by : (b : Bool) → (m == x) ≡ b → (b || is_among m (xs ++ ys)) ≡ true → (is_among m (xs ++ ys) ≡ true → is_among m (cs ++ bs) ≡ true) → is_among m (cs ++ bs) ≡ true
    by true e h rest = among-front m cs bs (first m (ap (λ b. b || is_among m xs) e))
    by false e h rest = rest h

pub filter-front : (test : ℕ → Bool) (xs ys : List ℕ) → filter test (xs ++ ys) ≡ filter test xs ++ filter test ys
filter-front test [] ys = refl
filter-front test (x ∷ xs) ys = by (test x) (filter-front test xs ys)
  where
    by : (b : Bool) → filter test (xs ++ ys) ≡ filter test xs ++ filter test ys
        → (if b then x ∷ filter test (xs ++ ys) else filter test (xs ++ ys)) ≡ (if b then x ∷ filter test xs else filter test xs) ++ filter test ys
    by true e = ap (λ l. x ∷ l) e
    by false e = e

pub made-front : (f : ℕ → Option ℕ) (xs ys : List ℕ) → filter_map f (xs ++ ys) ≡ filter_map f xs ++ filter_map f ys
made-front f [] ys = refl
made-front f (x ∷ xs) ys = by (f x) (made-front f xs ys)
  where
    by : (o : Option ℕ) → filter_map f (xs ++ ys) ≡ filter_map f xs ++ filter_map f ys → cons_option o (filter_map f (xs ++ ys)) ≡ cons_option o (filter_map f xs) ++ filter_map f ys
    by None e = e
    by (Some y) e = ap (λ l. y ∷ l) e

flat-front : (f : ℕ → List ℕ) (xs ys : List ℕ) (m : ℕ) → is_among m (flat_map f xs) ≡ true → is_among m (flat_map f (xs ++ ys)) ≡ true
flat-front f [] ys m h = absurd (false≢true h)
flat-front f (x ∷ xs) ys m h = either (f x) (flat_map f xs) (f x) (flat_map f (xs ++ ys)) (same (f x)) (flat-front f xs ys) m h

module _ (p : Program) (loaded more : List ℕ) where
  abbrev all : List ℕ
  all = loaded ++ more

  initializers-grow : (class : ℕ) → Among (initializers p loaded class) (initializers p all class)
  initializers-grow class m h =
      ap (λ l. is_among m (filter_map (initializer_of p) l)) (filter-front (is_subtype p class) loaded more)
      ∙ (ap (is_among m) (made-front (initializer_of p) (filter (is_subtype p class) loaded) (filter (is_subtype p class) more))
      ∙ among-front m (initializers p loaded class) (filter_map (initializer_of p) (filter (is_subtype p class) more)) h)

  selections-grow : (class : ℕ) (by : Selecting) (m : MemberPlace) → Among (selections p loaded class by m) (selections p all class by m)
  selections-grow class by m k h =
      ap (λ l. is_among k (flat_map (λ receiver. method_coded p (selected_by p by m receiver)) l)) (filter-front (λ lower. is_subtype p lower class) loaded more)
      ∙ flat-front (λ receiver. method_coded p (selected_by p by m receiver)) (filter (λ lower. is_subtype p lower class) loaded) (filter (λ lower. is_subtype p lower class) more) k h

  invoked-grows : (class : ℕ) (by : Selecting) (m : MemberPlace) → Among (invoked_by p loaded class by m) (invoked_by p all class by m)
  invoked-grows class Virtual m = selections-grow class Virtual m
  invoked-grows class OfInterface m = selections-grow class OfInterface m
  invoked-grows class (Special caller interface) m = same (method_coded p (selected_by p (Special caller interface) m class))

  mapped-grows : (o : Option MemberPlace) (f g : MemberPlace → List ℕ) → ((m : MemberPlace) → Among (f m) (g m)) → Among (option_map_or f o []) (option_map_or g o [])
  mapped-grows None f g each = none []
  mapped-grows (Some m) f g each = each m

  on-grows : (class : ℕ) (by : Selecting) (r : Reference) → Among (begun_on p loaded class by r) (begun_on p all class by r)
  on-grows class by r = mapped-grows (found_where (is_static p) false (resolved_method p class (names_interface by) r.member)) (invoked_by p loaded class by) (invoked_by p all class by) (invoked-grows class by)

  static-grows : (class : ℕ) (r : Reference) → Among (begun_static p loaded class r) (begun_static p all class r)
  static-grows class r =
      mapped-grows (found_where (is_static p) true (resolved_method p class false r.member)) (λ m. coded_at p m ++ initializers p loaded class) (λ m. coded_at p m ++ initializers p all class)
      (λ m. either (coded_at p m) (initializers p loaded class) (coded_at p m) (initializers p all class) (same (coded_at p m)) (initializers-grow class))

  field-grows : (class : ℕ) (r : Reference) → Among (begun_field p loaded class r) (begun_field p all class r)
  field-grows class r =
      mapped-grows (found_where (is_static_field p) true (resolved_field p class r.member)) (λ m. initializers p loaded class) (λ m. initializers p all class) (λ m. initializers-grow class)

  found-grows : (o : Option ℕ) (f g : ℕ → List ℕ) → ((class : ℕ) → Among (f class) (g class))
      → Among (option_map_or f (option_and_then (λ class. if is_among class loaded then Some class else None) o) [])
      (option_map_or g (option_and_then (λ class. if is_among class all then Some class else None) o) [])
  found-grows None f g each = none []
  found-grows (Some class) f g each = by (is_among class loaded) refl
    where
      by : (b : Bool) → is_among class loaded ≡ b
          → Among (option_map_or f (let o : Option ℕ = if b then Some class else None in o) []) (option_map_or g (let o : Option ℕ = if is_among class all then Some class else None in o) [])
      by false e = none (option_map_or g (let o : Option ℕ = if is_among class all then Some class else None in o) [])
      by true e = λ m h.
          ap (λ b. is_among m (option_map_or g (let o : Option ℕ = if b then Some class else None in o) [])) (among-front class loaded more e) ∙ each class m h

  where-grows : (name : List ℕ) (f g : ℕ → List ℕ) → ((class : ℕ) → Among (f class) (g class)) → Among (where_loaded p loaded name f) (where_loaded p all name g)
  where-grows name f g each = found-grows (class_named p name) f g each

  special-grows : (name : List ℕ) (f g : ℕ → List ℕ) → ((class : ℕ) → Among (f class) (g class))
      → Among (option_map_or f (class_with_methods p loaded name) []) (option_map_or g (class_with_methods p all name) [])
  special-grows name f g each = by (is_array_type name)
    where
      by : (b : Bool) → Among (option_map_or f (let o : Option ℕ = if b then Some (user_count p) else loaded_class_named p loaded name in o) [])
          (option_map_or g (let o : Option ℕ = if b then Some (user_count p) else loaded_class_named p all name in o) [])
      by true = each (user_count p)
      by false = where-grows name f g each

  begun-grows : (n : SymbolicReference) → Among (begun_by p loaded n) (begun_by p all n)
  begun-grows (New name) = where-grows name (initializers p loaded) (initializers p all) initializers-grow
  begun-grows (Getstatic r) = where-grows r.class (λ class. begun_field p loaded class r) (λ class. begun_field p all class r) (λ class. field-grows class r)
  begun-grows (Putstatic r) = where-grows r.class (λ class. begun_field p loaded class r) (λ class. begun_field p all class r) (λ class. field-grows class r)
  begun-grows (Invokestatic r) = where-grows r.class (λ class. begun_static p loaded class r) (λ class. begun_static p all class r) (λ class. static-grows class r)
  begun-grows (Invokespecial caller r interface) =
      special-grows r.class (λ class. begun_on p loaded class (Special caller interface) r) (λ class. begun_on p all class (Special caller interface) r) (λ class. on-grows class (Special caller interface) r)
  begun-grows (Invokevirtual r) = where-grows r.class (λ class. begun_on p loaded class Virtual r) (λ class. begun_on p all class Virtual r) (λ class. on-grows class Virtual r)
  begun-grows (Invokeinterface r) = where-grows r.class (λ class. begun_on p loaded class OfInterface r) (λ class. begun_on p all class OfInterface r) (λ class. on-grows class OfInterface r)
  begun-grows (Getfield r) = none []
  begun-grows (Putfield r) = none []
  begun-grows (Checkcast name) = none []
  begun-grows (Instanceof name) = none []
  begun-grows (Anewarray name) = none []
  begun-grows (Multianewarray name dimensions) = none []
  begun-grows (LdcClass name) = none []

  operation-grows : (op : Operation Local) → Among (begun_by_operation p loaded op) (begun_by_operation p all op)
  operation-grows (Named n) = begun-grows n
  operation-grows (Within i) = none []
  operation-grows Athrow = none []
  operation-grows Monitor = none []
  operation-grows (Newarray kind) = none []
  operation-grows Arraylength = none []
  operation-grows (LoadElement k) = none []
  operation-grows (StoreElement k) = none []
  operation-grows (LdcString units) = none []

  pub targets-grow : (operations : List (Operation Local)) → Among (targets_in p loaded operations) (targets_in p all operations)
  targets-grow [] = none []
  targets-grow (op ∷ rest) =
      either (begun_by_operation p loaded op) (targets_in p loaded rest) (begun_by_operation p all op) (targets_in p all rest) (operation-grows op) (targets-grow rest)
