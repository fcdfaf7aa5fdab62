-- Targets look at which classes are loaded, and not at their order.
use Rattle.std.proofs.Common.{◌≡◌, ℕ, Bool, true, false, List, [], ◌∷◌, ◌++◌, ap, ap₂, sym, refl, ◌∙◌}
use Rattle.std.specs.Prelude.{filter, flat_map, Option, Some, None, ◌||◌, if◌then◌else◌}
use Rattle.std.specs.Option.{option_and_then, option_map_or, option_to_list}
use Rattle.std.proofs.lemmas.Bool.{and_from, and_parts}
use Rattle.const_pool.specs.References.{Reference}
use Rattle.jvm_model.specs.declared.program.Program.{Program}
use Rattle.jvm_model.specs.declared.instruction.Local.{Local}
use Rattle.jvm_model.specs.declared.instruction.Operation.{Operation}
use Rattle.jvm_model.specs.declared.instruction.Operation.TheVariants.{Within, Named, Athrow, Monitor, Newarray, Arraylength, LoadElement, StoreElement, LdcString}
use Rattle.jvm_model.specs.Instructions.FieldRules.{is_static_field}
use Rattle.jvm_model.specs.Instructions.InvocationRules.{Selecting, Virtual, OfInterface, Special, names_interface, selected_by}
use Rattle.jvm_model.specs.Basis.KindNumbers.{user_count}
use Rattle.jvm_model.specs.Classes.Load.{is_among}
use Rattle.jvm_model.specs.Classes.Lookup.{MemberPlace, is_subtype, resolved_field, resolved_method}
use Rattle.jvm_model.specs.declared.instruction.SymbolicReference.{SymbolicReference}
use Rattle.jvm_model.specs.declared.instruction.SymbolicReference.TheVariants.{New, Getfield, Putfield, Getstatic, Putstatic, Invokevirtual, Invokespecial, Invokestatic, Invokeinterface, Checkcast, Instanceof, Anewarray, Multianewarray, LdcClass}
use Rattle.jvm_model.specs.Basis.Programs.{class_named, initializer_of}
use Rattle.jvm_model.specs.Classes.Selection.{is_static}
use Rattle.jvm_model.specs.Profiling.Targets.{begun_by, begun_by_operation, begun_field, begun_on, begun_static, class_with_methods, method_coded, coded_at, found_where, initializers, invoked_by, is_array_type, loaded_class_named, selections, targets_in, where_loaded}
use Rattle.jvm_model.proofs.Loading.Among.{among-append}
use Rattle.possible_callees.proofs.Truths.{alike}
use Rattle.possible_callees.proofs.Numbers.Adding.{among-filter, from_flat, made-flat, to_flat}

module _ (p : Program) where
  -- the same classes are loaded
  abbrev AreSame : List ℕ → List ℕ → Type 0
  AreSame a b = (x : ℕ) → is_among x a ≡ is_among x b

  named-same : (a b name : List ℕ) → AreSame a b → loaded_class_named p a name ≡ loaded_class_named p b name
  named-same a b name same = by (class_named p name)
    where
      by : (o : Option ℕ) → option_and_then (λ (class : ℕ). if is_among class a then Some class else None) o
          ≡ option_and_then (λ (class : ℕ). if is_among class b then Some class else None) o
      by None = refl
      by (Some class) = ap (λ t. if t then Some class else None) (same class)

  -- ---- what is made of loaded classes

  made-grows : (h : ℕ → List ℕ) (test : ℕ → Bool) (a b : List ℕ) (m : ℕ) → AreSame a b
      → is_among m (flat_map h (filter test a)) ≡ true → is_among m (flat_map h (filter test b)) ≡ true
  made-grows h test a b m same k =
      let i = from_flat h (filter test a) m k in
      let there = sym (among-filter test a i.item) ∙ i.there in
      to_flat h (filter test b) i.item m
      (among-filter test b i.item ∙ and_from (is_among i.item b) (test i.item) (sym (same i.item) ∙ (and_parts (is_among i.item a) (test i.item) there).0) (and_parts (is_among i.item a) (test i.item) there).1)
      i.within

  made-same : (h : ℕ → List ℕ) (test : ℕ → Bool) (a b : List ℕ) (m : ℕ) → AreSame a b
      → is_among m (flat_map h (filter test a)) ≡ is_among m (flat_map h (filter test b))
  made-same h test a b m same =
      alike (is_among m (flat_map h (filter test a))) (is_among m (flat_map h (filter test b)))
      (made-grows h test a b m same) (made-grows h test b a m (λ x. sym (same x)))

  initializers-same : (a b : List ℕ) (class m : ℕ) → AreSame a b → is_among m (initializers p a class) ≡ is_among m (initializers p b class)
  initializers-same a b class m same =
      ap (is_among m) (made-flat (initializer_of p) (filter (is_subtype p class) a))
      ∙ (made-same (λ x. option_to_list (initializer_of p x)) (is_subtype p class) a b m same
      ∙ sym (ap (is_among m) (made-flat (initializer_of p) (filter (is_subtype p class) b))))

  selections-same : (a b : List ℕ) (class : ℕ) (by : Selecting) (found : MemberPlace) (m : ℕ) → AreSame a b
      → is_among m (selections p a class by found) ≡ is_among m (selections p b class by found)
  selections-same a b class by found m same = made-same (λ receiver. method_coded p (selected_by p by found receiver)) (λ lower. is_subtype p lower class) a b m same

  invoked-same : (a b : List ℕ) (class : ℕ) (by : Selecting) (found : MemberPlace) (m : ℕ) → AreSame a b
      → is_among m (invoked_by p a class by found) ≡ is_among m (invoked_by p b class by found)
  invoked-same a b class (Special caller interface) found m same = refl
  invoked-same a b class Virtual found m same = selections-same a b class Virtual found m same
  invoked-same a b class OfInterface found m same = selections-same a b class OfInterface found m same

  -- ---- by instruction

  found-same : (f g : MemberPlace → List ℕ) (o : Option MemberPlace) (m : ℕ) → ((x : MemberPlace) → is_among m (f x) ≡ is_among m (g x))
      → is_among m (option_map_or f o []) ≡ is_among m (option_map_or g o [])
  found-same f g None m same = refl
  found-same f g (Some x) m same = same x

  class-same : (f g : ℕ → List ℕ) (o : Option ℕ) (m : ℕ) → ((x : ℕ) → is_among m (f x) ≡ is_among m (g x))
      → is_among m (option_map_or f o []) ≡ is_among m (option_map_or g o [])
  class-same f g None m same = refl
  class-same f g (Some x) m same = same x

  on-same : (a b : List ℕ) (class : ℕ) (by : Selecting) (r : Reference) (m : ℕ) → AreSame a b
      → is_among m (begun_on p a class by r) ≡ is_among m (begun_on p b class by r)
  on-same a b class by r m same =
      found-same (invoked_by p a class by) (invoked_by p b class by)
      (found_where (is_static p) false (resolved_method p class (names_interface by) r.member)) m (λ x. invoked-same a b class by x m same)

  static-same : (a b : List ℕ) (class : ℕ) (r : Reference) (m : ℕ) → AreSame a b → is_among m (begun_static p a class r) ≡ is_among m (begun_static p b class r)
  static-same a b class r m same =
      found-same (λ x. coded_at p x ++ initializers p a class) (λ x. coded_at p x ++ initializers p b class)
      (found_where (is_static p) true (resolved_method p class false r.member)) m
      (λ x. among-append m (coded_at p x) (initializers p a class)
      ∙ (ap (λ t. is_among m (coded_at p x) || t) (initializers-same a b class m same) ∙ sym (among-append m (coded_at p x) (initializers p b class))))

  field-same : (a b : List ℕ) (class : ℕ) (r : Reference) (m : ℕ) → AreSame a b → is_among m (begun_field p a class r) ≡ is_among m (begun_field p b class r)
  field-same a b class r m same =
      found-same (λ x. initializers p a class) (λ x. initializers p b class)
      (found_where (is_static_field p) true (resolved_field p class r.member)) m (λ x. initializers-same a b class m same)

  where-same : (a b name : List ℕ) (f g : ℕ → List ℕ) (m : ℕ) → AreSame a b → ((x : ℕ) → is_among m (f x) ≡ is_among m (g x))
      → is_among m (where_loaded p a name f) ≡ is_among m (where_loaded p b name g)
  where-same a b name f g m same each =
      ap (λ o. is_among m (option_map_or f o [])) (named-same a b name same) ∙ class-same f g (loaded_class_named p b name) m each

  methods-same : (a b name : List ℕ) → AreSame a b → class_with_methods p a name ≡ class_with_methods p b name
  methods-same a b name same = ap (λ o. if is_array_type name then Some (user_count p) else o) (named-same a b name same)

  pub begun-same : (a b : List ℕ) (n : SymbolicReference) (m : ℕ) → AreSame a b → is_among m (begun_by p a n) ≡ is_among m (begun_by p b n)
  begun-same a b (New name) m same = where-same a b name (initializers p a) (initializers p b) m same (λ x. initializers-same a b x m same)
  begun-same a b (Getstatic r) m same =
      where-same a b r.class (λ class. begun_field p a class r) (λ class. begun_field p b class r) m same (λ x. field-same a b x r m same)
  begun-same a b (Putstatic r) m same =
      where-same a b r.class (λ class. begun_field p a class r) (λ class. begun_field p b class r) m same (λ x. field-same a b x r m same)
  begun-same a b (Invokestatic r) m same =
      where-same a b r.class (λ class. begun_static p a class r) (λ class. begun_static p b class r) m same (λ x. static-same a b x r m same)
  begun-same a b (Invokespecial caller r interface) m same =
      ap (λ o. is_among m (option_map_or (λ class. begun_on p a class (Special caller interface) r) o [])) (methods-same a b r.class same)
      ∙ class-same (λ class. begun_on p a class (Special caller interface) r) (λ class. begun_on p b class (Special caller interface) r)
      (class_with_methods p b r.class) m (λ x. on-same a b x (Special caller interface) r m same)
  begun-same a b (Invokevirtual r) m same =
      where-same a b r.class (λ class. begun_on p a class Virtual r) (λ class. begun_on p b class Virtual r) m same (λ x. on-same a b x Virtual r m same)
  begun-same a b (Invokeinterface r) m same =
      where-same a b r.class (λ class. begun_on p a class OfInterface r) (λ class. begun_on p b class OfInterface r) m same (λ x. on-same a b x OfInterface r m same)
  begun-same a b (Getfield r) m same = refl
  begun-same a b (Putfield r) m same = refl
  begun-same a b (Checkcast name) m same = refl
  begun-same a b (Instanceof name) m same = refl
  begun-same a b (Anewarray name) m same = refl
  begun-same a b (Multianewarray name dimensions) m same = refl
  begun-same a b (LdcClass name) m same = refl

  operation-same : (a b : List ℕ) (op : Operation Local) (m : ℕ) → AreSame a b → is_among m (begun_by_operation p a op) ≡ is_among m (begun_by_operation p b op)
  operation-same a b (Named n) m same = begun-same a b n m same
  operation-same a b (Within i) m same = refl
  operation-same a b Athrow m same = refl
  operation-same a b Monitor m same = refl
  operation-same a b (Newarray kind) m same = refl
  operation-same a b Arraylength m same = refl
  operation-same a b (LoadElement k) m same = refl
  operation-same a b (StoreElement k) m same = refl
  operation-same a b (LdcString units) m same = refl

  pub targets-same : (a b : List ℕ) (ops : List (Operation Local)) (m : ℕ) → AreSame a b → is_among m (targets_in p a ops) ≡ is_among m (targets_in p b ops)
  targets-same a b [] m same = refl
  targets-same a b (op ∷ rest) m same =
      among-append m (begun_by_operation p a op) (targets_in p a rest)
      ∙ (ap₂ (λ x y. x || y) (operation-same a b op m same) (targets-same a b rest m same)
      ∙ sym (among-append m (begun_by_operation p b op) (targets_in p b rest)))
