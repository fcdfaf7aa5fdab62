-- The targets of a method when one class more is loaded are those before and what that class adds.
use Rattle.std.proofs.Common.{◌≡◌, ℕ, Bool, true, false, List, [], ◌∷◌, ◌++◌, ap, sym, subst, refl, ◌∙◌, inl, inr}
use Rattle.std.proofs.lemmas.List.{append-nil}
use Rattle.std.specs.Prelude.{filter, filter_map, flat_map, Option, Some, None, ◌==◌, ◌||◌, ◌⊎◌, if◌then◌else◌}
use Rattle.std.specs.Option.{option_and_then, option_map_or}
use Rattle.std.proofs.lemmas.Bool.{false≢true}
use Rattle.const_pool.specs.References.{Reference}
use Rattle.jvm_model.specs.Basis.Data.{Program, Local, Operation, Within, Named, Athrow, Monitor, Newarray, Arraylength, LoadElement, StoreElement, LdcString}
use Rattle.jvm_model.specs.Instructions.SymbolicReference.{SymbolicReference, New, Getfield, Putfield, Getstatic, Putstatic, Invokevirtual, Invokespecial, Invokestatic, Invokeinterface, Checkcast, Instanceof, Anewarray, Multianewarray, LdcClass}
use Rattle.jvm_model.specs.Instructions.FieldRules.{is_static_field}
use Rattle.jvm_model.specs.Instructions.InvocationRules.{Selecting, Virtual, OfInterface, Special, names_interface, selected_by}
use Rattle.jvm_model.specs.Basis.KindNumbers.{user_count}
use Rattle.jvm_model.specs.Classes.Load.{is_among}
use Rattle.jvm_model.specs.Classes.Lookup.{MemberPlace, is_subtype, resolved_field, resolved_method, supertypes}
use Rattle.jvm_model.specs.Basis.Programs.{class_named, initializer_of}
use Rattle.jvm_model.specs.Classes.Selection.{is_static}
use Rattle.jvm_model.specs.Soundness.Sound.{HasSupertypes, IsLoaded}
use Rattle.jvm_model.proofs.Soundness.SoundClasses.{supertypes-loaded}
use Rattle.jvm_model.proofs.Revealing.CalledSteps.{all-at}
use Rattle.jvm_model.proofs.Revealing.Growing.{filter-front, made-front}
use Rattle.jvm_model.specs.Profiling.Revelation.{gained_by, gained_by_operation, gained_call, gained_in, gained_named, gained_on, is_named}
use Rattle.jvm_model.specs.Profiling.Targets.{loaded_class_named, is_array_type, found_where, coded_at, method_coded, initializers, selections, invoked_by, begun_on, begun_static, begun_field, where_loaded, begun_by, begun_by_operation, targets_in}
use Rattle.jvm_model.proofs.Loading.Among.{among-front, among-behind}

-- ---- what is among lists

-- among one of the two
abbrev Or : (m : ℕ) → List ℕ → List ℕ → Type 0
Or m xs ys = (is_among m xs ≡ true) ⊎ (is_among m ys ≡ true)

among-either : (m : ℕ) (xs ys : List ℕ) → is_among m (xs ++ ys) ≡ true → Or m xs ys
among-either m [] ys h = inr h
among-either m (x ∷ xs) ys h = by (m == x) h (among-either m xs ys)
  where
    by : (b : Bool) → (b || is_among m (xs ++ ys)) ≡ true → (is_among m (xs ++ ys) ≡ true → Or m xs ys) → ((b || is_among m xs) ≡ true) ⊎ (is_among m ys ≡ true)
    by true h rest = inl refl
    by false h rest = rest h

or-left : (m : ℕ) (xs ys zs : List ℕ) → is_among m (xs ++ ys) ≡ true → ((is_among m xs ≡ true) → is_among m zs ≡ true) → ((is_among m ys ≡ true) → is_among m zs ≡ true) → is_among m zs ≡ true
or-left m xs ys zs h first second = elim (among-either m xs ys h) [ inl a ↦ first a | inr b ↦ second b ]

flat-either : (f : ℕ → List ℕ) (xs ys : List ℕ) (m : ℕ) → is_among m (flat_map f (xs ++ ys)) ≡ true → Or m (flat_map f xs) (flat_map f ys)
flat-either f [] ys m h = inr h
flat-either f (x ∷ xs) ys m h = by (among-either m (f x) (flat_map f (xs ++ ys)) h) (flat-either f xs ys m)
  where
    by : Or m (f x) (flat_map f (xs ++ ys)) → (is_among m (flat_map f (xs ++ ys)) ≡ true → Or m (flat_map f xs) (flat_map f ys)) → Or m (f x ++ flat_map f xs) (flat_map f ys)
    by (inl a) rest = inl (among-front m (f x) (flat_map f xs) a)
    by (inr b) rest = later (rest b)
      where
        later : Or m (flat_map f xs) (flat_map f ys) → Or m (f x ++ flat_map f xs) (flat_map f ys)
        later (inl a) = inl (among-behind m (f x) (flat_map f xs) a)
        later (inr b) = inr b

module _ (p : Program) (loaded : List ℕ) (new : ℕ) (above : HasSupertypes p loaded) (fresh : is_among new loaded ≡ false) where
  abbrev all : List ℕ
  all = loaded ++ new ∷ []

  -- a class that is loaded is another one, and not below the new one
  not-below : (class : ℕ) → IsLoaded loaded class → is_subtype p class new ≡ false
  not-below class there = by (is_subtype p class new) refl
    where
      by : (b : Bool) → is_subtype p class new ≡ b → is_subtype p class new ≡ false
      by false e = e
      by true e = absurd (false≢true (sym fresh ∙ all-at (IsLoaded loaded) (supertypes p class) new (supertypes-loaded p loaded above class there) e))

  -- ---- parts

  same-initializers : (class : ℕ) → IsLoaded loaded class → initializers p all class ≡ initializers p loaded class
  same-initializers class there =
      ap (filter_map (initializer_of p)) (filter-front (is_subtype p class) loaded (new ∷ []))
      ∙ (made-front (initializer_of p) (filter (is_subtype p class) loaded) (filter (is_subtype p class) (new ∷ []))
      ∙ ap (λ b. filter_map (initializer_of p) (filter (is_subtype p class) loaded) ++ filter_map (initializer_of p) (if b then new ∷ [] else [])) (not-below class there)
      ∙ append-nil (initializers p loaded class))

  more-selections : (class : ℕ) (by : Selecting) (k : MemberPlace) (m : ℕ) → is_among m (selections p all class by k) ≡ true
      → Or m (selections p loaded class by k) (if is_subtype p new class then method_coded p (selected_by p by k new) else [])
  more-selections class by k m h =
      choose (flat-either (λ receiver. method_coded p (selected_by p by k receiver)) (filter (λ lower. is_subtype p lower class) loaded) (filter (λ lower. is_subtype p lower class) (new ∷ [])) m
      (ap (λ l. is_among m (flat_map (λ receiver. method_coded p (selected_by p by k receiver)) l)) (sym (filter-front (λ lower. is_subtype p lower class) loaded (new ∷ []))) ∙ h))
    where
      last : (b : Bool) → is_among m (flat_map (λ receiver. method_coded p (selected_by p by k receiver)) (if b then new ∷ [] else [])) ≡ true
          → is_among m (if b then method_coded p (selected_by p by k new) else []) ≡ true
      last true h = ap (is_among m) (sym (append-nil (method_coded p (selected_by p by k new)))) ∙ h
      last false h = h

      choose : Or m (selections p loaded class by k) (flat_map (λ receiver. method_coded p (selected_by p by k receiver)) (filter (λ lower. is_subtype p lower class) (new ∷ [])))
          → Or m (selections p loaded class by k) (if is_subtype p new class then method_coded p (selected_by p by k new) else [])
      choose (inl a) = inl a
      choose (inr b) = inr (last (is_subtype p new class) b)

  -- ---- names

  -- of a name: what the instruction begins over all classes, where the class is loaded before, is new, or is neither
  named-more : (name : List ℕ) (f g extra : ℕ → List ℕ) (n : SymbolicReference) (m : ℕ) → begun_by p all n ≡ where_loaded p all name g
      → ((class : ℕ) → IsLoaded loaded class → is_among m (g class) ≡ true → Or m (f class) (extra class))
      → is_among m (begun_by p all n) ≡ true
      → Or m (where_loaded p loaded name f) (gained_named p loaded new n name ++ option_map_or extra (loaded_class_named p loaded name) [])
  named-more name f g extra n m is each h = by (class_named p name) refl (ap (is_among m) (sym is) ∙ h)
    where
      found_in : List ℕ → Option ℕ → Option ℕ
      found_in classes o = option_and_then (λ class. if is_among class classes then Some class else None) o

      of : (class : ℕ) → class_named p name ≡ Some class → (b : Bool) → is_among class loaded ≡ b → (c : Bool) → is_among class all ≡ c
          → is_among m (option_map_or g (let o : Option ℕ = if c then Some class else None in o) []) ≡ true
          → Or m (option_map_or f (let o : Option ℕ = if b then Some class else None in o) [])
          ((if (class == new) then begun_by p all n else []) ++ option_map_or extra (let o : Option ℕ = if b then Some class else None in o) [])
      of class named b there false none h = absurd (false≢true h)
      of class named true there true among h = choose (each class there h)
        where
          choose : Or m (f class) (extra class) → Or m (f class) ((if (class == new) then begun_by p all n else []) ++ extra class)
          choose (inl a) = inl a
          choose (inr b) = inr (among-behind m (if (class == new) then begun_by p all n else []) (extra class) b)
      of class named false there true among h =
          let same : (class == new) ≡ true = last loaded among there in
          inr (ap (λ b. is_among m ((if b then begun_by p all n else []) ++ [])) same
          ∙ (ap (is_among m) (append-nil (begun_by p all n)) ∙ whole))
        where
          whole : is_among m (begun_by p all n) ≡ true
          whole =
              ap (is_among m) is
              ∙ (ap (λ o. is_among m (option_map_or g (found_in all o) [])) named
              ∙ (ap (λ b. is_among m (option_map_or g (let o : Option ℕ = if b then Some class else None in o) [])) among ∙ h))

          last : (xs : List ℕ) → is_among class (xs ++ new ∷ []) ≡ true → is_among class xs ≡ false → (class == new) ≡ true
          last [] h none = ends (class == new) h
            where
              ends : (b : Bool) → (b || false) ≡ true → b ≡ true
              ends true h = refl
              ends false h = absurd (false≢true h)
          last (x ∷ xs) h none = ends (class == x) h none (last xs)
            where
              ends : (b : Bool) → (b || is_among class (xs ++ new ∷ [])) ≡ true → (b || is_among class xs) ≡ false
                  → (is_among class (xs ++ new ∷ []) ≡ true → is_among class xs ≡ false → (class == new) ≡ true) → (class == new) ≡ true
              ends true h none rest = absurd (false≢true (sym none))
              ends false h none rest = rest h none

      by : (o : Option ℕ) → class_named p name ≡ o → is_among m (option_map_or g (found_in all o) []) ≡ true
          → Or m (option_map_or f (found_in loaded o) [])
          ((if option_map_or (λ found. found == new) o false then begun_by p all n else []) ++ option_map_or extra (found_in loaded o) [])
      by None named h = absurd (false≢true h)
      by (Some class) named h = of class named (is_among class loaded) refl (is_among class all) refl h

  -- without an extra part
  without-extra : (m : ℕ) (xs gs : List ℕ) (o : Option ℕ) → Or m xs (gs ++ option_map_or (λ class. []) o []) → Or m xs gs
  without-extra m xs gs o (inl a) = inl a
  without-extra m xs gs o (inr b) = inr (by o b)
    where
      by : (o : Option ℕ) → is_among m (gs ++ option_map_or (λ class. []) o []) ≡ true → is_among m gs ≡ true
      by None h = ap (is_among m) (sym (append-nil gs)) ∙ h
      by (Some class) h = ap (is_among m) (sym (append-nil gs)) ∙ h

  field-same : (class : ℕ) (r : Reference) → IsLoaded loaded class → begun_field p all class r ≡ begun_field p loaded class r
  field-same class r there = ap (λ l. option_map_or (λ (m : MemberPlace). l) (found_where (is_static_field p) true (resolved_field p class r.member)) []) (same-initializers class there)

  static-same : (class : ℕ) (r : Reference) → IsLoaded loaded class → begun_static p all class r ≡ begun_static p loaded class r
  static-same class r there =
      ap (λ l. option_map_or (λ (m : MemberPlace). coded_at p m ++ l) (found_where (is_static p) true (resolved_method p class false r.member)) []) (same-initializers class there)

  -- a name's class, whose part does not change
  name-more : (name : List ℕ) (f g : ℕ → List ℕ) (n : SymbolicReference) (m : ℕ) → begun_by p all n ≡ where_loaded p all name g → ((class : ℕ) → IsLoaded loaded class → g class ≡ f class)
      → is_among m (begun_by p all n) ≡ true → Or m (where_loaded p loaded name f) (gained_named p loaded new n name)
  name-more name f g n m is same h =
      without-extra m (where_loaded p loaded name f) (gained_named p loaded new n name) (loaded_class_named p loaded name)
      (named-more name f g (λ class. []) n m is (λ class there k. inl (ap (is_among m) (sym (same class there)) ∙ k)) h)

  -- a call, which gains what is selected from the new class
  call-more : (by : Selecting) (r : Reference) (n : SymbolicReference) (m : ℕ) → begun_by p all n ≡ where_loaded p all r.class (λ class. begun_on p all class by r)
      → ((loaded : List ℕ) (class : ℕ) (k : MemberPlace) → invoked_by p loaded class by k ≡ selections p loaded class by k)
      → is_among m (begun_by p all n) ≡ true
      → Or m (where_loaded p loaded r.class (λ class. begun_on p loaded class by r)) (gained_named p loaded new n r.class ++ gained_call p loaded new by r)
  call-more by r n m is selects h =
      named-more r.class (λ class. begun_on p loaded class by r) (λ class. begun_on p all class by r) (λ class. gained_on p new class by r) n m is each h
    where
      each : (class : ℕ) → IsLoaded loaded class → is_among m (begun_on p all class by r) ≡ true → Or m (begun_on p loaded class by r) (gained_on p new class by r)
      each class there k = found (found_where (is_static p) false (resolved_method p class (names_interface by) r.member)) k
        where
          turn : (k : MemberPlace) (b : Bool) → Or m (selections p loaded class by k) (if b then method_coded p (selected_by p by k new) else [])
              → Or m (invoked_by p loaded class by k) (if b then method_coded p (selected_by p by k new) else [])
          turn k b (inl a) = inl (ap (is_among m) (selects loaded class k) ∙ a)
          turn k b (inr c) = inr c

          found : (o : Option MemberPlace) → is_among m (option_map_or (invoked_by p all class by) o []) ≡ true
              → Or m (option_map_or (invoked_by p loaded class by) o []) (if is_subtype p new class then option_map_or (λ m. method_coded p (selected_by p by m new)) o [] else [])
          found None k = absurd (false≢true k)
          found (Some q) k = turn q (is_subtype p new class) (more-selections class by q m (ap (is_among m) (sym (selects all class q)) ∙ k))

  begun-more : (n : SymbolicReference) (m : ℕ) → is_among m (begun_by p all n) ≡ true → Or m (begun_by p loaded n) (gained_by p loaded new n)
  begun-more (New name) m h = name-more name (initializers p loaded) (initializers p all) (New name) m refl same-initializers h
  begun-more (Getstatic r) m h = name-more r.class (λ class. begun_field p loaded class r) (λ class. begun_field p all class r) (Getstatic r) m refl (λ class there. field-same class r there) h
  begun-more (Putstatic r) m h = name-more r.class (λ class. begun_field p loaded class r) (λ class. begun_field p all class r) (Putstatic r) m refl (λ class there. field-same class r there) h
  begun-more (Invokestatic r) m h = name-more r.class (λ class. begun_static p loaded class r) (λ class. begun_static p all class r) (Invokestatic r) m refl (λ class there. static-same class r there) h
  begun-more (Invokevirtual r) m h = call-more Virtual r (Invokevirtual r) m refl (λ l class k. refl) h
  begun-more (Invokeinterface r) m h = call-more OfInterface r (Invokeinterface r) m refl (λ l class k. refl) h
  begun-more (Invokespecial caller r interface) m h = by (is_array_type r.class) refl
    where
      n : SymbolicReference
      n = Invokespecial caller r interface

      on : List ℕ → ℕ → List ℕ
      on l class = begun_on p l class (Special caller interface) r

      by : (b : Bool) → is_array_type r.class ≡ b → Or m (begun_by p loaded (Invokespecial caller r interface)) (gained_by p loaded new (Invokespecial caller r interface))
      by true e = inl
          (ap (λ b. is_among m (option_map_or (on loaded) (let o : Option ℕ = if b then Some (user_count p) else loaded_class_named p loaded r.class in o) [])) e
          ∙ (sym (ap (λ b. is_among m (option_map_or (on all) (let o : Option ℕ = if b then Some (user_count p) else loaded_class_named p all r.class in o) [])) e) ∙ h))
      by false e =
          let is : begun_by p all (Invokespecial caller r interface) ≡ where_loaded p all r.class (on all) =
          ap (λ b. option_map_or (on all) (let o : Option ℕ = if b then Some (user_count p) else loaded_class_named p all r.class in o) []) e in
          let was : begun_by p loaded (Invokespecial caller r interface) ≡ where_loaded p loaded r.class (on loaded) =
          ap (λ b. option_map_or (on loaded) (let o : Option ℕ = if b then Some (user_count p) else loaded_class_named p loaded r.class in o) []) e in
          subst (λ l. Or m l (gained_named p loaded new (Invokespecial caller r interface) r.class)) (sym was)
          (name-more r.class (on loaded) (on all) (Invokespecial caller r interface) m is (λ class there. refl) h)
  begun-more (Getfield r) m h = absurd (false≢true h)
  begun-more (Putfield r) m h = absurd (false≢true h)
  begun-more (Checkcast name) m h = absurd (false≢true h)
  begun-more (Instanceof name) m h = absurd (false≢true h)
  begun-more (Anewarray name) m h = absurd (false≢true h)
  begun-more (Multianewarray name dimensions) m h = absurd (false≢true h)
  begun-more (LdcClass name) m h = absurd (false≢true h)

  operation-more : (op : Operation Local) (m : ℕ) → is_among m (begun_by_operation p all op) ≡ true → Or m (begun_by_operation p loaded op) (gained_by_operation p loaded new op)
  operation-more (Named n) m h = begun-more n m h
  operation-more (Within i) m h = absurd (false≢true h)
  operation-more Athrow m h = absurd (false≢true h)
  operation-more Monitor m h = absurd (false≢true h)
  operation-more (Newarray kind) m h = absurd (false≢true h)
  operation-more Arraylength m h = absurd (false≢true h)
  operation-more (LoadElement k) m h = absurd (false≢true h)
  operation-more (StoreElement k) m h = absurd (false≢true h)
  operation-more (LdcString units) m h = absurd (false≢true h)

  -- Whatever is a target then was one before, or is gained.
  pub targets-gain : (operations : List (Operation Local)) (m : ℕ) → is_among m (targets_in p all operations) ≡ true
      → Or m (targets_in p loaded operations) (gained_in p loaded new operations)
  targets-gain [] m h = absurd (false≢true h)
  targets-gain (op ∷ rest) m h = by (among-either m (begun_by_operation p all op) (targets_in p all rest) h) (targets-gain rest m)
    where
      first : Or m (begun_by_operation p loaded op) (gained_by_operation p loaded new op)
          → Or m (begun_by_operation p loaded op ++ targets_in p loaded rest) (gained_by_operation p loaded new op ++ gained_in p loaded new rest)
      first (inl a) = inl (among-front m (begun_by_operation p loaded op) (targets_in p loaded rest) a)
      first (inr b) = inr (among-front m (gained_by_operation p loaded new op) (gained_in p loaded new rest) b)

      second : Or m (targets_in p loaded rest) (gained_in p loaded new rest)
          → Or m (begun_by_operation p loaded op ++ targets_in p loaded rest) (gained_by_operation p loaded new op ++ gained_in p loaded new rest)
      second (inl a) = inl (among-behind m (begun_by_operation p loaded op) (targets_in p loaded rest) a)
      second (inr b) = inr (among-behind m (gained_by_operation p loaded new op) (gained_in p loaded new rest) b)

      by : Or m (begun_by_operation p all op) (targets_in p all rest)
          → (is_among m (targets_in p all rest) ≡ true → Or m (targets_in p loaded rest) (gained_in p loaded new rest))
          → Or m (begun_by_operation p loaded op ++ targets_in p loaded rest) (gained_by_operation p loaded new op ++ gained_in p loaded new rest)
      by (inl a) behind = first (operation-more op m a)
      by (inr b) behind = second (behind b)

  -- ---- and whatever is gained is a target then

  named-gains : (n : SymbolicReference) (name : List ℕ) (m : ℕ) → is_among m (gained_named p loaded new n name) ≡ true → is_among m (begun_by p all n) ≡ true
  named-gains n name m h = by (is_named p new name) h
    where
      by : (b : Bool) → is_among m (if b then begun_by p all n else []) ≡ true → is_among m (begun_by p all n) ≡ true
      by true h = h
      by false h = absurd (false≢true h)

  call-gains : (by : Selecting) (r : Reference) (m : ℕ) → ((l : List ℕ) (class : ℕ) (k : MemberPlace) → invoked_by p l class by k ≡ selections p l class by k)
      → is_among m (gained_call p loaded new by r) ≡ true → is_among m (where_loaded p all r.class (λ class. begun_on p all class by r)) ≡ true
  call-gains by r m selects h = of (class_named p r.class) h
    where
      picked : (class : ℕ) (k : MemberPlace) → is_subtype p new class ≡ true → is_among m (method_coded p (selected_by p by k new)) ≡ true → is_among m (invoked_by p all class by k) ≡ true
      picked class k sub h =
          ap (is_among m) (selects all class k)
          ∙ (ap (λ l. is_among m (flat_map (λ receiver. method_coded p (selected_by p by k receiver)) l)) (filter-front (λ lower. is_subtype p lower class) loaded (new ∷ []))
          ∙ (ap (λ b. is_among m (flat_map (λ receiver. method_coded p (selected_by p by k receiver)) (filter (λ lower. is_subtype p lower class) loaded ++ (if b then new ∷ [] else [])))) sub
          ∙ flat-last (filter (λ lower. is_subtype p lower class) loaded)))
        where
          flat-last : (xs : List ℕ) → is_among m (flat_map (λ receiver. method_coded p (selected_by p by k receiver)) (xs ++ new ∷ [])) ≡ true
          flat-last [] = among-front m (method_coded p (selected_by p by k new)) [] h
          flat-last (x ∷ xs) = among-behind m (method_coded p (selected_by p by k x)) (flat_map (λ receiver. method_coded p (selected_by p by k receiver)) (xs ++ new ∷ [])) (flat-last xs)

      mapped : (class : ℕ) (o : Option MemberPlace) (b : Bool) → is_subtype p new class ≡ b
          → is_among m (if b then option_map_or (λ k. method_coded p (selected_by p by k new)) o [] else []) ≡ true → is_among m (option_map_or (invoked_by p all class by) o []) ≡ true
      mapped class o false sub h = absurd (false≢true h)
      mapped class None true sub h = absurd (false≢true h)
      mapped class (Some k) true sub h = picked class k sub h

      at : (class : ℕ) (b : Bool) → is_among class loaded ≡ b
          → is_among m (option_map_or (λ c. gained_on p new c by r) (let o : Option ℕ = if b then Some class else None in o) []) ≡ true
          → is_among m (option_map_or (λ c. begun_on p all c by r) (let o : Option ℕ = if is_among class all then Some class else None in o) []) ≡ true
      at class false there h = absurd (false≢true h)
      at class true there h =
          ap (λ b. is_among m (option_map_or (λ c. begun_on p all c by r) (let o : Option ℕ = if b then Some class else None in o) [])) (among-front class loaded (new ∷ []) there)
          ∙ mapped class (found_where (is_static p) false (resolved_method p class (names_interface by) r.member)) (is_subtype p new class) refl h

      of : (o : Option ℕ) → is_among m (option_map_or (λ c. gained_on p new c by r) (option_and_then (λ class. if is_among class loaded then Some class else None) o) []) ≡ true
          → is_among m (option_map_or (λ c. begun_on p all c by r) (option_and_then (λ class. if is_among class all then Some class else None) o) []) ≡ true
      of None h = absurd (false≢true h)
      of (Some class) h = at class (is_among class loaded) refl h

  begun-gains : (n : SymbolicReference) (m : ℕ) → is_among m (gained_by p loaded new n) ≡ true → is_among m (begun_by p all n) ≡ true
  begun-gains (New name) m h = named-gains (New name) name m h
  begun-gains (Getstatic r) m h = named-gains (Getstatic r) r.class m h
  begun-gains (Putstatic r) m h = named-gains (Putstatic r) r.class m h
  begun-gains (Invokestatic r) m h = named-gains (Invokestatic r) r.class m h
  begun-gains (Invokespecial caller r interface) m h = named-gains (Invokespecial caller r interface) r.class m h
  begun-gains (Invokevirtual r) m h =
      or-left m (gained_named p loaded new (Invokevirtual r) r.class) (gained_call p loaded new Virtual r) (begun_by p all (Invokevirtual r)) h
      (named-gains (Invokevirtual r) r.class m) (call-gains Virtual r m (λ l class k. refl))
  begun-gains (Invokeinterface r) m h =
      or-left m (gained_named p loaded new (Invokeinterface r) r.class) (gained_call p loaded new OfInterface r) (begun_by p all (Invokeinterface r)) h
      (named-gains (Invokeinterface r) r.class m) (call-gains OfInterface r m (λ l class k. refl))
  begun-gains (Getfield r) m h = absurd (false≢true h)
  begun-gains (Putfield r) m h = absurd (false≢true h)
  begun-gains (Checkcast name) m h = absurd (false≢true h)
  begun-gains (Instanceof name) m h = absurd (false≢true h)
  begun-gains (Anewarray name) m h = absurd (false≢true h)
  begun-gains (Multianewarray name dimensions) m h = absurd (false≢true h)
  begun-gains (LdcClass name) m h = absurd (false≢true h)

  operation-gains : (op : Operation Local) (m : ℕ) → is_among m (gained_by_operation p loaded new op) ≡ true → is_among m (begun_by_operation p all op) ≡ true
  operation-gains (Named n) m h = begun-gains n m h
  operation-gains (Within i) m h = absurd (false≢true h)
  operation-gains Athrow m h = absurd (false≢true h)
  operation-gains Monitor m h = absurd (false≢true h)
  operation-gains (Newarray kind) m h = absurd (false≢true h)
  operation-gains Arraylength m h = absurd (false≢true h)
  operation-gains (LoadElement k) m h = absurd (false≢true h)
  operation-gains (StoreElement k) m h = absurd (false≢true h)
  operation-gains (LdcString units) m h = absurd (false≢true h)

  pub gained-targets : (operations : List (Operation Local)) (m : ℕ) → is_among m (gained_in p loaded new operations) ≡ true → is_among m (targets_in p all operations) ≡ true
  gained-targets [] m h = absurd (false≢true h)
  gained-targets (op ∷ rest) m h = by (among-either m (gained_by_operation p loaded new op) (gained_in p loaded new rest) h) (gained-targets rest m)
    where
      by : Or m (gained_by_operation p loaded new op) (gained_in p loaded new rest) → (is_among m (gained_in p loaded new rest) ≡ true → is_among m (targets_in p all rest) ≡ true)
          → is_among m (begun_by_operation p all op ++ targets_in p all rest) ≡ true
      by (inl a) behind = among-front m (begun_by_operation p all op) (targets_in p all rest) (operation-gains op m a)
      by (inr b) behind = among-behind m (begun_by_operation p all op) (targets_in p all rest) (behind b)
