-- What an instruction that names something gives (JVM Specification 5.4.3, 6.5): what is shared stays sound, and what
-- is invoked or initialized is of a class that is loaded.
use Rattle.std.proofs.Common.{◌≡◌, ℕ, zero, suc, ◌+◌, ◌*◌, ◌≤◌, ◌<◌, Bool, true, false, List, [], ◌∷◌, ◌++◌, length, ap, sym, subst, refl, ◌∙◌, arith}
use Rattle.std.proofs.Math.Nat.{mod-add-div'}
use Rattle.std.proofs.lemmas.List.{append-nil}
use Rattle.std.proofs.lemmas.Slice.Eq.{bytes_eq-Decides}
use Rattle.std.specs.Prelude.{◌/◌, ◌%◌, not, codes, drop, map, Option, Some, None, Result, Ok, Err, slice_get, nat_le, nat_lt, ℤ, pos, negsuc, ◌==◌, ◌&&◌, ◌||◌, if◌then◌else◌}
use Rattle.std.specs.Bool.{beq}
use Rattle.std.specs.List.{AllByRecursion, list_any}
use Rattle.std.specs.Option.{option_and_then, option_map, option_map_or, option_to_list}
use Rattle.std.proofs.lemmas.Bool.{false≢true, eqb-true, leb-true, and_parts}
use Rattle.std.proofs.lemmas.Option.{none-some, same_Some}
use Rattle.heap_objects.specs.declared.datum.Datum.{Datum}
use Rattle.heap_objects.specs.declared.datum.Datum.TheVariants as datum
use Rattle.heap_objects.specs.declared.Value.{Value}
use Rattle.heap_objects.specs.declared.Value.TheVariants.{Int, Long, Ref, Addr}
use Rattle.heap_objects.specs.Heaps.{HeapView, kind_at, next_number, slot_at, with_array, with_instance, with_slot_at, with_text}
use Rattle.const_pool.specs.BuiltIn.{built_in_names}
use Rattle.const_pool.specs.References.{NameAndType, Reference}
use Rattle.base_classes.specs.Natives.{native_number}
use Rattle.native_effects.specs.declared.effects.answer.Answer.{Answer}
use Rattle.native_effects.specs.declared.effects.answer.Answer.TheVariants as answer
use Rattle.native_ops.specs.Methods.Calls.{answer_by, world_by}
use Rattle.native_effects.specs.Effects.Making.{answer_of_class}
use Rattle.native_effects.specs.Inputs.Numbers.{out_of_memory_error}
use Rattle.native_effects.specs.Effects.Worlds as natives
use Rattle.native_ops.proofs.KindsKept.{class-kept, kinds-kept}
use Rattle.native_ops.proofs.KindsMade.{AreMade}
use Rattle.jvm_model.specs.declared.program.Program.{Program}
use Rattle.jvm_model.specs.Instructions.ConstantRules.{pushes_class, pushes_object_of}
use Rattle.jvm_model.specs.Instructions.CreationRules.{allocates, answers, array_over, casts, casts_to, class_cast, counts_from, counts_of, has_no_instances, instantiation_error, is_text_class, lengths_of, makes_array_of, makes_arrays, makes_by_counts, makes_instance, makes_multi, makes_new, makes_object, slots_of_arrays, tells_instance, with_arrays, zero_of}
use Rattle.jvm_model.specs.Basis.Data.{Locals, Operands, MethodPlace, Phase, Fresh, Running, Ready, Erroneous, Shared, World, Outcome, GoesOn, Next, Invokes, Initializes, Throws, Raises, Breaks, Done}
use Rattle.jvm_model.specs.Instructions.FieldRules.{Putting, field_owner, gets_instance, gets_of, gets_static, has_field, field_held, is_static_field, kind_by, named_field, pushes_static, puts_instance, puts_into, puts_static, putting_of, sets_static, slot_of, static_field}
use Rattle.jvm_model.specs.Instructions.InvocationRules.{Selecting, Virtual, OfInterface, Special, abstract_method, arguments_by, invokes_instance, invokes_number, invokes_on, invokes_selected, invokes_static_method, invokes_with_static, named_method, names_interface, not_of_class, receiver_in, method_reference, selected_by, unsatisfied_link}
use Rattle.jvm_model.specs.Basis.KindNumbers.{user_count}
use Rattle.jvm_model.specs.Classes.Kinds.{kind_named, meaning_of}
use Rattle.jvm_model.specs.Classes.Layouts.{layout}
use Rattle.jvm_model.specs.Classes.Load.{Fault, NoClass, Circular, Incompatible, error_of, load_of}
use Rattle.jvm_model.specs.Instructions.LocalRules.{pushes, replaces}
use Rattle.jvm_model.specs.Classes.Lookup.{MemberPlace, Fails, first_in, field_at, found_or, incompatible_change, is_interface, method_at, method_order, resolved_field, resolved_method, superclasses, superinterfaces, supertypes}
use Rattle.jvm_model.specs.Instructions.SymbolicReference.{◌>>=◌, SymbolicReference, New, Getfield, Putfield, Getstatic, Putstatic, Invokevirtual, Invokespecial, Invokestatic, Invokeinterface, Checkcast, Instanceof, Anewarray, Multianewarray, LdcClass, member_found, is_below_kind, is_instance, is_null, kind_unless, newly_loaded, receiver, resolved_kind, resolved_name, resolves, unless_refused, where_fitting}
use Rattle.jvm_model.specs.Instructions.ReferenceRules.{does_named}
use Rattle.jvm_model.specs.Instructions.NativeRules.{kinds_in, left_by_native, outcome_of, runs_native, runs_number, seen_by_natives, thrown_by}
use Rattle.jvm_model.specs.Basis.Descriptors.{same_text}
use Rattle.jvm_model.specs.Instructions.ObjectRules.{done, makes}
use Rattle.jvm_model.specs.Basis.Programs.{class_named, name_at, number_from, number_of_method, same_place, super_of}
use Rattle.jvm_model.specs.Instructions.Rules.{class_initialized, when_ready}
use Rattle.jvm_model.specs.Classes.Selection.{candidate, is_abstract, is_static, nearest}
use Rattle.jvm_model.specs.Basis.SharedState.{class_of, class_of_kind, negative_array_size, no_class_definition, no_such_field, no_such_method, null_pointer, phase_of, static_at}
use Rattle.jvm_model.specs.Soundness.Sound.{HasClass, HasLoadedCaller, IsBuiltInName, IsFit, IsLoaded, IsSoundDone, IsSoundOutcome, IsSoundShared, IsUsable}
use Rattle.jvm_model.specs.Classes.SuperCalls.{invoked_special, is_inherited, is_initializer, nearest_above, method_taken}
use Rattle.jvm_model.specs.Basis.Values.{as_value, int_of, ref_of}
use Rattle.jvm_model.specs.Codes.Lines.{has_dimensions}
use Rattle.jvm_model.proofs.Loading.LoadsAgain.{newly-loaded}
use Rattle.jvm_model.proofs.Soundness.SoundClasses.{all-both, superclasses-loaded, superinterfaces-loaded, supertypes-loaded}
use Rattle.jvm_model.proofs.Soundness.SoundKinds.{behind-usable, built-in-class, built-in-there, has-root, name-usable, of-primitive, over}
use Rattle.jvm_model.proofs.Soundness.SoundObjects.{AreSound, object-usable, objects-array, objects-arrays, objects-instance, objects-slot, objects-text, static-sound, with-heap}

-- ---- the class of a method that has Code

pub number-least : (k n class at : ℕ) (places : List MethodPlace) → number_from k class at places ≡ Some n → k ≤ n
number-least k n class at [] e = absurd (none-some n e)
number-least k n class at (x ∷ rest) e = by (same_place class at x) e (number-least (k + 1) n class at rest)
  where
    by : (b : Bool) → (if b then Some k else number_from (k + 1) class at rest) ≡ Some n → (number_from (k + 1) class at rest ≡ Some n → k + 1 ≤ n) → k ≤ n
    by true e rest = let same = same_Some k n e in omega arith
    by false e rest = let later = rest e in omega arith

number-place : (k n class at : ℕ) (places : List MethodPlace) (i : ℕ) (place : MethodPlace) → number_from k class at places ≡ Some n → n ≡ k + i
    → slice_get places i ≡ Some place → place.class ≡ class
number-place k n class at [] i place e is member_found = absurd (none-some n e)
number-place k n class at (x ∷ rest) i place e is member_found =
    by (same_place class at x) refl e i is member_found (λ j member_found is there. number-place (k + 1) n class at rest j place member_found is there)
  where
    by : (b : Bool) → same_place class at x ≡ b → (if b then Some k else number_from (k + 1) class at rest) ≡ Some n → (i : ℕ) → n ≡ k + i
        → slice_get (x ∷ rest) i ≡ Some place
        → ((j : ℕ) → number_from (k + 1) class at rest ≡ Some n → n ≡ k + 1 + j → slice_get rest j ≡ Some place → place.class ≡ class)
        → place.class ≡ class
    by true same e zero is member_found behind =
        ap (λ (q : MethodPlace). q.class) (sym (same_Some x place member_found)) ∙ eqb-true x.class class (and_parts (x.class == class) (x.position == at) same).0
    by true same e (suc j) is member_found behind = let here = same_Some k n e in absurd (omega arith)
    by false same e zero is member_found behind = let later = number-least (k + 1) n class at rest e in absurd (omega arith)
    by false same e (suc j) is member_found behind = behind j e (omega arith) member_found

pub number-class : (p : Program) (class at n : ℕ) (loaded : List ℕ) → number_of_method p class at ≡ Some n → IsLoaded loaded class → HasClass p loaded n
number-class p class at n loaded e there place is =
    subst (IsLoaded loaded) (sym (number-place 0 n class at p.methods n place e (omega arith) is)) there

-- ---- a member that is looked up

first-loaded : (loaded : List ℕ) (at : ℕ → Option ℕ) (classes : List ℕ) (m : MemberPlace) → AllByRecursion (IsLoaded loaded) classes → first_in at classes ≡ Some m
    → IsLoaded loaded m.class
first-loaded loaded at [] m each e = absurd (none-some m e)
first-loaded loaded at (class ∷ rest) m each e = by (at class) e (first-loaded loaded at rest m each.1)
  where
    by : (o : Option ℕ) → option_map_or (λ position. Some (record { class = class; position = position })) o (first_in at rest) ≡ Some m
        → (first_in at rest ≡ Some m → IsLoaded loaded m.class) → IsLoaded loaded m.class
    by None e rest = rest e
    by (Some position) e rest = subst (λ (q : MemberPlace). IsLoaded loaded q.class) (same_Some (let q : MemberPlace = record { class = class; position = position } in q) m e) each.0

abbrev IsFoundLoaded : List ℕ → Option MemberPlace → Type 0
IsFoundLoaded loaded o = (m : MemberPlace) → o ≡ Some m → IsLoaded loaded m.class

module _ (w : World) (fit : IsFit w.program) (s : Shared) (is : IsSoundShared w.program s) where
  abbrev p : Program
  p = w.program

  -- ---- refusals, and what is gone on with

  abbrev Good : {A : Type 0} → (A → Type 0) → Result A Outcome → Type 0
  Good P (Ok x) = P x
  Good P (Err outcome) = IsSoundOutcome p s.loaded outcome

  abbrev Fine : Done → Type 0
  Fine d = IsSoundDone p s.loaded d

  then-good : {A B : Type 0} (P : A → Type 0) (Q : B → Type 0) (r : Result A Outcome) (f : A → Result B Outcome) → Good P r → ((x : A) → P x → Good Q (f x)) → Good Q (r >>= f)
  then-good P Q (Ok x) f good next = next x good
  then-good P Q (Err outcome) f good next = good

  unless-fine : {A : Type 0} (P : A → Type 0) (r : Result A Outcome) (rule : A → Done) → Good P r → ((x : A) → P x → Fine (rule x)) → Fine (unless_refused s r rule)
  unless-fine P (Ok x) rule good next = next x good
  unless-fine P (Err outcome) rule good next = record { loaded_same = refl; shared = is; outcome = good }

  quiet : (outcome : Outcome) → IsSoundOutcome p s.loaded outcome → Fine (done s outcome)
  quiet outcome sound = record { loaded_same = refl; shared = is; outcome = sound }

  with-objects : (h : HeapView) (outcome : Outcome) (wrote : List ℕ) → AreSound p s.loaded h → IsSoundOutcome p s.loaded outcome
      → Fine (record { shared = record s { heap = h }; wrote = wrote; outcome = outcome })
  with-objects h outcome wrote are sound = record { loaded_same = refl; shared = with-heap p s h is are; outcome = sound }

  chosen : (b : Bool) (a c : Done) → Fine a → Fine c → Fine (if b then a else c)
  chosen true a c first second = first
  chosen false a c first second = second

  replaces-sound : (method_taken : ℕ) (o : Option Value) (l : Locals) (operands : Operands) → IsSoundOutcome p s.loaded (replaces method_taken o l operands)
  replaces-sound method_taken None l operands = tt
  replaces-sound method_taken (Some v) l operands = tt

  -- ---- the class that is named

  fault-named : (fault : Fault) → IsBuiltInName (error_of fault)
  fault-named (NoClass name) = refl
  fault-named Circular = refl
  fault-named Incompatible = refl

  kind-refused : (name : List ℕ) → Good (λ kind. Unit {0}) (resolved_kind p s.loaded name)
  kind-refused name = by (load_of p s.loaded name).fault (kind_named p name)
    where
      by : (o : Option Fault) (k : Option ℕ) → Good (λ kind. Unit {0}) (kind_unless o k)
      by (Some fault) k = fault-named fault
      by None None = tt
      by None (Some kind) = tt

  -- all that the name needs is loaded
  abbrev Whole : List ℕ → Type 0
  Whole name = (load_of p s.loaded name).loaded ≡ s.loaded

  abbrev Resolved : List ℕ → ℕ → Type 0
  Resolved name kind = IsUsable p s.loaded kind × (kind / 16777216 ≡ (meaning_of name).dimensions)

  root : IsLoaded s.loaded (user_count p)
  root = has-root p fit s.loaded is.built_in

  kind-found : (name : List ℕ) → Whole name → Good (Resolved name) (resolved_kind p s.loaded name)
  kind-found name whole = by (load_of p s.loaded name).fault (kind_named p name) refl refl
    where
      by : (o : Option Fault) (k : Option ℕ) → (load_of p s.loaded name).fault ≡ o → kind_named p name ≡ k → Good (Resolved name) (kind_unless o k)
      by (Some fault) k none named = fault-named fault
      by None None none named = tt
      by None (Some kind) none named =
          subst (λ loaded. IsUsable p loaded kind × (kind / 16777216 ≡ (meaning_of name).dimensions)) whole
          (name-usable p name s.loaded kind fit.few (subst (λ loaded. IsLoaded loaded (user_count p)) (sym whole) root) none named)

  -- ---- the member that is named

  abbrev InLoaded : MemberPlace → Type 0
  InLoaded m = IsLoaded s.loaded m.class

  found-good : (o : Option MemberPlace) (error : List ℕ) → IsFoundLoaded s.loaded o → IsBuiltInName error → Good InLoaded (member_found (found_or o error))
  found-good None error there known = known
  found-good (Some m) error there known = there m refl

  fitting-good : (b : Bool) (m : MemberPlace) → InLoaded m → Good InLoaded (where_fitting b m)
  fitting-good true m there = there
  fitting-good false m there = refl

  field-found : (class : ℕ) (wanted : NameAndType) → IsLoaded s.loaded class → Good InLoaded (member_found (resolved_field p class wanted))
  field-found class wanted there =
      found-good (first_in (field_at p wanted) (supertypes p class)) no_such_field
      (λ m e. first-loaded s.loaded (field_at p wanted) (supertypes p class) m (supertypes-loaded p s.loaded is.above class there) e) refl

  object-loaded : AllByRecursion (IsLoaded s.loaded) (option_to_list (class_named p (codes "java/lang/Object")))
  object-loaded =
      let known = built-in-class p (codes "java/lang/Object") fit refl in
      subst (λ o. AllByRecursion (IsLoaded s.loaded) (option_to_list o)) (sym known.found)
      ((built-in-there p fit s.loaded is.built_in (codes "java/lang/Object") known).1, tt)

  order-loaded : (class : ℕ) → IsLoaded s.loaded class → AllByRecursion (IsLoaded s.loaded) (method_order p class)
  order-loaded class there = by (is_interface p class)
    where
      by : (b : Bool) → AllByRecursion (IsLoaded s.loaded)
          (if b then class ∷ (superinterfaces p class ++ option_to_list (class_named p (codes "java/lang/Object"))) else superclasses p class ++ superinterfaces p class)
      by true = (
        there,
        all-both (IsLoaded s.loaded) (superinterfaces p class) (option_to_list (class_named p (codes "java/lang/Object")))
            (superinterfaces-loaded p s.loaded is.above class there) object-loaded,
      )
      by false = all-both (IsLoaded s.loaded) (superclasses p class) (superinterfaces p class)
          (superclasses-loaded p s.loaded is.above class there) (superinterfaces-loaded p s.loaded is.above class there)

  method-found : (class : ℕ) (interface : Bool) (wanted : NameAndType) → IsLoaded s.loaded class → Good InLoaded (member_found (resolved_method p class interface wanted))
  method-found class interface wanted there = by (beq (is_interface p class) interface)
    where
      by : (b : Bool) → Good InLoaded (member_found (if b then found_or (first_in (method_at p wanted) (method_order p class)) no_such_method else Fails incompatible_change))
      by true = found-good (first_in (method_at p wanted) (method_order p class)) no_such_method
          (λ m e. first-loaded s.loaded (method_at p wanted) (method_order p class) m (order-loaded class there) e) refl
      by false = refl

  named-field : (static : Bool) (r : Reference) → Whole r.class → Good InLoaded (named_field p s.loaded static r)
  named-field static r whole =
      then-good (Resolved r.class) InLoaded (resolved_kind p s.loaded r.class)
      (λ kind. member_found (resolved_field p (class_of_kind p kind) r.member) >>= λ m. where_fitting (beq (is_static_field p m) static) m)
      (kind-found r.class whole)
      (λ kind usable.
      then-good InLoaded InLoaded (member_found (resolved_field p (class_of_kind p kind) r.member)) (λ m. where_fitting (beq (is_static_field p m) static) m)
      (field-found (class_of_kind p kind) r.member usable.0.of_class)
      (λ m there. fitting-good (beq (is_static_field p m) static) m there))

  named-method : (interface static : Bool) (r : Reference) → Whole r.class → Good InLoaded (named_method p s.loaded interface static r)
  named-method interface static r whole =
      then-good (Resolved r.class) InLoaded (resolved_kind p s.loaded r.class)
      (λ kind. member_found (resolved_method p (class_of_kind p kind) interface r.member) >>= λ m. where_fitting (beq (is_static p m) static) m)
      (kind-found r.class whole)
      (λ kind usable.
      then-good InLoaded InLoaded (member_found (resolved_method p (class_of_kind p kind) interface r.member)) (λ m. where_fitting (beq (is_static p m) static) m)
      (method-found (class_of_kind p kind) interface r.member usable.0.of_class)
      (λ m there. fitting-good (beq (is_static p m) static) m there))

  -- ---- a class that is initialized before

  ready-fine : (phase : Option Phase) (class : ℕ) (d : Done) → IsLoaded s.loaded class → Fine d → Fine (when_ready p phase class s d)
  ready-fine (Some Ready) class d there fine = fine
  ready-fine (Some Running) class d there fine = fine
  ready-fine (Some Fresh) class d there fine = quiet (Initializes class) there
  ready-fine (Some Erroneous) class d there fine = quiet (Raises no_class_definition (name_at p class)) refl
  ready-fine None class d there fine = quiet (Raises no_class_definition (name_at p class)) refl

  initialized-fine : (class : ℕ) (d : Done) → IsLoaded s.loaded class → Fine d → Fine (class_initialized p class s d)
  initialized-fine class d there fine = ready-fine (phase_of s class) class d there fine

  -- ---- new objects

  allocates-fine : (slots : ℕ) (make : HeapView → HeapView) (method_taken : ℕ) (l : Locals) (o : Operands) → AreSound p s.loaded (make s.heap) → Fine (allocates slots make method_taken s l o)
  allocates-fine slots make method_taken l o are =
      chosen (nat_le (s.heap.used + slots) s.heap.limit) (done (record s { heap = make s.heap }) (GoesOn l (Ref (next_number s.heap) ∷ drop method_taken o) Next)) (done s (Throws 1))
      (with-objects (make s.heap) (GoesOn l (Ref (next_number s.heap) ∷ drop method_taken o) Next) [] are tt) (quiet (Throws 1) tt)

  object-fine : (kind class : ℕ) (l : Locals) (o : Operands) → IsUsable p s.loaded kind → Fine (makes_instance p kind class s l o)
  object-fine kind class l o usable =
      chosen (has_no_instances p class) (done s (Raises instantiation_error None)) (makes_object p kind class s l o)
      (quiet (Raises instantiation_error None) refl)
      (chosen (is_text_class p class) (allocates 1 (with_text kind []) 0 s l o)
      (allocates (1 + length (layout p class)) (with_instance kind (map zero_of (layout p class))) 0 s l o)
      (allocates-fine 1 (with_text kind []) 0 l o (objects-text p s.loaded kind [] s.heap usable is.objects))
      (allocates-fine (1 + length (layout p class)) (with_instance kind (map zero_of (layout p class))) 0 l o
      (objects-instance p s.loaded kind (map zero_of (layout p class)) s.heap usable is.objects)))

  new-fine : (name : List ℕ) (l : Locals) (o : Operands) → Whole name → Fine (makes_new p name s l o)
  new-fine name l o whole =
      unless-fine (Resolved name) (resolved_kind p s.loaded name) (λ kind. class_initialized p (class_of_kind p kind) s (makes_instance p kind (class_of_kind p kind) s l o))
      (kind-found name whole)
      (λ kind usable. initialized-fine (class_of_kind p kind) (makes_instance p kind (class_of_kind p kind) s l o) usable.0.of_class
      (object-fine kind (class_of_kind p kind) l o usable.0))

  pub array-fine : (kind : ℕ) (count : Option ℤ) (l : Locals) (o : Operands) → IsUsable p s.loaded kind → Fine (makes kind count s l o)
  array-fine kind None l o usable = quiet (Breaks false) tt
  array-fine kind (Some (negsuc n)) l o usable = quiet (Raises negative_array_size None) refl
  array-fine kind (Some (pos count)) l o usable =
      chosen (nat_le (s.heap.used + (1 + count)) s.heap.limit)
      (record { shared = record s { heap = with_array kind (datum.Int (pos 0)) count s.heap }; wrote = []; outcome = GoesOn l (Ref (next_number s.heap) ∷ drop 1 o) Next })
      (done s (Throws 1))
      (with-objects (with_array kind (datum.Int (pos 0)) count s.heap) (GoesOn l (Ref (next_number s.heap) ∷ drop 1 o) Next) []
      (objects-array p s.loaded kind (datum.Int (pos 0)) count s.heap usable is.objects) tt)
      (quiet (Throws 1) tt)

  array-of-fine : (name : List ℕ) (l : Locals) (o : Operands) → Whole name → Fine (makes_array_of p name s l o)
  array-of-fine name l o whole =
      unless-fine (Resolved name) (resolved_kind p s.loaded name) (λ kind. makes (array_over kind) (int_of o) s l o) (kind-found name whole)
      (λ kind usable. array-fine (array_over kind) (int_of o) l o (over p s.loaded root kind usable.0))

  -- ---- arrays of arrays

  counts-long : (n : ℕ) (above : List ℤ) (o : Operands) (counts : List ℤ) → counts_from n above o ≡ Some counts → length counts ≡ n + length above
  counts-long zero above o counts e = let same : length counts ≡ length above = ap length (sym (same_Some above counts e)) in omega (arith, same)
  counts-long (suc n) above [] counts e = absurd (none-some counts e)
  counts-long (suc n) above (Int count ∷ below) counts e = let rest = counts-long n (count ∷ above) below counts e in omega (arith, rest)
  counts-long (suc n) above (Long count ∷ below) counts e = absurd (none-some counts e)
  counts-long (suc n) above (Ref r ∷ below) counts e = absurd (none-some counts e)
  counts-long (suc n) above (Addr t ∷ below) counts e = absurd (none-some counts e)

  lengths-long : (counts : List ℤ) (lengths : List ℕ) → lengths_of counts ≡ Some lengths → length lengths ≡ length counts
  lengths-long [] lengths e = ap length (sym (same_Some [] lengths e))
  lengths-long (negsuc n ∷ more) lengths e = absurd (none-some lengths e)
  lengths-long (pos n ∷ more) lengths e = by (lengths_of more) refl e (lengths-long more)
    where
      by : (o : Option (List ℕ)) → lengths_of more ≡ o → option_map (λ rest. n ∷ rest) o ≡ Some lengths
          → ((rest : List ℕ) → lengths_of more ≡ Some rest → length rest ≡ length more) → length lengths ≡ suc (length more)
      by None are e behind = absurd (none-some lengths e)
      by (Some rest) are e behind = ap length (sym (same_Some (n ∷ rest) lengths e)) ∙ ap suc (behind rest are)

  arrays-fine : (kind dimensions : ℕ) (counts : List ℤ) (o : Option (List ℕ)) (l : Locals) (operands : Operands) → IsUsable p s.loaded kind
      → length counts * 16777216 ≤ kind → lengths_of counts ≡ o → Fine (makes_arrays kind dimensions o s l operands)
  arrays-fine kind dimensions counts None l operands usable deep is = quiet (Raises negative_array_size None) refl
  arrays-fine kind dimensions counts (Some lengths) l operands usable deep are =
      allocates-fine (slots_of_arrays lengths) (with_arrays kind lengths) dimensions l operands
      (objects-arrays p s.loaded root kind lengths s.heap usable
      (subst (λ n. n * 16777216 ≤ kind) (sym (lengths-long counts lengths are)) deep) is.objects)

  counts-fine : (kind dimensions : ℕ) (o : Option (List ℤ)) (l : Locals) (operands : Operands) → IsUsable p s.loaded kind
      → dimensions * 16777216 ≤ kind → counts_of dimensions operands ≡ o → Fine (makes_by_counts kind dimensions o s l operands)
  counts-fine kind dimensions None l operands usable deep are = quiet (Breaks false) tt
  counts-fine kind dimensions (Some counts) l operands usable deep are =
      let long : length counts ≡ dimensions + 0 = counts-long dimensions [] operands counts are in
      arrays-fine kind dimensions counts (lengths_of counts) l operands usable
      (subst (λ n. n * 16777216 ≤ kind) (sym (long ∙ (let same : dimensions + 0 ≡ dimensions = omega arith in same))) deep) refl

  deep-kind : (kind dimensions deep : ℕ) → kind / 16777216 ≡ deep → dimensions ≤ deep → dimensions * 16777216 ≤ kind
  deep-kind kind dimensions deep is most =
      let whole : kind % 16777216 + kind / 16777216 * 16777216 ≡ kind = mod-add-div' kind 16777216 in
      let more : dimensions ≤ kind / 16777216 = subst (λ n. dimensions ≤ n) (sym is) most in
      omega (arith, whole, more)

  multi-fine : (name : List ℕ) (dimensions : ℕ) (l : Locals) (o : Operands) → Whole name → nat_le dimensions (meaning_of name).dimensions ≡ true
      → Fine (makes_multi p name dimensions s l o)
  multi-fine name dimensions l o whole most =
      unless-fine (Resolved name) (resolved_kind p s.loaded name) (λ kind. makes_by_counts kind dimensions (counts_of dimensions o) s l o) (kind-found name whole)
      (λ kind usable. counts-fine kind dimensions (counts_of dimensions o) l o usable.0
      (deep-kind kind dimensions (meaning_of name).dimensions usable.1 (leb-true dimensions (meaning_of name).dimensions most)) refl)

  -- ---- checkcast, instanceof

  cast-fine : (name : List ℕ) (l : Locals) (o : Operands) → Fine (casts p name s l o)
  cast-fine name l o =
      chosen (is_null o) (done s (GoesOn l o Next)) (unless_refused s (resolved_kind p s.loaded name) (λ kind. done s (casts_to p name (ref_of o) s l o)))
      (quiet (GoesOn l o Next) tt)
      (unless-fine (λ kind. Unit {0}) (resolved_kind p s.loaded name) (λ kind. done s (casts_to p name (ref_of o) s l o)) (kind-refused name)
      (λ kind there. by (ref_of o)))
    where
      of : (b : Bool) → IsSoundOutcome p s.loaded (let outcome : Outcome = if b then GoesOn l o Next else Raises class_cast None in outcome)
      of true = tt
      of false = refl

      by : (object : Option ℕ) → Fine (done s (casts_to p name object s l o))
      by None = quiet (Breaks false) tt
      by (Some object) = quiet (casts_to p name (Some object) s l o) (of (is_instance p s.heap object name))

  instance-fine : (name : List ℕ) (l : Locals) (o : Operands) → Fine (tells_instance p name s l o)
  instance-fine name l o =
      chosen (is_null o) (done s (replaces 1 (Some (Int (pos 0))) l o)) (unless_refused s (resolved_kind p s.loaded name) (λ kind. done s (answers p name (ref_of o) s l o)))
      (quiet (replaces 1 (Some (Int (pos 0))) l o) tt)
      (unless-fine (λ kind. Unit {0}) (resolved_kind p s.loaded name) (λ kind. done s (answers p name (ref_of o) s l o)) (kind-refused name)
      (λ kind there. by (ref_of o)))
    where
      by : (object : Option ℕ) → Fine (done s (answers p name object s l o))
      by None = quiet (Breaks false) tt
      by (Some object) = quiet (answers p name (Some object) s l o) tt

  -- ---- fields

  get-static-fine : (r : Reference) (l : Locals) (o : Operands) → Whole r.class → Fine (gets_static p r s l o)
  get-static-fine r l o whole =
      unless-fine InLoaded (named_field p s.loaded true r) (λ m. pushes_static p m s l o) (named-field true r whole)
      (λ m there. initialized-fine m.class (done s (pushes (option_map as_value (static_at s (static_field m))) l o)) there
      (quiet (pushes (option_map as_value (static_at s (static_field m))) l o) (by (option_map as_value (static_at s (static_field m))))))
    where
      by : (v : Option Value) → IsSoundOutcome p s.loaded (pushes v l o)
      by None = tt
      by (Some v) = tt

  put-static-fine : (r : Reference) (l : Locals) (o : Operands) → Whole r.class → Fine (puts_static p r s l o)
  put-static-fine r l o whole =
      unless-fine InLoaded (named_field p s.loaded true r) (λ m. class_initialized p m.class s (sets_static m (field_held (kind_by r) o) s l o)) (named-field true r whole)
      (λ m there. initialized-fine m.class (sets_static m (field_held (kind_by r) o) s l o) there (by m (field_held (kind_by r) o)))
    where
      by : (m : MemberPlace) (d : Option Datum) → Fine (sets_static m d s l o)
      by m None = quiet (Breaks false) tt
      by m (Some d) = record { loaded_same = refl; shared = static-sound p s (static_field m) d is; outcome = tt }

  receiver-good : (object : ℕ) (b : Bool) (otherwise : Outcome) → IsSoundOutcome p s.loaded otherwise
      → Good (λ x. (x ≡ object) × (b ≡ true)) (receiver object b otherwise)
  receiver-good object b otherwise sound = by (object == 0) b
    where
      by : (null b : Bool) → Good (λ x. (x ≡ object) × (b ≡ true)) (if null then Err (Raises null_pointer None) else if b then Ok object else Err otherwise)
      by true b = refl
      by false true = (refl, refl)
      by false false = sound

  get-fine : (r : Reference) (l : Locals) (o : Operands) → Whole r.class → Fine (gets_instance p r s l o)
  get-fine r l o whole =
      unless-fine InLoaded (named_field p s.loaded false r) (λ m. gets_of p r m (ref_of o) s l o) (named-field false r whole) (λ m there. by m (ref_of o))
    where
      by : (m : MemberPlace) (object : Option ℕ) → Fine (gets_of p r m object s l o)
      by m None = quiet (Breaks false) tt
      by m (Some object) =
          unless-fine (λ x. (x ≡ object) × (has_field p s r m object ≡ true)) (field_owner p s r m object)
          (λ owner. done s (replaces 1 (option_map as_value (slot_at owner (slot_of p m) s.heap)) l o))
          (receiver-good object (has_field p s r m object) (Breaks false) tt)
          (λ owner same. quiet (replaces 1 (option_map as_value (slot_at owner (slot_of p m) s.heap)) l o)
          (replaces-sound 1 (option_map as_value (slot_at owner (slot_of p m) s.heap)) l o))

  put-fine : (r : Reference) (l : Locals) (o : Operands) → Whole r.class → Fine (puts_instance p r s l o)
  put-fine r l o whole =
      unless-fine InLoaded (named_field p s.loaded false r) (λ m. puts_into p r m (putting_of (kind_by r) o) s l o) (named-field false r whole)
      (λ m there. by m (putting_of (kind_by r) o))
    where
      by : (m : MemberPlace) (putting : Option Putting) → Fine (puts_into p r m putting s l o)
      by m None = quiet (Breaks false) tt
      by m (Some x) =
          unless-fine (λ y. (y ≡ x.object) × (has_field p s r m x.object ≡ true)) (field_owner p s r m x.object)
          (λ owner. done (record s { heap = with_slot_at owner (slot_of p m) x.datum s.heap }) (GoesOn l (drop 2 o) Next))
          (receiver-good x.object (has_field p s r m x.object) (Breaks false) tt)
          (λ owner same. with-objects (with_slot_at owner (slot_of p m) x.datum s.heap) (GoesOn l (drop 2 o) Next) []
          (objects-slot p s.loaded owner (slot_of p m) x.datum s.heap is.objects) tt)

  -- ---- what is invoked

  -- the built-in class at this place is loaded, so what has its kind is usable
  place-usable : (place : ℕ) → place < 53 → IsUsable p s.loaded (16 + place)
  place-usable place few = behind-usable p fit s.loaded is.built_in place few

  made-usable : AreMade (IsUsable p s.loaded)
  made-usable = record {
    text = place-usable 7 (omega arith);
    class = place-usable 6 (omega arith);
    chars = of-primitive p s.loaded root 1 5 (omega arith) (omega arith);
    integer = place-usable 14 (omega arith);
    long = place-usable 15 (omega arith);
    character = place-usable 16 (omega arith);
    boolean = place-usable 17 (omega arith);
  }

  same-refl : (xs : List ℕ) → same_text xs xs ≡ true
  same-refl xs = (bytes_eq-Decides xs xs).1 refl

  name-known : (names : List (List ℕ)) (place : ℕ) (name : List ℕ) → slice_get names place ≡ Some name → list_any (same_text name) names ≡ true
  name-known [] place name e = absurd (none-some name e)
  name-known (x ∷ names) zero name e =
      ap (λ y. same_text name y || list_any (same_text name) names) (same_Some x name e) ∙ ap (λ b. b || list_any (same_text name) names) (same-refl name)
  name-known (x ∷ names) (suc place) name e = by (same_text name x) (name-known names place name e)
    where
      by : (b : Bool) → list_any (same_text name) names ≡ true → (b || list_any (same_text name) names) ≡ true
      by true rest = refl
      by false rest = rest

  named-sound : (o : Option (List ℕ)) (place : ℕ) → slice_get built_in_names place ≡ o
      → IsSoundOutcome p s.loaded (option_map_or (λ name. Raises name None) o (Breaks false))
  named-sound None place e = tt
  named-sound (Some name) place e = name-known built_in_names place name e

  thrown-sound : (class : ℕ) → IsSoundOutcome p s.loaded (thrown_by class)
  thrown-sound class = by (class == out_of_memory_error)
    where
      by : (b : Bool) → IsSoundOutcome p s.loaded (let q : Outcome = if b then Throws 1 else option_map_or (λ name. Raises name None) (slice_get built_in_names class) (Breaks false) in q)
      by true = tt
      by false = named-sound (slice_get built_in_names class) class refl

  answer-sound : (a : Answer) (l : Locals) (below : Operands) → IsSoundOutcome p s.loaded (outcome_of a l below)
  answer-sound (answer.Value d) l below = tt
  answer-sound (answer.Throws class) l below = thrown-sound class
  answer-sound (answer.Exit status) l below = tt
  answer-sound answer.Bad l below = tt

  left-sound : (left : natives.World) → AreSound p s.loaded left.heap → IsSoundShared p (left_by_native left s)
  left-sound left are = record { built_in = is.built_in; above = is.above; objects = are }

  number-runs-fine : (number : ℕ) (args : List Datum) (l : Locals) (below : Operands) → Fine (runs_number w number args s l below)
  number-runs-fine number args l below = record {
    loaded_same = refl;
    shared = left-sound (world_by number (kinds_in w.program s.loaded) args (seen_by_natives w s))
        (kinds-kept (IsUsable p s.loaded) number (kinds_in w.program s.loaded) args (seen_by_natives w s) made-usable is.objects);
    outcome = answer-sound (answer_by number (kinds_in w.program s.loaded) args (seen_by_natives w s)) l below;
  }

  native-fine : (r : Option Reference) (args : List Datum) (l : Locals) (below : Operands) → Fine (runs_native w r args s l below)
  native-fine r args l below = by (option_and_then native_number r)
    where
      by : (o : Option ℕ) → Fine (option_map_or (λ number. runs_number w number args s l below) o (done s (Breaks false)))
      by None = quiet (Breaks false) tt
      by (Some number) = number-runs-fine number args l below

  number-fine : (m : MemberPlace) (o : Option ℕ) (args : List Datum) (l : Locals) (below : Operands) → InLoaded m → number_of_method p m.class m.position ≡ o
      → Fine (invokes_number w m o args s l below)
  number-fine m (Some n) args l below there e = quiet (Invokes n args below) (number-class p m.class m.position n s.loaded e there)
  number-fine m None args l below there e =
      chosen (nat_lt m.class (user_count p)) (done s (Raises unsatisfied_link None)) (runs_native w (method_reference p m) args s l below)
      (quiet (Raises unsatisfied_link None) refl) (native-fine (method_reference p m) args l below)

  selected-fine : (o : Option MemberPlace) (args : List Datum) (l : Locals) (below : Operands) → IsFoundLoaded s.loaded o → Fine (invokes_selected w o args s l below)
  selected-fine None args l below there = quiet (Raises abstract_method None) refl
  selected-fine (Some m) args l below there =
      chosen (is_abstract p m) (done s (Raises abstract_method None)) (invokes_number w m (number_of_method p m.class m.position) args s l below)
      (quiet (Raises abstract_method None) refl)
      (number-fine m (number_of_method p m.class m.position) args l below (there m refl) refl)

  static-fine : (r : Reference) (l : Locals) (o : Operands) → Whole r.class → Fine (invokes_static_method w r s l o)
  static-fine r l o whole =
      unless-fine InLoaded (named_method p s.loaded false true r) (λ m. class_initialized p m.class s (invokes_with_static w m (arguments_by false r.member o) s l o))
      (named-method false true r whole)
      (λ m there. initialized-fine m.class (invokes_with_static w m (arguments_by false r.member o) s l o) there (by m there (arguments_by false r.member o)))
    where
      by : (m : MemberPlace) → InLoaded m → (args : Option (List Datum)) → Fine (invokes_with_static w m args s l o)
      by m there None = quiet (Breaks false) tt
      by m there (Some args) =
          selected-fine (Some m) args l (drop (length args) o) (λ member_found e. subst InLoaded (same_Some m member_found e) there)

  -- ---- what is selected

  unless-abstract : (o : Option MemberPlace) → IsFoundLoaded s.loaded o
      → IsFoundLoaded s.loaded (option_and_then (λ member_found. if is_abstract p member_found then None else Some member_found) o)
  unless-abstract None there m e = absurd (none-some m e)
  unless-abstract (Some member_found) there m e = by (is_abstract p member_found) e
    where
      by : (b : Bool) → (let o : Option MemberPlace = if b then None else Some member_found in o) ≡ Some m → InLoaded m
      by true e = absurd (none-some m e)
      by false e = there m e

  nearest-loaded : (class : ℕ) (interface : Bool) (m : MemberPlace) → IsLoaded s.loaded class → IsFoundLoaded s.loaded (nearest p class interface m)
  nearest-loaded class interface m there member_found e =
      first-loaded s.loaded (candidate p interface m) (superclasses p class) member_found (superclasses-loaded p s.loaded is.above class there) e

  above-loaded : (caller : ℕ) (m : MemberPlace) (o : Option ℕ) → AllByRecursion (IsLoaded s.loaded) (option_to_list o)
      → IsFoundLoaded s.loaded (option_and_then (λ above. nearest p above true m) o)
  above-loaded caller m None each member_found e = absurd (none-some member_found e)
  above-loaded caller m (Some above) each member_found e = nearest-loaded above true m each.0 member_found e

  taken-loaded : (caller : ℕ) (m : MemberPlace) → IsLoaded s.loaded caller → InLoaded m → IsFoundLoaded s.loaded (method_taken p caller m)
  taken-loaded caller m current there = by (is_inherited p caller m && not (is_initializer p m))
    where
      by : (b : Bool) → IsFoundLoaded s.loaded (if b then nearest_above p caller m else Some m)
      by true m1 e = above-loaded caller m (super_of p caller) (is.above.superclass caller current) m1 e
      by false m1 e = subst InLoaded (same_Some m m1 e) there

  special-loaded : (o : Option ℕ) (m : MemberPlace) → ((class : ℕ) → o ≡ Some class → IsLoaded s.loaded class) → InLoaded m
      → IsFoundLoaded s.loaded (option_and_then (λ current. invoked_special p current m) o)
  special-loaded None m current there m1 e = absurd (none-some m1 e)
  special-loaded (Some class) m current there m1 e = unless-abstract (method_taken p class m) (taken-loaded class m (current class refl) there) m1 e

  -- the class in which the instruction stands is loaded, where it is asked for
  abbrev HasCaller : Selecting → Type 0
  HasCaller (Special caller interface) = (class : ℕ) → class_named p caller ≡ Some class → IsLoaded s.loaded class
  HasCaller Virtual = Unit {0}
  HasCaller OfInterface = Unit {0}

  by-loaded : (by : Selecting) (m : MemberPlace) (class : ℕ) → HasCaller by → InLoaded m → IsLoaded s.loaded class → IsFoundLoaded s.loaded (selected_by p by m class)
  by-loaded Virtual m class current there object = unless-abstract (nearest p class false m) (nearest-loaded class false m object)
  by-loaded OfInterface m class current there object = unless-abstract (nearest p class true m) (nearest-loaded class true m object)
  by-loaded (Special caller interface) m class current there object = special-loaded (class_named p caller) m current there

  not-of-class : (by : Selecting) → IsSoundOutcome p s.loaded (not_of_class by)
  not-of-class Virtual = tt
  not-of-class OfInterface = refl
  not-of-class (Special caller interface) = tt

  receiver-loaded : (object : ℕ) (name : List ℕ) → is_instance p s.heap object name ≡ true → IsLoaded s.loaded (class_of p s object)
  receiver-loaded object name e = by (kind_at object s.heap) refl e
    where
      by : (o : Option ℕ) → kind_at object s.heap ≡ o → is_below_kind p o (kind_named p name) ≡ true → IsLoaded s.loaded (option_map_or (class_of_kind p) o (user_count p))
      by None is_kind e = absurd (false≢true e)
      by (Some kind) is_kind e = (object-usable p s.loaded s.heap object kind is.objects is_kind).of_class

  on-fine : (by : Selecting) (r : Reference) (m : MemberPlace) (args : Option (List Datum)) (l : Locals) (o : Operands) → HasCaller by → InLoaded m
      → Fine (invokes_on w by r m args s l o)
  on-fine by r m None l o current there = quiet (Breaks false) tt
  on-fine by r m (Some args) l o current there =
      unless-fine (λ x. (x ≡ receiver_in args) × (is_instance p s.heap (receiver_in args) r.class ≡ true))
      (receiver (receiver_in args) (is_instance p s.heap (receiver_in args) r.class) (not_of_class by))
      (λ object. invokes_selected w (selected_by p by m (class_of p s object)) args s l (drop (length args) o))
      (receiver-good (receiver_in args) (is_instance p s.heap (receiver_in args) r.class) (not_of_class by) (not-of-class by))
      (λ object same. selected-fine (selected_by p by m (class_of p s object)) args l (drop (length args) o)
      (by-loaded by m (class_of p s object) current there
      (subst (λ x. IsLoaded s.loaded (class_of p s x)) (sym same.0) (receiver-loaded (receiver_in args) r.class same.1))))

  invoked-fine : (by : Selecting) (r : Reference) (l : Locals) (o : Operands) → HasCaller by → Whole r.class → Fine (invokes_instance w by r s l o)
  invoked-fine by r l o current whole =
      unless-fine InLoaded (named_method p s.loaded (names_interface by) false r) (λ m. invokes_on w by r m (arguments_by true r.member o) s l o)
      (named-method (names_interface by) false r whole)
      (λ m there. on-fine by r m (arguments_by true r.member o) l o current there)

  -- ---- ldc of a Class

  object-of-fine : (kind : ℕ) (l : Locals) (o : Operands) → Fine (pushes_object_of kind s l o)
  object-of-fine kind l o = record {
    loaded_same = refl;
    shared = record {
      built_in = is.built_in;
      above = is.above;
      objects = class-kept (IsUsable p s.loaded) kind s.made s.heap made-usable is.objects;
    };
    outcome = answer-sound (answer_of_class kind s.made s.heap) l o;
  }

  class-object-fine : (name : List ℕ) (l : Locals) (o : Operands) → Whole name → Fine (pushes_class p name s l o)
  class-object-fine name l o whole =
      unless-fine (Resolved name) (resolved_kind p s.loaded name) (λ kind. pushes_object_of kind s l o) (kind-found name whole)
      (λ kind usable. object-of-fine kind l o)

  -- ---- every instruction that names something

  second_of_and : (a b : Bool) → (a && b) ≡ true → b ≡ true
  second_of_and true b h = h
  second_of_and false b h = absurd (false≢true h)

  -- where all is loaded that it names, and it is resolved
  rule-fine : (n : SymbolicReference) (l : Locals) (o : Operands) → HasLoadedCaller p s.loaded n → has_dimensions n ≡ true → (resolves n o ≡ true → Whole (resolved_name n))
      → Fine (does_named w n s l o)
  rule-fine (New name) l o current deep whole = new-fine name l o (whole refl)
  rule-fine (Getfield r) l o current deep whole = get-fine r l o (whole refl)
  rule-fine (Putfield r) l o current deep whole = put-fine r l o (whole refl)
  rule-fine (Getstatic r) l o current deep whole = get-static-fine r l o (whole refl)
  rule-fine (Putstatic r) l o current deep whole = put-static-fine r l o (whole refl)
  rule-fine (Invokevirtual r) l o current deep whole = invoked-fine Virtual r l o tt (whole refl)
  rule-fine (Invokespecial caller r interface) l o current deep whole = invoked-fine (Special caller interface) r l o current (whole refl)
  rule-fine (Invokestatic r) l o current deep whole = static-fine r l o (whole refl)
  rule-fine (Invokeinterface r) l o current deep whole = invoked-fine OfInterface r l o tt (whole refl)
  rule-fine (Checkcast name) l o current deep whole = cast-fine name l o
  rule-fine (Instanceof name) l o current deep whole = instance-fine name l o
  rule-fine (Anewarray name) l o current deep whole = array-of-fine name l o (whole refl)
  rule-fine (LdcClass name) l o current deep whole = class-object-fine name l o (whole refl)
  rule-fine (Multianewarray name dimensions) l o current deep whole =
      multi-fine name dimensions l o (whole refl) (second_of_and (nat_le 1 dimensions) (nat_le dimensions (meaning_of name).dimensions) deep)

  -- where the attempt loads nothing more
  pub sound-named : (n : SymbolicReference) (l : Locals) (o : Operands) → HasLoadedCaller p s.loaded n → has_dimensions n ≡ true → newly_loaded p s.loaded n o ≡ []
      → IsSoundDone p s.loaded (does_named w n s l o)
  sound-named n l o current deep nothing =
      rule-fine n l o current deep (λ does. sym (newly-loaded p s.loaded n o does) ∙ (ap (λ more. s.loaded ++ more) nothing ∙ append-nil s.loaded))

-- What is invoked is of a class that is loaded.
pub callee-loaded : (w : World) (n : SymbolicReference) (s : Shared) (l : Locals) (o : Operands) (method : ℕ) (args : List Datum) (below : Operands) → IsFit w.program
    → IsSoundShared w.program s → HasLoadedCaller w.program s.loaded n → has_dimensions n ≡ true → newly_loaded w.program s.loaded n o ≡ []
    → (does_named w n s l o).outcome ≡ Invokes method args below → HasClass w.program s.loaded method
callee-loaded w n s l o method args below fit is current deep nothing e =
    subst (IsSoundOutcome w.program s.loaded) e (sound-named w fit s is n l o current deep nothing).outcome
