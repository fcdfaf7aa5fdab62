-- What an instruction asks to begin is among its targets (JVM Specification 2.11.8, 5.4.3, 5.4.5, 5.5, 6.5).
use Rattle.std.proofs.Common.{◌≡◌, ℕ, ◌+◌, Bool, true, false, List, [], ◌∷◌, ◌++◌, length, ap, sym, subst, refl, ◌∙◌, eqb-true}
use Rattle.std.proofs.lemmas.Bool.{false≢true}
use Rattle.std.proofs.lemmas.List.{append-nil}
use Rattle.std.specs.Prelude.{drop, filter, map, Option, Some, None, is_some, Result, Ok, Err, slice_get, nat_le, nat_lt, ℤ, pos, negsuc, ◌==◌, ◌||◌, if◌then◌else◌}
use Rattle.std.specs.Bool.{beq}
use Rattle.std.specs.Option.{option_and_then, option_map, option_map_or, option_to_list}
use Rattle.std.proofs.lemmas.Option.{same_Some}
use Rattle.jf_bytes.proofs.Tests.{equals_itself}
use Rattle.const_pool.specs.References.{Reference}
use Rattle.const_pool.specs.BuiltIn.{built_in_names}
use Rattle.heap_objects.specs.declared.datum.Datum.{Datum}
use Rattle.heap_objects.specs.declared.datum.Datum.TheVariants as datum
use Rattle.const_pool.specs.declared.descriptor.Kind.{Kind}
use Rattle.heap_objects.specs.declared.Value.{Value}
use Rattle.heap_objects.specs.declared.Value.TheVariants.{Int, Ref}
use Rattle.heap_objects.specs.Heaps.{HeapView, interned_number, kind_at, next_number, slot_at, with_array, with_instance, with_interned, with_slot_at, with_text}
use Rattle.base_classes.specs.Natives.{native_number}
use Rattle.native_effects.specs.declared.effects.answer.Answer.{Answer}
use Rattle.native_effects.specs.declared.effects.answer.Answer.TheVariants as answer
use Rattle.native_ops.specs.Methods.Calls.{answer_by}
use Rattle.native_effects.specs.Effects.Making.{answer_of_class}
use Rattle.native_effects.specs.Inputs.Numbers.{out_of_memory_error}
use Rattle.jvm_model.specs.Basis.Data.{Program, Phase, Fresh, Running, Ready, Erroneous, Shared, Local, Operation, Within, Athrow, Monitor, Newarray, Arraylength, LoadElement, StoreElement, LdcString, Locals, Operands, World, Outcome, GoesOn, Next, Throws, Raises, Breaks, Done}
use Rattle.jvm_model.specs.Basis.Values.{as_value, int_of, ref_of}
use Rattle.jvm_model.specs.Basis.Data as operation
use Rattle.jvm_model.specs.Instructions.CreationRules.{allocates, answers, array_over, casts, casts_to, class_cast, counts_of, has_no_instances, instantiation_error, is_text_class, lengths_of, makes_arrays, makes_by_counts, makes_instance, makes_multi, makes_new, makes_object, slots_of_arrays, tells_instance, with_arrays, zero_of}
use Rattle.jvm_model.specs.Instructions.FieldRules.{Putting, field_owner, gets_instance, gets_of, gets_static, has_field, puts_instance, puts_into, putting_of, slot_of, field_held, is_static_field, kind_by, named_field, pushes_static, puts_static, sets_static, static_field}
use Rattle.jvm_model.specs.Instructions.InvocationRules.{Selecting, Virtual, OfInterface, Special, abstract_method, arguments_by, invokes_instance, invokes_number, invokes_on, invokes_selected, invokes_static_method, invokes_with_static, named_method, names_interface, not_of_class, receiver_in, method_reference, selected_by, unsatisfied_link}
use Rattle.jvm_model.specs.Basis.KindNumbers.{kind_parts, user_count}
use Rattle.jvm_model.specs.Classes.Kinds.{Named, is_subkind, kind_named}
use Rattle.jvm_model.specs.Classes.Load.{Fault, is_among, load_of}
use Rattle.jvm_model.specs.Classes.Lookup.{MemberPlace, Resolution, Found, Fails, is_subtype, resolved_field, resolved_method}
use Rattle.jvm_model.specs.Classes.Layouts.{layout}
use Rattle.jvm_model.specs.Instructions.LocalRules.{pushes, replaces, within}
use Rattle.jvm_model.specs.Instructions.NativeRules.{kinds_in, outcome_of, runs_native, runs_number, seen_by_natives}
use Rattle.jvm_model.specs.Instructions.SymbolicReference.{◌>>=◌, SymbolicReference, New, Getfield, Putfield, Getstatic, Putstatic, Invokevirtual, Invokespecial, Invokestatic, Invokeinterface, Checkcast, Instanceof, Anewarray, Multianewarray, LdcClass, member_found, is_null, newly_loaded, receiver, resolved_name, resolves, is_below_kind, is_instance, kind_unless, resolved_kind, unless_refused, where_fitting}
use Rattle.jvm_model.specs.Instructions.ConstantRules.{pushes_object_of}
use Rattle.jvm_model.specs.Running.Constants.{can_intern}
use Rattle.jvm_model.specs.Instructions.Does.{does, loads}
use Rattle.jvm_model.specs.Instructions.ReferenceRules.{does_named}
use Rattle.jvm_model.specs.Instructions.ObjectRules.{Access, ToNull, ToAnother, Outside, Inside, Storing, access_to, done, fits_array, makes, array_element_of, loads_element, measures, stores_at, stores_element, storing_of, throws, watches}
use Rattle.jvm_model.specs.Basis.Programs.{number_of_method, place_of_method}
use Rattle.jvm_model.specs.Instructions.Rules.{class_initialized, when_ready}
use Rattle.jvm_model.specs.Classes.Selection.{is_abstract, is_static, method_selected}
use Rattle.jvm_model.specs.Basis.SharedState.{array_store, class_of, class_of_kind, kind_for, string, null_pointer, phase_of, static_at}
use Rattle.jvm_model.specs.Soundness.Sound.{IsFit, IsLoaded, IsSoundShared}
use Rattle.jvm_model.proofs.Loading.LoadsAgain.{newly-loaded}
use Rattle.jvm_model.proofs.Soundness.SoundObjects.{object-usable}
use Rattle.jvm_model.proofs.Soundness.IdleRules.{idle-begins, element-idle, measures-idle, throws-idle, watches-idle, within-idle}
use Rattle.jvm_model.specs.Soundness.Climbing.{Climbs, HasBareObject, IsDue, Begins}
use Rattle.jvm_model.specs.Profiling.Targets.{loaded_class_named, found_where, coded_at, method_coded, initializers, selections, invoked_by, begun_on, begun_static, begun_field, where_loaded, begun_by, begun_by_operation}
use Rattle.jvm_model.proofs.Loading.Among.{among-front, among-behind}
use Rattle.jvm_model.proofs.Revealing.CalleePlaces.{among-flat, among-filter, kind-names, sub-class, sub-array, object, object-due, object-coded, field-object, method-object, nearest-object, field-above, method-above, initializers-due, due-above, number-place, Names, of_class, of_array, Receives, receives_class, receives_array}

-- ---- what a rule asks for

module _ (w : World) (fit : IsFit w.program) (s : Shared) (is : IsSoundShared w.program s) (climbs : Climbs w.program s.loaded) (bare : HasBareObject w.program) where
  abbrev p : Program
  p = w.program

  abbrev Due : List ℕ → Done → Type 0
  Due ms d = Begins p s.loaded ms d.outcome

  -- a refusal begins nothing
  abbrev Good : {A : Type 0} → (A → Type 0) → Result A Outcome → Type 0
  Good P (Ok x) = P x
  Good P (Err outcome) = (ms : List ℕ) → Begins p s.loaded ms outcome

  then-good : {A B : Type 0} (P : A → Type 0) (Q : B → Type 0) (r : Result A Outcome) (f : A → Result B Outcome) → Good P r → ((x : A) → P x → Good Q (f x)) → Good Q (r >>= f)
  then-good P Q (Ok x) f good next = next x good
  then-good P Q (Err outcome) f good next = good

  unless-due : {A : Type 0} (P : A → Type 0) (ms : List ℕ) (r : Result A Outcome) (rule : A → Done) → Good P r → ((x : A) → P x → Due ms (rule x)) → Due ms (unless_refused s r rule)
  unless-due P ms (Ok x) rule good next = next x good
  unless-due P ms (Err outcome) rule good next = good ms

  chosen : (ms : List ℕ) (b : Bool) (a c : Done) → Due ms a → Due ms c → Due ms (if b then a else c)
  chosen ms true a c first second = first
  chosen ms false a c first second = second

  -- ---- names and members

  abbrev Whole : List ℕ → Type 0
  Whole name = (load_of p s.loaded name).loaded ≡ s.loaded

  abbrev IsKind : List ℕ → ℕ → Type 0
  IsKind name kind = Names p fit s.loaded name kind × (kind_named p name ≡ Some kind)

  kind-good : (name : List ℕ) → Whole name → Good (IsKind name) (resolved_kind p s.loaded name)
  kind-good name whole = by (load_of p s.loaded name).fault (kind_named p name) refl refl
    where
      by : (o : Option Fault) (k : Option ℕ) → (load_of p s.loaded name).fault ≡ o → kind_named p name ≡ k → Good (IsKind name) (kind_unless o k)
      by (Some fault) k none named = λ ms. tt
      by None None none named = λ ms. tt
      by None (Some kind) none named = (kind-names p fit s.loaded name kind whole none named, named)

  -- the method that a reference names, of a class that is known
  record IsMethod (interface static : Bool) (r : Reference) (m : MemberPlace) : Type 0 where
    kind : ℕ
    is_kind : IsKind r.class kind
    is_found : resolved_method p (class_of_kind p kind) interface r.member ≡ Found m
    fits : beq (is_static p m) static ≡ true

  record IsField (r : Reference) (m : MemberPlace) : Type 0 where
    kind : ℕ
    is_kind : IsKind r.class kind
    is_found : resolved_field p (class_of_kind p kind) r.member ≡ Found m
    fits : beq (is_static_field p m) true ≡ true

  found-good : (r : Resolution) → Good (λ m. r ≡ Found m) (member_found r)
  found-good (Found m) = refl
  found-good (Fails error) = λ ms. tt

  fitting-good : (b : Bool) (m : MemberPlace) → Good (λ k. (k ≡ m) × (b ≡ true)) (where_fitting b m)
  fitting-good true m = (refl, refl)
  fitting-good false m = λ ms. tt

  mapped-good : {A : Type 0} (P Q : A → Type 0) (r : Result A Outcome) → Good P r → ((x : A) → P x → Q x) → Good Q r
  mapped-good P Q (Ok x) good next = next x good
  mapped-good P Q (Err outcome) good next = good

  method-good : (interface static : Bool) (r : Reference) → Whole r.class → Good (IsMethod interface static r) (named_method p s.loaded interface static r)
  method-good interface static r whole =
      then-good (IsKind r.class) (IsMethod interface static r) (resolved_kind p s.loaded r.class)
      (λ kind. member_found (resolved_method p (class_of_kind p kind) interface r.member) >>= λ m. where_fitting (beq (is_static p m) static) m)
      (kind-good r.class whole)
      (λ kind is_kind.
      then-good (λ m. resolved_method p (class_of_kind p kind) interface r.member ≡ Found m) (IsMethod interface static r)
      (member_found (resolved_method p (class_of_kind p kind) interface r.member)) (λ m. where_fitting (beq (is_static p m) static) m)
      (found-good (resolved_method p (class_of_kind p kind) interface r.member))
      (λ m is_found.
      mapped-good (λ k. (k ≡ m) × (beq (is_static p m) static ≡ true)) (IsMethod interface static r) (where_fitting (beq (is_static p m) static) m)
      (fitting-good (beq (is_static p m) static) m)
      (λ k same. subst (IsMethod interface static r) (sym same.0) (record { kind = kind; is_kind = is_kind; is_found = is_found; fits = same.1 }))))

  field-good : (r : Reference) → Whole r.class → Good (IsField r) (named_field p s.loaded true r)
  field-good r whole =
      then-good (IsKind r.class) (IsField r) (resolved_kind p s.loaded r.class)
      (λ kind. member_found (resolved_field p (class_of_kind p kind) r.member) >>= λ m. where_fitting (beq (is_static_field p m) true) m)
      (kind-good r.class whole)
      (λ kind is_kind.
      then-good (λ m. resolved_field p (class_of_kind p kind) r.member ≡ Found m) (IsField r)
      (member_found (resolved_field p (class_of_kind p kind) r.member)) (λ m. where_fitting (beq (is_static_field p m) true) m)
      (found-good (resolved_field p (class_of_kind p kind) r.member))
      (λ m is_found.
      mapped-good (λ k. (k ≡ m) × (beq (is_static_field p m) true ≡ true)) (IsField r) (where_fitting (beq (is_static_field p m) true) m)
      (fitting-good (beq (is_static_field p m) true) m)
      (λ k same. subst (IsField r) (sym same.0) (record { kind = kind; is_kind = is_kind; is_found = is_found; fits = same.1 }))))

  -- ---- a class that is initialized before

  initialized-due : (ms : List ℕ) (class : ℕ) (d : Done) → IsDue p s.loaded ms class → Due ms d → Due ms (class_initialized p class s d)
  initialized-due ms class d due after = by (phase_of s class)
    where
      by : (o : Option Phase) → Due ms (when_ready p o class s d)
      by (Some Ready) = after
      by (Some Running) = after
      by (Some Fresh) = due
      by (Some Erroneous) = tt
      by None = tt

  -- of the class that a name stands for, or of one above it
  named-due : (name : List ℕ) (kind : ℕ) (begun : ℕ → List ℕ) (m : ℕ) → Names p fit s.loaded name kind
      → ((class : ℕ) → class_of_kind p kind ≡ class → IsLoaded s.loaded class → IsDue p s.loaded (begun class) m)
      → (class_of_kind p kind ≡ user_count p → m ≡ user_count p)
      → IsDue p s.loaded (where_loaded p s.loaded name begun) m
  named-due name kind begun m (of_class class small base is_class there plain named) due in_object =
      subst (λ o. IsDue p s.loaded (option_map_or begun o []) m) (sym named) (due class is_class there)
  named-due name kind begun m (of_array big is_class array_type) due in_object =
      subst (λ c. IsDue p s.loaded (where_loaded p s.loaded name begun) c) (sym (in_object is_class)) (object-due p bare s.loaded (where_loaded p s.loaded name begun))

  -- ---- new

  makes-due : (ms : List ℕ) (kind class : ℕ) (l : Locals) (o : Operands) → Due ms (makes_instance p kind class s l o)
  makes-due ms kind class l o =
      chosen ms (has_no_instances p class) (done s (Raises instantiation_error None)) (makes_object p kind class s l o) tt
      (chosen ms (is_text_class p class) (allocates 1 (with_text kind []) 0 s l o)
      (allocates (1 + length (layout p class)) (with_instance kind (map zero_of (layout p class))) 0 s l o)
      (allocates-due 1 (with_text kind []) 0) (allocates-due (1 + length (layout p class)) (with_instance kind (map zero_of (layout p class))) 0))
    where
      allocates-due : (slots : ℕ) (make : HeapView → HeapView) (taken : ℕ) → Due ms (allocates slots make taken s l o)
      allocates-due slots make taken =
          chosen ms (nat_le (s.heap.used + slots) s.heap.limit) (done (record s { heap = make s.heap }) (GoesOn l (Ref (next_number s.heap) ∷ drop taken o) Next)) (done s (Throws 1)) tt tt

  new-due : (name : List ℕ) (l : Locals) (o : Operands) → Whole name → Due (begun_by p s.loaded (New name)) (makes_new p name s l o)
  new-due name l o whole =
      let ms = begun_by p s.loaded (New name) in
      unless-due (IsKind name) ms (resolved_kind p s.loaded name)
      (λ kind. class_initialized p (class_of_kind p kind) s (makes_instance p kind (class_of_kind p kind) s l o)) (kind-good name whole)
      (λ kind is_kind. initialized-due ms (class_of_kind p kind) (makes_instance p kind (class_of_kind p kind) s l o)
      (named-due name kind (initializers p s.loaded) (class_of_kind p kind) is_kind.0
      (λ class same there. subst (IsDue p s.loaded (initializers p s.loaded class)) (sym same) (initializers-due p s.loaded climbs class)) (λ same. same))
      (makes-due ms kind (class_of_kind p kind) l o))

  -- ---- static fields

  field-due : (r : Reference) (m : MemberPlace) → IsField r m → IsDue p s.loaded (where_loaded p s.loaded r.class (λ class. begun_field p s.loaded class r)) m.class
  field-due r m field =
      named-due r.class field.kind (λ class. begun_field p s.loaded class r) m.class field.is_kind.0
      (λ class same there.
      let is_found : resolved_field p class r.member ≡ Found m = ap (λ c. resolved_field p c r.member) (sym same) ∙ field.is_found in
      let found_is : found_where (is_static_field p) true (resolved_field p class r.member) ≡ Some m =
      ap (found_where (is_static_field p) true) is_found ∙ ap (λ b. let o : Option MemberPlace = if b then Some m else None in o) field.fits in
      subst (λ o. IsDue p s.loaded (option_map_or (λ k. initializers p s.loaded class) o []) m.class) (sym found_is)
      (due-above p s.loaded climbs (initializers p s.loaded class) class m.class there (field-above p s.loaded climbs class r.member m is_found)
      (initializers-due p s.loaded climbs class)))
      (λ same. field-object p bare r.member m (ap (λ c. resolved_field p c r.member) (sym same) ∙ field.is_found))

  get-static-due : (r : Reference) (l : Locals) (o : Operands) → Whole r.class → Due (begun_by p s.loaded (Getstatic r)) (gets_static p r s l o)
  get-static-due r l o whole =
      let ms = begun_by p s.loaded (Getstatic r) in
      unless-due (IsField r) ms (named_field p s.loaded true r) (λ m. pushes_static p m s l o) (field-good r whole)
      (λ m field. initialized-due ms m.class (done s (pushes (option_map as_value (static_at s (static_field m))) l o)) (field-due r m field)
      (by ms (option_map as_value (static_at s (static_field m)))))
    where
      by : (ms : List ℕ) (v : Option Value) → Begins p s.loaded ms (pushes v l o)
      by ms None = tt
      by ms (Some v) = tt

  put-static-due : (r : Reference) (l : Locals) (o : Operands) → Whole r.class → Due (begun_by p s.loaded (Putstatic r)) (puts_static p r s l o)
  put-static-due r l o whole =
      let ms = begun_by p s.loaded (Putstatic r) in
      unless-due (IsField r) ms (named_field p s.loaded true r) (λ m. class_initialized p m.class s (sets_static m (field_held (kind_by r) o) s l o)) (field-good r whole)
      (λ m field. initialized-due ms m.class (sets_static m (field_held (kind_by r) o) s l o) (field-due r m field) (by ms m (field_held (kind_by r) o)))
    where
      by : (ms : List ℕ) (m : MemberPlace) (d : Option Datum) → Due ms (sets_static m d s l o)
      by ms m None = tt
      by ms m (Some d) = tt

  -- ---- what is invoked

  answer-due : (ms : List ℕ) (a : Answer) (l : Locals) (below : Operands) → Begins p s.loaded ms (outcome_of a l below)
  answer-due ms (answer.Value d) l below = tt
  answer-due ms (answer.Exit status) l below = tt
  answer-due ms answer.Bad l below = tt
  answer-due ms (answer.Throws class) l below = by (class == out_of_memory_error)
    where
      of : (o : Option (List ℕ)) → Begins p s.loaded ms (option_map_or (λ name. Raises name None) o (Breaks false))
      of None = tt
      of (Some name) = tt

      by : (b : Bool) → Begins p s.loaded ms (let q : Outcome = if b then Throws 1 else option_map_or (λ name. Raises name None) (slice_get built_in_names class) (Breaks false) in q)
      by true = tt
      by false = of (slice_get built_in_names class)

  native-due : (ms : List ℕ) (r : Option Reference) (args : List Datum) (l : Locals) (below : Operands) → Due ms (runs_native w r args s l below)
  native-due ms r args l below = by (option_and_then native_number r)
    where
      by : (o : Option ℕ) → Due ms (option_map_or (λ number. runs_number w number args s l below) o (done s (Breaks false)))
      by None = tt
      by (Some number) = answer-due ms (answer_by number (kinds_in w.program s.loaded) args (seen_by_natives w s)) l below

  number-due : (ms : List ℕ) (m : MemberPlace) (o : Option ℕ) (args : List Datum) (l : Locals) (below : Operands)
      → ((n : ℕ) → o ≡ Some n → (is_among n ms ≡ true) × (is_some (place_of_method p n) ≡ true)) → Due ms (invokes_number w m o args s l below)
  number-due ms m (Some n) args l below there = there n refl
  number-due ms m None args l below there =
      chosen ms (nat_lt m.class (user_count p)) (done s (Raises unsatisfied_link None)) (runs_native w (method_reference p m) args s l below) tt
      (native-due ms (method_reference p m) args l below)

  selected-due : (ms : List ℕ) (o : Option MemberPlace) (args : List Datum) (l : Locals) (below : Operands)
      → ((n : ℕ) → is_among n (method_coded p o) ≡ true → is_among n ms ≡ true) → Due ms (invokes_selected w o args s l below)
  selected-due ms None args l below there = tt
  selected-due ms (Some m) args l below there =
      chosen ms (is_abstract p m) (done s (Raises abstract_method None)) (invokes_number w m (number_of_method p m.class m.position) args s l below) tt
      (number-due ms m (number_of_method p m.class m.position) args l below
      (λ n e. (there n (ap (λ o. is_among n (option_to_list o)) e ∙ ap (λ b. b || false) (equals_itself n)), number-place p m.class m.position n e)))

  -- ---- invokestatic

  static-due : (r : Reference) (l : Locals) (o : Operands) → Whole r.class → Due (begun_by p s.loaded (Invokestatic r)) (invokes_static_method w r s l o)
  static-due r l o whole =
      let ms = begun_by p s.loaded (Invokestatic r) in
      unless-due (IsMethod false true r) ms (named_method p s.loaded false true r)
      (λ m. class_initialized p m.class s (invokes_with_static w m (arguments_by false r.member o) s l o)) (method-good false true r whole)
      (λ m method. initialized-due ms m.class (invokes_with_static w m (arguments_by false r.member o) s l o) (class-due m method)
      (by m method (arguments_by false r.member o)))
    where
      found_is : (class : ℕ) (m : MemberPlace) (method : IsMethod false true r m) → class_of_kind p method.kind ≡ class
          → found_where (is_static p) true (resolved_method p class false r.member) ≡ Some m
      found_is class m method same =
          ap (found_where (is_static p) true) (ap (λ c. resolved_method p c false r.member) (sym same) ∙ method.is_found)
          ∙ ap (λ b. let o : Option MemberPlace = if b then Some m else None in o) method.fits

      class-due : (m : MemberPlace) → IsMethod false true r m → IsDue p s.loaded (begun_by p s.loaded (Invokestatic r)) m.class
      class-due m method =
          named-due r.class method.kind (λ class. begun_static p s.loaded class r) m.class method.is_kind.0
          (λ class same there.
          let is_found : resolved_method p class false r.member ≡ Found m = ap (λ c. resolved_method p c false r.member) (sym same) ∙ method.is_found in
          subst (λ o. IsDue p s.loaded (option_map_or (λ k. coded_at p k ++ initializers p s.loaded class) o []) m.class) (sym (found_is class m method same))
          (λ d k d_there sub e. among-behind k (coded_at p m) (initializers p s.loaded class)
          (due-above p s.loaded climbs (initializers p s.loaded class) class m.class there (method-above p s.loaded climbs class r.member m there is_found)
          (initializers-due p s.loaded climbs class) d k d_there sub e)))
          (λ same. method-object p bare r.member m (ap (λ c. resolved_method p c false r.member) (sym same) ∙ method.is_found))

      own : (m : MemberPlace) (method : IsMethod false true r m) → Names p fit s.loaded r.class method.kind → (n : ℕ) → is_among n (method_coded p (Some m)) ≡ true
          → is_among n (begun_by p s.loaded (Invokestatic r)) ≡ true
      own m method (of_class class small base is_class there plain named) n e =
          ap (λ o. is_among n (option_map_or (λ c. begun_static p s.loaded c r) o [])) named
          ∙ (ap (λ o. is_among n (option_map_or (λ k. coded_at p k ++ initializers p s.loaded class) o [])) (found_is class m method is_class)
          ∙ among-front n (coded_at p m) (initializers p s.loaded class) e)
      own m method (of_array big is_class array_type) n e =
          let stands : m.class ≡ user_count p = method-object p bare r.member m (ap (λ c. resolved_method p c false r.member) (sym is_class) ∙ method.is_found) in
          let none : method_coded p (Some m) ≡ [] = object-coded p bare (Some m) (λ k same. ap (λ (q : MemberPlace). q.class) (sym (same_Some m k same)) ∙ stands) in
          absurd (false≢true (sym (ap (is_among n) none) ∙ e))

      by : (m : MemberPlace) → IsMethod false true r m → (args : Option (List Datum)) → Due (begun_by p s.loaded (Invokestatic r)) (invokes_with_static w m args s l o)
      by m method None = tt
      by m method (Some args) = selected-due (begun_by p s.loaded (Invokestatic r)) (Some m) args l (drop (length args) o) (own m method method.is_kind.0)

  -- ---- invokevirtual, invokeinterface, invokespecial

  -- the object that a call is of
  record IsReceiver (r : Reference) (object : ℕ) : Type 0 where
    instance : is_instance p s.heap object r.class ≡ true

  receiver-good : (object : ℕ) (b : Bool) (otherwise : Outcome) → ((ms : List ℕ) → Begins p s.loaded ms otherwise)
      → Good (λ x. (x ≡ object) × (b ≡ true)) (receiver object b otherwise)
  receiver-good object b otherwise idle = by (object == 0) b
    where
      by : (null b : Bool) → Good (λ x. (x ≡ object) × (b ≡ true)) (if null then Err (Raises null_pointer None) else if b then Ok object else Err otherwise)
      by true b = λ ms. tt
      by false true = (refl, refl)
      by false false = idle

  not-of-class : (by : Selecting) (ms : List ℕ) → Begins p s.loaded ms (not_of_class by)
  not-of-class Virtual ms = tt
  not-of-class OfInterface ms = tt
  not-of-class (Special caller interface) ms = tt

  -- the receiver's class, where the named class is known
  data HasReceiver (name : List ℕ) (kind x : ℕ) : Type 0 where
    in_class : (class : ℕ) → class_of_kind p kind ≡ class → loaded_class_named p s.loaded name ≡ Some class → IsLoaded s.loaded x → is_subtype p x class ≡ true → HasReceiver name kind x
    in_array : x ≡ user_count p → HasReceiver name kind x

  has-receiver : (name : List ℕ) (kind : ℕ) (object : ℕ) → IsKind name kind → is_instance p s.heap object name ≡ true → HasReceiver name kind (class_of p s object)
  has-receiver name kind object is_kind e = by (kind_at object s.heap) refl (ap (is_below_kind p (kind_at object s.heap)) (sym is_kind.1) ∙ e)
    where
      of : (lower : ℕ) → IsLoaded s.loaded (class_of_kind p lower) → Names p fit s.loaded name kind → is_subkind p (kind_parts lower) (kind_parts kind) ≡ true
          → HasReceiver name kind (class_of_kind p lower)
      of lower there (of_array big is_class array_type) sub = in_array (sub-array p fit lower kind big sub)
      of lower there (of_class class small base is_class class_there plain named) sub = received (sub-class p fit lower kind class small base sub s.loaded)
        where
          received : Receives p fit s.loaded class (class_of_kind p lower) → HasReceiver name kind (class_of_kind p lower)
          received (receives_class above) = in_class class is_class named there above
          received (receives_array is_object) = in_array is_object

      by : (o : Option ℕ) → kind_at object s.heap ≡ o → is_below_kind p o (Some kind) ≡ true → HasReceiver name kind (option_map_or (class_of_kind p) o (user_count p))
      by None at sub = absurd (false≢true sub)
      by (Some lower) at sub = of lower (object-usable p s.loaded s.heap object lower is.objects at).of_class is_kind.0 sub

  -- what is selected from the receiver's class
  selection-due : (by : Selecting) (r : Reference) (m : MemberPlace) (x : ℕ) (method : IsMethod (names_interface by) false r m)
      → ((member_found : MemberPlace) → x ≡ user_count p → selected_by p by m x ≡ Some member_found → member_found.class ≡ user_count p)
      → HasReceiver r.class method.kind x → (n : ℕ) → is_among n (method_coded p (selected_by p by m x)) ≡ true
      → is_among n (where_loaded p s.loaded r.class
      (λ class. option_map_or (selections p s.loaded class by) (found_where (is_static p) false (resolved_method p class (names_interface by) r.member)) [])) ≡ true
  selection-due by r m x method of_object (in_array is_object) n e =
      let none : method_coded p (selected_by p by m x) ≡ [] = object-coded p bare (selected_by p by m x) (λ member_found is_found. of_object member_found is_object is_found) in
      absurd (false≢true (sym (ap (is_among n) none) ∙ e))
  selection-due by r m x method of_object (in_class class is_class named there above) n e =
      let found_is : found_where (is_static p) false (resolved_method p class (names_interface by) r.member) ≡ Some m =
      ap (found_where (is_static p) false) (ap (λ c. resolved_method p c (names_interface by) r.member) (sym is_class) ∙ method.is_found)
      ∙ ap (λ b. let o : Option MemberPlace = if b then Some m else None in o) method.fits in
      ap (λ o. is_among n (option_map_or (λ c. option_map_or (selections p s.loaded c by) (found_where (is_static p) false (resolved_method p c (names_interface by) r.member)) []) o [])) named
      ∙ (ap (λ o. is_among n (option_map_or (selections p s.loaded class by) o [])) found_is
      ∙ among-flat (λ c. method_coded p (selected_by p by m c)) n x (λ c. x == c) (filter (λ lower. is_subtype p lower class) s.loaded)
      (among-filter (λ lower. is_subtype p lower class) x s.loaded there above)
      (λ c same. ap (λ k. is_among n (method_coded p (selected_by p by m k))) (sym (eqb-true x c same)) ∙ e))

  -- what invokespecial takes
  special-due : (caller : List ℕ) (interface : Bool) (r : Reference) (m : MemberPlace) (x : ℕ) (method : IsMethod interface false r m)
      → Names p fit s.loaded r.class method.kind → (n : ℕ) → is_among n (method_coded p (selected_by p (Special caller interface) m x)) ≡ true
      → is_among n (begun_by p s.loaded (Invokespecial caller r interface)) ≡ true
  special-due caller interface r m x method names n e = by names
    where
      of : (class : ℕ) → class_of_kind p method.kind ≡ class → is_among n (begun_on p s.loaded class (Special caller interface) r) ≡ true
      of class same =
          let found_is : found_where (is_static p) false (resolved_method p class interface r.member) ≡ Some m =
          ap (found_where (is_static p) false) (ap (λ c. resolved_method p c interface r.member) (sym same) ∙ method.is_found)
          ∙ ap (λ b. let o : Option MemberPlace = if b then Some m else None in o) method.fits in
          ap (λ o. is_among n (option_map_or (invoked_by p s.loaded class (Special caller interface)) o [])) found_is ∙ e

      by : Names p fit s.loaded r.class method.kind → is_among n (begun_by p s.loaded (Invokespecial caller r interface)) ≡ true
      by (of_class class small base is_class there plain named) =
          ap (λ b. is_among n (option_map_or (λ c. begun_on p s.loaded c (Special caller interface) r) (if b then Some (user_count p) else loaded_class_named p s.loaded r.class) [])) plain
          ∙ (ap (λ o. is_among n (option_map_or (λ c. begun_on p s.loaded c (Special caller interface) r) o [])) named ∙ of class is_class)
      by (of_array big is_class array_type) =
          ap (λ b. is_among n (option_map_or (λ c. begun_on p s.loaded c (Special caller interface) r) (if b then Some (user_count p) else loaded_class_named p s.loaded r.class) [])) array_type
          ∙ of (user_count p) is_class

  -- the methods that a call of a kind can begin
  abbrev called : Selecting → Reference → List ℕ
  called Virtual r = begun_by p s.loaded (Invokevirtual r)
  called OfInterface r = begun_by p s.loaded (Invokeinterface r)
  called (Special caller interface) r = begun_by p s.loaded (Invokespecial caller r interface)

  call-due : (by : Selecting) (r : Reference) (m : MemberPlace) (x : ℕ) (method : IsMethod (names_interface by) false r m) → HasReceiver r.class method.kind x
      → (n : ℕ) → is_among n (method_coded p (selected_by p by m x)) ≡ true → is_among n (called by r) ≡ true
  call-due Virtual r m x method receives n e =
      selection-due Virtual r m x method
      (λ k is_object is_found. nearest-object p bare false m k (ap (λ c. method_selected p c false m) (sym is_object) ∙ is_found)) receives n e
  call-due OfInterface r m x method receives n e =
      selection-due OfInterface r m x method
      (λ k is_object is_found. nearest-object p bare true m k (ap (λ c. method_selected p c true m) (sym is_object) ∙ is_found)) receives n e
  call-due (Special caller interface) r m x method receives n e = special-due caller interface r m x method method.is_kind.0 n e

  invoked-due : (by : Selecting) (r : Reference) (l : Locals) (o : Operands) → Whole r.class → Due (called by r) (invokes_instance w by r s l o)
  invoked-due by r l o whole =
      unless-due (IsMethod (names_interface by) false r) (called by r) (named_method p s.loaded (names_interface by) false r)
      (λ m. invokes_on w by r m (arguments_by true r.member o) s l o) (method-good (names_interface by) false r whole)
      (λ m method. on m method (arguments_by true r.member o))
    where
      on : (m : MemberPlace) → IsMethod (names_interface by) false r m → (args : Option (List Datum)) → Due (called by r) (invokes_on w by r m args s l o)
      on m method None = tt
      on m method (Some args) =
          unless-due (λ x. (x ≡ receiver_in args) × (is_instance p s.heap (receiver_in args) r.class ≡ true)) (called by r)
          (receiver (receiver_in args) (is_instance p s.heap (receiver_in args) r.class) (not_of_class by))
          (λ object. invokes_selected w (selected_by p by m (class_of p s object)) args s l (drop (length args) o))
          (receiver-good (receiver_in args) (is_instance p s.heap (receiver_in args) r.class) (not_of_class by) (not-of-class by))
          (λ object same. selected-due (called by r) (selected_by p by m (class_of p s object)) args l (drop (length args) o)
          (call-due by r m (class_of p s object) method
          (has-receiver r.class method.kind object method.is_kind (ap (λ x. is_instance p s.heap x r.class) same.0 ∙ same.1))))

  -- ---- instructions that begin nothing

  idle-named : {A : Type 0} (ms : List ℕ) (r : Result A Outcome) (rule : A → Done) → Good (λ x. Unit {0}) r → ((x : A) → Due ms (rule x)) → Due ms (unless_refused s r rule)
  idle-named ms r rule good next = unless-due (λ x. Unit {0}) ms r rule good (λ x any. next x)

  kind-any : (name : List ℕ) → Good (λ kind. Unit {0}) (resolved_kind p s.loaded name)
  kind-any name = by (load_of p s.loaded name).fault (kind_named p name)
    where
      by : (o : Option Fault) (k : Option ℕ) → Good (λ kind. Unit {0}) (kind_unless o k)
      by (Some fault) k = λ ms. tt
      by None None = λ ms. tt
      by None (Some kind) = tt

  field-any : (r : Reference) → Good (λ m. Unit {0}) (named_field p s.loaded false r)
  field-any r =
      then-good (λ kind. Unit {0}) (λ m. Unit {0}) (resolved_kind p s.loaded r.class)
      (λ kind. member_found (resolved_field p (class_of_kind p kind) r.member) >>= λ m. where_fitting (beq (is_static_field p m) false) m) (kind-any r.class)
      (λ kind any.
      then-good (λ m. Unit {0}) (λ m. Unit {0}) (member_found (resolved_field p (class_of_kind p kind) r.member)) (λ m. where_fitting (beq (is_static_field p m) false) m)
      (found-any (resolved_field p (class_of_kind p kind) r.member)) (λ m all. fitting-any (beq (is_static_field p m) false) m))
    where
      found-any : (r : Resolution) → Good (λ m. Unit {0}) (member_found r)
      found-any (Found m) = tt
      found-any (Fails error) = λ ms. tt

      fitting-any : (b : Bool) (m : MemberPlace) → Good (λ k. Unit {0}) (where_fitting b m)
      fitting-any true m = tt
      fitting-any false m = λ ms. tt

  owner-any : (object : ℕ) (b : Bool) → Good (λ x. Unit {0}) (receiver object b (Breaks false))
  owner-any object b = by (object == 0) b
    where
      by : (null b : Bool) → Good (λ x. Unit {0}) (let r : Result ℕ Outcome = if null then Err (Raises null_pointer None) else if b then Ok object else Err (Breaks false) in r)
      by true b = λ ms. tt
      by false true = tt
      by false false = λ ms. tt

  replaces-idle : (ms : List ℕ) (taken : ℕ) (v : Option Value) (l : Locals) (o : Operands) → Begins p s.loaded ms (replaces taken v l o)
  replaces-idle ms taken None l o = tt
  replaces-idle ms taken (Some v) l o = tt

  get-idle : (ms : List ℕ) (r : Reference) (l : Locals) (o : Operands) → Due ms (gets_instance p r s l o)
  get-idle ms r l o = idle-named ms (named_field p s.loaded false r) (λ m. gets_of p r m (ref_of o) s l o) (field-any r) (λ m. by m (ref_of o))
    where
      by : (m : MemberPlace) (object : Option ℕ) → Due ms (gets_of p r m object s l o)
      by m None = tt
      by m (Some object) =
          idle-named ms (field_owner p s r m object) (λ owner. done s (replaces 1 (option_map as_value (slot_at owner (slot_of p m) s.heap)) l o))
          (owner-any object (has_field p s r m object)) (λ owner. replaces-idle ms 1 (option_map as_value (slot_at owner (slot_of p m) s.heap)) l o)

  put-idle : (ms : List ℕ) (r : Reference) (l : Locals) (o : Operands) → Due ms (puts_instance p r s l o)
  put-idle ms r l o = idle-named ms (named_field p s.loaded false r) (λ m. puts_into p r m (putting_of (kind_by r) o) s l o) (field-any r) (λ m. by m (putting_of (kind_by r) o))
    where
      by : (m : MemberPlace) (putting : Option Putting) → Due ms (puts_into p r m putting s l o)
      by m None = tt
      by m (Some x) =
          idle-named ms (field_owner p s r m x.object) (λ owner. done (record s { heap = with_slot_at owner (slot_of p m) x.datum s.heap }) (GoesOn l (drop 2 o) Next))
          (owner-any x.object (has_field p s r m x.object)) (λ owner. tt)

  cast-idle : (ms : List ℕ) (name : List ℕ) (l : Locals) (o : Operands) → Due ms (casts p name s l o)
  cast-idle ms name l o =
      chosen ms (is_null o) (done s (GoesOn l o Next)) (unless_refused s (resolved_kind p s.loaded name) (λ kind. done s (casts_to p name (ref_of o) s l o))) tt
      (idle-named ms (resolved_kind p s.loaded name) (λ kind. done s (casts_to p name (ref_of o) s l o)) (kind-any name) (λ kind. by (ref_of o)))
    where
      of : (b : Bool) → Begins p s.loaded ms (let outcome : Outcome = if b then GoesOn l o Next else Raises class_cast None in outcome)
      of true = tt
      of false = tt

      by : (object : Option ℕ) → Due ms (done s (casts_to p name object s l o))
      by None = tt
      by (Some object) = of (is_instance p s.heap object name)

  instance-idle : (ms : List ℕ) (name : List ℕ) (l : Locals) (o : Operands) → Due ms (tells_instance p name s l o)
  instance-idle ms name l o =
      chosen ms (is_null o) (done s (replaces 1 (Some (Int (pos 0))) l o)) (unless_refused s (resolved_kind p s.loaded name) (λ kind. done s (answers p name (ref_of o) s l o))) tt
      (idle-named ms (resolved_kind p s.loaded name) (λ kind. done s (answers p name (ref_of o) s l o)) (kind-any name) (λ kind. by (ref_of o)))
    where
      by : (object : Option ℕ) → Due ms (done s (answers p name object s l o))
      by None = tt
      by (Some _) = tt

  array-idle : (ms : List ℕ) (kind : ℕ) (count : Option ℤ) (l : Locals) (o : Operands) → Due ms (makes kind count s l o)
  array-idle ms kind None l o = tt
  array-idle ms kind (Some (negsuc n)) l o = tt
  array-idle ms kind (Some (pos count)) l o =
      chosen ms (nat_le (s.heap.used + (1 + count)) s.heap.limit)
      (record { shared = record s { heap = with_array kind (datum.Int (pos 0)) count s.heap }; wrote = []; outcome = GoesOn l (Ref (next_number s.heap) ∷ drop 1 o) Next })
      (done s (Throws 1)) tt tt

  allocates-idle : (ms : List ℕ) (slots : ℕ) (make : HeapView → HeapView) (taken : ℕ) (l : Locals) (o : Operands) → Due ms (allocates slots make taken s l o)
  allocates-idle ms slots make taken l o =
      chosen ms (nat_le (s.heap.used + slots) s.heap.limit) (done (record s { heap = make s.heap }) (GoesOn l (Ref (next_number s.heap) ∷ drop taken o) Next)) (done s (Throws 1)) tt tt

  multi-idle : (ms : List ℕ) (name : List ℕ) (dimensions : ℕ) (l : Locals) (o : Operands) → Due ms (makes_multi p name dimensions s l o)
  multi-idle ms name dimensions l o =
      idle-named ms (resolved_kind p s.loaded name) (λ kind. makes_by_counts kind dimensions (counts_of dimensions o) s l o) (kind-any name) (λ kind. by kind (counts_of dimensions o))
    where
      of : (kind : ℕ) (lengths : Option (List ℕ)) → Due ms (makes_arrays kind dimensions lengths s l o)
      of kind None = tt
      of kind (Some lengths) = allocates-idle ms (slots_of_arrays lengths) (with_arrays kind lengths) dimensions l o

      by : (kind : ℕ) (counts : Option (List ℤ)) → Due ms (makes_by_counts kind dimensions counts s l o)
      by kind None = tt
      by kind (Some counts) = of kind (lengths_of counts)

  -- ---- every instruction that names something

  whole-by : (n : SymbolicReference) (o : Operands) → newly_loaded p s.loaded n o ≡ [] → resolves n o ≡ true → Whole (resolved_name n)
  whole-by n o nothing does = sym (newly-loaded p s.loaded n o does) ∙ (ap (λ more. s.loaded ++ more) nothing ∙ append-nil s.loaded)

  named-rule : (n : SymbolicReference) (l : Locals) (o : Operands) → (resolves n o ≡ true → Whole (resolved_name n)) → Due (begun_by p s.loaded n) (does_named w n s l o)
  named-rule (New name) l o whole = new-due name l o (whole refl)
  named-rule (Getfield r) l o whole = get-idle [] r l o
  named-rule (Putfield r) l o whole = put-idle [] r l o
  named-rule (Getstatic r) l o whole = get-static-due r l o (whole refl)
  named-rule (Putstatic r) l o whole = put-static-due r l o (whole refl)
  named-rule (Invokevirtual r) l o whole = invoked-due Virtual r l o (whole refl)
  named-rule (Invokespecial caller r interface) l o whole = invoked-due (Special caller interface) r l o (whole refl)
  named-rule (Invokestatic r) l o whole = static-due r l o (whole refl)
  named-rule (Invokeinterface r) l o whole = invoked-due OfInterface r l o (whole refl)
  named-rule (Checkcast name) l o whole = cast-idle [] name l o
  named-rule (Instanceof name) l o whole = instance-idle [] name l o
  named-rule (Anewarray name) l o whole =
      idle-named [] (resolved_kind p s.loaded name) (λ kind. makes (array_over kind) (int_of o) s l o) (kind-any name) (λ kind. array-idle [] (array_over kind) (int_of o) l o)
  named-rule (LdcClass name) l o whole =
      idle-named [] (resolved_kind p s.loaded name) (λ kind. pushes_object_of kind s l o) (kind-any name) (λ kind. answer-due [] (answer_of_class kind s.made s.heap) l o)
  named-rule (Multianewarray name dimensions) l o whole = multi-idle [] name dimensions l o

  -- ---- every instruction

  stores-idle : (ms : List ℕ) (access : Access) (r : ℕ) (i : ℤ) (d : Datum) (l : Locals) (o : Operands) → Due ms (stores_at p access r i d s l o)
  stores-idle ms ToNull r i d l o = tt
  stores-idle ms ToAnother r i d l o = tt
  stores-idle ms Outside r i d l o = tt
  stores-idle ms (Inside slot) r i d l o =
      chosen ms (fits_array p d r s.heap) (record { shared = record s { heap = with_slot_at r slot d s.heap }; wrote = []; outcome = GoesOn l (drop 3 o) Next })
      (done s (Raises array_store None)) tt tt

  store-idle : (ms : List ℕ) (k : Kind) (storing : Option Storing) (l : Locals) (o : Operands) → Due ms (stores_element p k storing s l o)
  store-idle ms k None l o = tt
  store-idle ms k (Some x) l o = stores-idle ms (access_to k x.array x.index s.heap) x.array x.index x.datum l o

  pub does-due : (op : Operation Local) (l : Locals) (o : Operands) → loads w op s o ≡ [] → Begins p s.loaded (begun_by_operation p s.loaded op) (does w op s l o).outcome
  does-due (Within i) l o nothing = idle-begins p s.loaded [] (within i l o) (within-idle i l o)
  does-due (operation.Named n) l o nothing = named-rule n l o (whole-by n o nothing)
  does-due Athrow l o nothing = idle-begins p s.loaded [] (throws w s (ref_of o)) (throws-idle w s (ref_of o))
  does-due Monitor l o nothing = idle-begins p s.loaded [] (watches (ref_of o) l o) (watches-idle (ref_of o) l o)
  does-due (Newarray kind) l o nothing = array-idle [] kind (int_of o) l o
  does-due Arraylength l o nothing = idle-begins p s.loaded [] (measures (ref_of o) s l o) (measures-idle (ref_of o) s l o)
  does-due (LoadElement k) l o nothing = idle-begins p s.loaded [] (loads_element k (array_element_of o) s l o) (element-idle k (array_element_of o) s l o)
  does-due (StoreElement k) l o nothing = store-idle [] k (storing_of k o) l o
  does-due (LdcString units) l o nothing =
      chosen [] (can_intern units s.heap) (done (record s { heap = with_interned (kind_for p string) units s.heap }) (GoesOn l (Ref (interned_number units s.heap) ∷ o) Next))
      (done s (Throws 1)) tt tt
