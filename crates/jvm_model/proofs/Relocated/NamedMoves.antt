-- What an instruction asks for that names a class, a field or a method moves with its return addresses, and so does
-- what it loads.
use Rattle.std.proofs.Common.{◌≡◌, ℕ, zero, suc, ◌+◌, drop, length, map, Bool, true, false, not, List, [], ◌∷◌, Option, Some, None, nat_le, nat_lt, ◌==◌, if◌then◌else◌, ℤ, refl, ap, ◌∙◌}
use Rattle.std.specs.Prelude.{pos, Result, Ok, Err, slice_get}
use Rattle.std.specs.Bool.{beq}
use Rattle.std.specs.Option.{option_map, option_map_or, option_and_then}
use Rattle.std.proofs.lemmas.List.{drop-map}
use Rattle.heap_objects.specs.declared.datum.Datum.TheVariants as datum
use Rattle.heap_objects.specs.declared.Value.TheVariants.{Int, Ref}
use Rattle.heap_objects.specs.Heaps.{HeapView, interned_number, next_number, slot_at, with_instance, with_interned, with_slot_at, with_text}
use Rattle.const_pool.specs.declared.descriptor.Kind.{Kind}
use Rattle.const_pool.specs.declared.descriptor.Shape.{Shape}
use Rattle.const_pool.specs.BuiltIn.{built_in_names}
use Rattle.const_pool.specs.References.{NameAndType, Reference}
use Rattle.base_classes.specs.Natives.{native_number}
use Rattle.native_effects.specs.declared.effects.answer.Answer.{Answer}
use Rattle.native_effects.specs.declared.effects.answer.Answer.TheVariants as answer
use Rattle.native_ops.specs.Methods.Calls.{answer_by}
use Rattle.native_effects.specs.Effects.Making.{answer_of_class}
use Rattle.native_effects.specs.Inputs.Numbers.{out_of_memory_error}
use Rattle.jvm_model.specs.Basis.Data.{Datum, Locals, Operands, Program, Shared, World, Next, Outcome, GoesOn, Throws, Raises, Breaks, Done}
use Rattle.jvm_model.specs.Basis.Descriptors.{shape_of}
use Rattle.jvm_model.specs.Classes.Layouts.{layout}
use Rattle.jvm_model.specs.Classes.Load.{Fault, load_of}
use Rattle.jvm_model.specs.Classes.Lookup.{MemberPlace, Resolution, Found, Fails, resolved_field, resolved_method}
use Rattle.jvm_model.specs.Classes.Selection.{is_abstract, is_static}
use Rattle.jvm_model.specs.Basis.KindNumbers.{user_count}
use Rattle.jvm_model.specs.Classes.Kinds.{kind_named}
use Rattle.jvm_model.specs.Basis.Programs.{number_of_method}
use Rattle.jvm_model.specs.Basis.Values.{as_value, int_of, ref_of, arguments, with_value}
use Rattle.jvm_model.specs.Basis.SharedState.{phase_of, class_of, class_of_kind, kind_for, static_at, string, with_static, null_pointer}
use Rattle.jvm_model.specs.Instructions.LocalRules.{pushes, replaces}
use Rattle.jvm_model.specs.Instructions.ObjectRules.{done, makes}
use Rattle.jvm_model.specs.Instructions.SymbolicReference.{SymbolicReference, New, Getfield, Putfield, Getstatic, Putstatic, Invokevirtual, Invokespecial, Invokestatic, Invokeinterface, Checkcast, Instanceof, Anewarray, Multianewarray, LdcClass, resolved_name, is_null, resolves, newly_loaded, ◌>>=◌, unless_refused, kind_unless, resolved_kind, member_found, where_fitting, receiver, is_instance}
use Rattle.jvm_model.specs.Instructions.ReferenceRules.{does_named}
use Rattle.jvm_model.specs.Instructions.FieldRules.{is_static_field, named_field, kind_by, field_narrowed, field_held, static_field, gets_static, sets_static, puts_static, slot_of, has_field, field_owner, gets_of, gets_instance, Putting, putting_of, puts_into, puts_instance}
use Rattle.jvm_model.specs.Instructions.ConstantRules.{pushes_object_of, pushes_string}
use Rattle.jvm_model.specs.Running.Constants.{can_intern}
use Rattle.jvm_model.specs.Instructions.CreationRules.{allocates, is_text_class, has_no_instances, instantiation_error, zero_of, makes_object, makes_instance, makes_new, array_over, makes_array_of, counts_from, counts_of, lengths_of, slots_of_arrays, with_arrays, makes_arrays, makes_by_counts, makes_multi, class_cast, casts_to, casts, int_for, answers, tells_instance}
use Rattle.jvm_model.specs.Instructions.InvocationRules.{named_method, with_receiver, arguments_by, receiver_in, abstract_method, unsatisfied_link, method_reference, invokes_native, invokes_number, invokes_selected, invokes_with_static, invokes_static_method, Selecting, Virtual, OfInterface, Special, names_interface, not_of_class, selected_by, invokes_on, invokes_instance}
use Rattle.jvm_model.specs.Instructions.NativeRules.{kinds_in, outcome_of, runs_native, runs_number, seen_by_natives, thrown_by}
use Rattle.jvm_model.specs.Codes.Moved.{moved_value, moved_locals, moved_operands, moved_outcome, moved_done}
use Rattle.jvm_model.proofs.Relocated.WithinMoves.{found-moves, kind-moves, pushed-moves}
use Rattle.jvm_model.proofs.Relocated.ObjectMoves.{chosen-moves, chosen_outcome-moves, ready-moves, arguments-moves, int_of-moves, ref_of-moves, goes_on-moves, replaces-moves, makes-moves}

module _ (h : ℕ → ℕ) where
  -- ---- what is found step by step

  -- what a refused step asks for has no place
  abbrev IsFixed : {A : Type 0} → Result A Outcome → Type 0
  IsFixed (Ok x) = Unit {0}
  IsFixed (Err outcome) = outcome ≡ moved_outcome h outcome

  refused-moves : {A : Type 0} (s : Shared) (r : Result A Outcome) (rule' rule : A → Done) → IsFixed r → ((x : A) → rule' x ≡ moved_done h (rule x))
      → unless_refused s r rule' ≡ moved_done h (unless_refused s r rule)
  refused-moves s (Ok x) rule' rule fixed moves = moves x
  refused-moves s (Err outcome) rule' rule fixed moves = ap (done s) fixed

  then-fixed : {A B : Type 0} (r : Result A Outcome) (f : A → Result B Outcome) → IsFixed r → ((x : A) → IsFixed (f x)) → IsFixed (r >>= f)
  then-fixed (Ok x) f fixed rest = rest x
  then-fixed (Err outcome) f fixed rest = fixed

  chosen-fixed : {A : Type 0} (b : Bool) (x y : Result A Outcome) → IsFixed x → IsFixed y → IsFixed (if b then x else y)
  chosen-fixed true x y p q = p
  chosen-fixed false x y p q = q

  kind_unless-fixed : (fault : Option Fault) (kind : Option ℕ) → IsFixed (kind_unless fault kind)
  kind_unless-fixed (Some fault) kind = refl
  kind_unless-fixed None None = refl
  kind_unless-fixed None (Some kind) = tt

  kind-fixed : (p : Program) (loaded name : List ℕ) → IsFixed (resolved_kind p loaded name)
  kind-fixed p loaded name = kind_unless-fixed (load_of p loaded name).fault (kind_named p name)

  found-fixed : (r : Resolution) → IsFixed (member_found r)
  found-fixed (Found m) = tt
  found-fixed (Fails error) = refl

  fitting-fixed : (fits : Bool) (m : MemberPlace) → IsFixed (where_fitting fits m)
  fitting-fixed true m = tt
  fitting-fixed false m = refl

  receiver-fixed : (object : ℕ) (of_class : Bool) (otherwise : Outcome) → otherwise ≡ moved_outcome h otherwise → IsFixed (receiver object of_class otherwise)
  receiver-fixed object of_class otherwise fixed =
      chosen-fixed (object == 0) (Err (Raises null_pointer None)) (if of_class then Ok object else Err otherwise) refl
      (chosen-fixed of_class (Ok object) (Err otherwise) tt fixed)

  -- ---- static fields

  field-fixed : (p : Program) (loaded : List ℕ) (static : Bool) (r : Reference) → IsFixed (named_field p loaded static r)
  field-fixed p loaded static r =
      let fits : MemberPlace → Result MemberPlace Outcome = λ m. where_fitting (beq (is_static_field p m) static) m in
      let of_kind : ℕ → Resolution = λ kind. resolved_field p (class_of_kind p kind) r.member in
      then-fixed (resolved_kind p loaded r.class) (λ kind. member_found (of_kind kind) >>= fits) (kind-fixed p loaded r.class)
      (λ kind. then-fixed (member_found (of_kind kind)) fits (found-fixed (of_kind kind)) (λ m. fitting-fixed (beq (is_static_field p m) static) m))

  held-moves : (k : Kind) (o : Operands) → field_held k (moved_operands h o) ≡ field_held k o
  held-moves k [] = refl
  held-moves k (v ∷ below) = ap (option_map (field_narrowed k)) (kind-moves h k v)

  gets_static-moves : (p : Program) (r : Reference) (s : Shared) (l : Locals) (o : Operands) → gets_static p r s (moved_locals h l) (moved_operands h o) ≡ moved_done h (gets_static p r s l o)
  gets_static-moves p r s l o =
      refused-moves s (named_field p s.loaded true r) _ _ (field-fixed p s.loaded true r)
      (λ m. ready-moves h p (phase_of s m.class) m.class s (done s (pushes (option_map as_value (static_at s (static_field m))) l o)) _
      (ap (done s) (pushed-moves h (static_at s (static_field m)) l o)))

  sets_static-moves : (m : MemberPlace) (d : Option Datum) (s : Shared) (l : Locals) (o : Operands) → sets_static m d s (moved_locals h l) (moved_operands h o) ≡ moved_done h (sets_static m d s l o)
  sets_static-moves m None s l o = refl
  sets_static-moves m (Some d) s l o = ap (done (with_static s (static_field m) d)) (goes_on-moves h 1 l o)

  puts_static-moves : (p : Program) (r : Reference) (s : Shared) (l : Locals) (o : Operands) → puts_static p r s (moved_locals h l) (moved_operands h o) ≡ moved_done h (puts_static p r s l o)
  puts_static-moves p r s l o =
      let held : Option Datum = field_held (kind_by r) o in
      refused-moves s (named_field p s.loaded true r) _ _ (field-fixed p s.loaded true r)
      (λ m. ready-moves h p (phase_of s m.class) m.class s (sets_static m held s l o) _
      (ap (λ d. sets_static m d s (moved_locals h l) (moved_operands h o)) (held-moves (kind_by r) o) ∙ sets_static-moves m held s l o))

  -- ---- instance fields

  owner-fixed : (p : Program) (s : Shared) (r : Reference) (m : MemberPlace) (object : ℕ) → IsFixed (field_owner p s r m object)
  owner-fixed p s r m object = receiver-fixed object (has_field p s r m object) (Breaks false) refl

  gets_of-moves : (p : Program) (r : Reference) (m : MemberPlace) (object : Option ℕ) (s : Shared) (l : Locals) (o : Operands)
      → gets_of p r m object s (moved_locals h l) (moved_operands h o) ≡ moved_done h (gets_of p r m object s l o)
  gets_of-moves p r m None s l o = refl
  gets_of-moves p r m (Some object) s l o =
      refused-moves s (field_owner p s r m object) _ _ (owner-fixed p s r m object)
      (λ owner. (let value : Option Datum = slot_at owner (slot_of p m) s.heap in ap (done s) (replaces-moves h 1 (option_map as_value value) l o (found-moves h value))))

  gets_instance-moves : (p : Program) (r : Reference) (s : Shared) (l : Locals) (o : Operands) → gets_instance p r s (moved_locals h l) (moved_operands h o) ≡ moved_done h (gets_instance p r s l o)
  gets_instance-moves p r s l o =
      refused-moves s (named_field p s.loaded false r) _ _ (field-fixed p s.loaded false r)
      (λ m. ap (λ object. gets_of p r m object s (moved_locals h l) (moved_operands h o)) (ref_of-moves h o) ∙ gets_of-moves p r m (ref_of o) s l o)

  putting-moves : (k : Kind) (o : Operands) → putting_of k (moved_operands h o) ≡ putting_of k o
  putting-moves k (v ∷ Ref r ∷ below) = ap (option_map (λ (d : Datum). record { object = r; datum = field_narrowed k d })) (kind-moves h k v)
  putting-moves k _ = refl

  puts_into-moves : (p : Program) (r : Reference) (m : MemberPlace) (x : Option Putting) (s : Shared) (l : Locals) (o : Operands)
      → puts_into p r m x s (moved_locals h l) (moved_operands h o) ≡ moved_done h (puts_into p r m x s l o)
  puts_into-moves p r m None s l o = refl
  puts_into-moves p r m (Some x) s l o =
      refused-moves s (field_owner p s r m x.object) _ _ (owner-fixed p s r m x.object)
      (λ owner. ap (done (record s { heap = with_slot_at owner (slot_of p m) x.datum s.heap })) (goes_on-moves h 2 l o))

  puts_instance-moves : (p : Program) (r : Reference) (s : Shared) (l : Locals) (o : Operands) → puts_instance p r s (moved_locals h l) (moved_operands h o) ≡ moved_done h (puts_instance p r s l o)
  puts_instance-moves p r s l o =
      let x : Option Putting = putting_of (kind_by r) o in
      refused-moves s (named_field p s.loaded false r) _ _ (field-fixed p s.loaded false r)
      (λ m. ap (λ y. puts_into p r m y s (moved_locals h l) (moved_operands h o)) (putting-moves (kind_by r) o) ∙ puts_into-moves p r m x s l o)

  -- ---- new, anewarray, multianewarray

  allocates-moves : (slots : ℕ) (make : HeapView → HeapView) (taken : ℕ) (s : Shared) (l : Locals) (o : Operands)
      → allocates slots make taken s (moved_locals h l) (moved_operands h o) ≡ moved_done h (allocates slots make taken s l o)
  allocates-moves slots make taken s l o =
      let made : Locals → Operands → Done = λ locals below. done (record s { heap = make s.heap }) (GoesOn locals (Ref (next_number s.heap) ∷ below) Next) in
      chosen-moves h (nat_le (s.heap.used + slots) s.heap.limit) (made l (drop taken o)) _ (done s (Throws 1)) _
      (ap (made (moved_locals h l)) (drop-map (moved_value h) taken o)) refl

  makes_object-moves : (p : Program) (kind class : ℕ) (s : Shared) (l : Locals) (o : Operands) → makes_object p kind class s (moved_locals h l) (moved_operands h o) ≡ moved_done h (makes_object p kind class s l o)
  makes_object-moves p kind class s l o =
      let slots : ℕ = 1 + length (layout p class) in
      let make : HeapView → HeapView = with_instance kind (map zero_of (layout p class)) in
      chosen-moves h (is_text_class p class) (allocates 1 (with_text kind []) 0 s l o) _ (allocates slots make 0 s l o) _
      (allocates-moves 1 (with_text kind []) 0 s l o) (allocates-moves slots make 0 s l o)

  makes_instance-moves : (p : Program) (kind class : ℕ) (s : Shared) (l : Locals) (o : Operands) → makes_instance p kind class s (moved_locals h l) (moved_operands h o) ≡ moved_done h (makes_instance p kind class s l o)
  makes_instance-moves p kind class s l o =
      chosen-moves h (has_no_instances p class) (done s (Raises instantiation_error None)) _ (makes_object p kind class s l o) _ refl (makes_object-moves p kind class s l o)

  makes_new-moves : (p : Program) (name : List ℕ) (s : Shared) (l : Locals) (o : Operands) → makes_new p name s (moved_locals h l) (moved_operands h o) ≡ moved_done h (makes_new p name s l o)
  makes_new-moves p name s l o =
      refused-moves s (resolved_kind p s.loaded name) _ _ (kind-fixed p s.loaded name)
      (λ kind. (let class : ℕ = class_of_kind p kind in ready-moves h p (phase_of s class) class s (makes_instance p kind class s l o) _ (makes_instance-moves p kind class s l o)))

  makes_array_of-moves : (p : Program) (name : List ℕ) (s : Shared) (l : Locals) (o : Operands) → makes_array_of p name s (moved_locals h l) (moved_operands h o) ≡ moved_done h (makes_array_of p name s l o)
  makes_array_of-moves p name s l o =
      refused-moves s (resolved_kind p s.loaded name) _ _ (kind-fixed p s.loaded name)
      (λ kind. ap (λ count. makes (array_over kind) count s (moved_locals h l) (moved_operands h o)) (int_of-moves h o) ∙ makes-moves h (array_over kind) (int_of o) s l o)

  counts-moves : (n : ℕ) (above : List ℤ) (o : Operands) → counts_from n above (moved_operands h o) ≡ counts_from n above o
  counts-moves zero above o = refl
  counts-moves (suc n) above (Int count ∷ below) = counts-moves n (count ∷ above) below
  counts-moves (suc n) above _ = refl

  makes_arrays-moves : (kind dimensions : ℕ) (lengths : Option (List ℕ)) (s : Shared) (l : Locals) (o : Operands)
      → makes_arrays kind dimensions lengths s (moved_locals h l) (moved_operands h o) ≡ moved_done h (makes_arrays kind dimensions lengths s l o)
  makes_arrays-moves kind dimensions None s l o = refl
  makes_arrays-moves kind dimensions (Some lengths) s l o = allocates-moves (slots_of_arrays lengths) (with_arrays kind lengths) dimensions s l o

  makes_by_counts-moves : (kind dimensions : ℕ) (counts : Option (List ℤ)) (s : Shared) (l : Locals) (o : Operands)
      → makes_by_counts kind dimensions counts s (moved_locals h l) (moved_operands h o) ≡ moved_done h (makes_by_counts kind dimensions counts s l o)
  makes_by_counts-moves kind dimensions None s l o = refl
  makes_by_counts-moves kind dimensions (Some counts) s l o = makes_arrays-moves kind dimensions (lengths_of counts) s l o

  makes_multi-moves : (p : Program) (name : List ℕ) (dimensions : ℕ) (s : Shared) (l : Locals) (o : Operands)
      → makes_multi p name dimensions s (moved_locals h l) (moved_operands h o) ≡ moved_done h (makes_multi p name dimensions s l o)
  makes_multi-moves p name dimensions s l o =
      refused-moves s (resolved_kind p s.loaded name) _ _ (kind-fixed p s.loaded name)
      (λ kind. ap (λ counts. makes_by_counts kind dimensions counts s (moved_locals h l) (moved_operands h o)) (counts-moves dimensions [] o)
      ∙ makes_by_counts-moves kind dimensions (counts_of dimensions o) s l o)

  -- ---- checkcast, instanceof

  null-moves : (o : Operands) → is_null (moved_operands h o) ≡ is_null o
  null-moves o = ap (λ member_found. option_map_or (λ r. r == 0) member_found false) (ref_of-moves h o)

  casts_to-moves : (p : Program) (name : List ℕ) (object : Option ℕ) (s : Shared) (l : Locals) (o : Operands)
      → casts_to p name object s (moved_locals h l) (moved_operands h o) ≡ moved_outcome h (casts_to p name object s l o)
  casts_to-moves p name None s l o = refl
  casts_to-moves p name (Some object) s l o = chosen_outcome-moves h (is_instance p s.heap object name) (GoesOn l o Next) _ (Raises class_cast None) _ refl refl

  casts-moves : (p : Program) (name : List ℕ) (s : Shared) (l : Locals) (o : Operands) → casts p name s (moved_locals h l) (moved_operands h o) ≡ moved_done h (casts p name s l o)
  casts-moves p name s l o =
      let casts_by : Option ℕ → Locals → Operands → Done = λ object locals operands. unless_refused s (resolved_kind p s.loaded name) (λ kind. done s (casts_to p name object s locals operands)) in
      ap (λ null. if null then done s (GoesOn (moved_locals h l) (moved_operands h o) Next) else casts_by (ref_of (moved_operands h o)) (moved_locals h l) (moved_operands h o)) (null-moves o)
      ∙ chosen-moves h (is_null o) (done s (GoesOn l o Next)) _ (casts_by (ref_of o) l o) _ refl
      (ap (λ object. casts_by object (moved_locals h l) (moved_operands h o)) (ref_of-moves h o)
      ∙ refused-moves s (resolved_kind p s.loaded name) _ _ (kind-fixed p s.loaded name) (λ kind. ap (done s) (casts_to-moves p name (ref_of o) s l o)))

  answers-moves : (p : Program) (name : List ℕ) (object : Option ℕ) (s : Shared) (l : Locals) (o : Operands)
      → answers p name object s (moved_locals h l) (moved_operands h o) ≡ moved_outcome h (answers p name object s l o)
  answers-moves p name None s l o = refl
  answers-moves p name (Some object) s l o = replaces-moves h 1 (Some (Int (pos (int_for (is_instance p s.heap object name))))) l o refl

  tells_instance-moves : (p : Program) (name : List ℕ) (s : Shared) (l : Locals) (o : Operands) → tells_instance p name s (moved_locals h l) (moved_operands h o) ≡ moved_done h (tells_instance p name s l o)
  tells_instance-moves p name s l o =
      let tells_by : Option ℕ → Locals → Operands → Done = λ object locals operands. unless_refused s (resolved_kind p s.loaded name) (λ kind. done s (answers p name object s locals operands)) in
      let none : Locals → Operands → Outcome = replaces 1 (Some (Int (pos 0))) in
      ap (λ null. if null then done s (none (moved_locals h l) (moved_operands h o)) else tells_by (ref_of (moved_operands h o)) (moved_locals h l) (moved_operands h o)) (null-moves o)
      ∙ chosen-moves h (is_null o) (done s (none l o)) _ (tells_by (ref_of o) l o) _ (ap (done s) (replaces-moves h 1 (Some (Int (pos 0))) l o refl))
      (ap (λ object. tells_by object (moved_locals h l) (moved_operands h o)) (ref_of-moves h o)
      ∙ refused-moves s (resolved_kind p s.loaded name) _ _ (kind-fixed p s.loaded name) (λ kind. ap (done s) (answers-moves p name (ref_of o) s l o)))

  -- ---- what is invoked

  method-fixed : (p : Program) (loaded : List ℕ) (interface static : Bool) (r : Reference) → IsFixed (named_method p loaded interface static r)
  method-fixed p loaded interface static r =
      let fits : MemberPlace → Result MemberPlace Outcome = λ m. where_fitting (beq (is_static p m) static) m in
      let of_kind : ℕ → Resolution = λ kind. resolved_method p (class_of_kind p kind) interface r.member in
      then-fixed (resolved_kind p loaded r.class) (λ kind. member_found (of_kind kind) >>= fits) (kind-fixed p loaded r.class)
      (λ kind. then-fixed (member_found (of_kind kind)) fits (found-fixed (of_kind kind)) (λ m. fitting-fixed (beq (is_static p m) static) m))

  taken-moves : (instance : Bool) (shape : Option Shape) (o : Operands)
      → option_and_then (λ (s : Shape). arguments (with_receiver instance s.params) (moved_operands h o)) shape ≡ option_and_then (λ (s : Shape). arguments (with_receiver instance s.params) o) shape
  taken-moves instance None o = refl
  taken-moves instance (Some shape) o = arguments-moves h (with_receiver instance shape.params) o

  arguments_by-moves : (instance : Bool) (member : NameAndType) (o : Operands) → arguments_by instance member (moved_operands h o) ≡ arguments_by instance member o
  arguments_by-moves instance member o = taken-moves instance (shape_of member.descriptor) o

  value-moves : (d : Option Datum) (o : Operands) → with_value (option_map as_value d) (moved_operands h o) ≡ moved_operands h (with_value (option_map as_value d) o)
  value-moves None o = refl
  value-moves (Some (datum.Int n)) o = refl
  value-moves (Some (datum.Long n)) o = refl
  value-moves (Some (datum.Ref r)) o = refl

  name-fixed : (name : Option (List ℕ)) → option_map_or (λ name. Raises name None) name (Breaks false) ≡ moved_outcome h (option_map_or (λ name. Raises name None) name (Breaks false))
  name-fixed None = refl
  name-fixed (Some name) = refl

  thrown-fixed : (class : ℕ) → thrown_by class ≡ moved_outcome h (thrown_by class)
  thrown-fixed class =
      let made : Outcome = option_map_or (λ name. Raises name None) (slice_get built_in_names class) (Breaks false) in
      chosen_outcome-moves h (class == out_of_memory_error) (Throws 1) _ made _ refl (name-fixed (slice_get built_in_names class))

  outcome_of-moves : (a : Answer) (l : Locals) (o : Operands) → outcome_of a (moved_locals h l) (moved_operands h o) ≡ moved_outcome h (outcome_of a l o)
  outcome_of-moves (answer.Value d) l o = ap (λ below. GoesOn (moved_locals h l) below Next) (value-moves d o)
  outcome_of-moves (answer.Throws class) l o = thrown-fixed class
  outcome_of-moves (answer.Exit status) l o = refl
  outcome_of-moves answer.Bad l o = refl

  runs_number-moves : (w : World) (number : ℕ) (args : List Datum) (s : Shared) (l : Locals) (o : Operands)
      → runs_number w number args s (moved_locals h l) (moved_operands h o) ≡ moved_done h (runs_number w number args s l o)
  runs_number-moves w number args s l o =
      let d : Done = runs_number w number args s l o in
      ap (λ (q : Outcome). let made : Done = record { shared = d.shared; wrote = d.wrote; outcome = q } in made)
      (outcome_of-moves (answer_by number (kinds_in w.program s.loaded) args (seen_by_natives w s)) l o)

  runs_found-moves : (w : World) (number : Option ℕ) (args : List Datum) (s : Shared) (l : Locals) (o : Operands)
      → option_map_or (λ n. runs_number w n args s (moved_locals h l) (moved_operands h o)) number (done s (Breaks false))
      ≡ moved_done h (option_map_or (λ n. runs_number w n args s l o) number (done s (Breaks false)))
  runs_found-moves w None args s l o = refl
  runs_found-moves w (Some number) args s l o = runs_number-moves w number args s l o

  runs_native-moves : (w : World) (r : Option Reference) (args : List Datum) (s : Shared) (l : Locals) (o : Operands)
      → runs_native w r args s (moved_locals h l) (moved_operands h o) ≡ moved_done h (runs_native w r args s l o)
  runs_native-moves w r args s l o = runs_found-moves w (option_and_then native_number r) args s l o

  invokes_native-moves : (w : World) (m : MemberPlace) (args : List Datum) (s : Shared) (l : Locals) (o : Operands)
      → invokes_native w m args s (moved_locals h l) (moved_operands h o) ≡ moved_done h (invokes_native w m args s l o)
  invokes_native-moves w m args s l o =
      chosen-moves h (nat_lt m.class (user_count w.program)) (done s (Raises unsatisfied_link None)) _ (runs_native w (method_reference w.program m) args s l o) _ refl
      (runs_native-moves w (method_reference w.program m) args s l o)

  invokes_number-moves : (w : World) (m : MemberPlace) (n : Option ℕ) (args : List Datum) (s : Shared) (l : Locals) (o : Operands)
      → invokes_number w m n args s (moved_locals h l) (moved_operands h o) ≡ moved_done h (invokes_number w m n args s l o)
  invokes_number-moves w m (Some n) args s l o = refl
  invokes_number-moves w m None args s l o = invokes_native-moves w m args s l o

  invokes_selected-moves : (w : World) (m : Option MemberPlace) (args : List Datum) (s : Shared) (l : Locals) (o : Operands)
      → invokes_selected w m args s (moved_locals h l) (moved_operands h o) ≡ moved_done h (invokes_selected w m args s l o)
  invokes_selected-moves w None args s l o = refl
  invokes_selected-moves w (Some m) args s l o =
      let number : Option ℕ = number_of_method w.program m.class m.position in
      chosen-moves h (is_abstract w.program m) (done s (Raises abstract_method None)) _ (invokes_number w m number args s l o) _ refl
      (invokes_number-moves w m number args s l o)

  -- the arguments are taken from the operands
  invokes_taken-moves : (w : World) (m : Option MemberPlace) (args : List Datum) (s : Shared) (l : Locals) (o : Operands)
      → invokes_selected w m args s (moved_locals h l) (drop (length args) (moved_operands h o)) ≡ moved_done h (invokes_selected w m args s l (drop (length args) o))
  invokes_taken-moves w m args s l o =
      ap (invokes_selected w m args s (moved_locals h l)) (drop-map (moved_value h) (length args) o) ∙ invokes_selected-moves w m args s l (drop (length args) o)

  -- ---- invokestatic

  invokes_with_static-moves : (w : World) (m : MemberPlace) (args : Option (List Datum)) (s : Shared) (l : Locals) (o : Operands)
      → invokes_with_static w m args s (moved_locals h l) (moved_operands h o) ≡ moved_done h (invokes_with_static w m args s l o)
  invokes_with_static-moves w m None s l o = refl
  invokes_with_static-moves w m (Some args) s l o = invokes_taken-moves w (Some m) args s l o

  invokes_static_method-moves : (w : World) (r : Reference) (s : Shared) (l : Locals) (o : Operands)
      → invokes_static_method w r s (moved_locals h l) (moved_operands h o) ≡ moved_done h (invokes_static_method w r s l o)
  invokes_static_method-moves w r s l o =
      let args : Option (List Datum) = arguments_by false r.member o in
      refused-moves s (named_method w.program s.loaded false true r) _ _ (method-fixed w.program s.loaded false true r)
      (λ m. ready-moves h w.program (phase_of s m.class) m.class s (invokes_with_static w m args s l o) _
      (ap (λ member_found. invokes_with_static w m member_found s (moved_locals h l) (moved_operands h o)) (arguments_by-moves false r.member o)
      ∙ invokes_with_static-moves w m args s l o))

  -- ---- invokevirtual, invokeinterface, invokespecial

  not_of_class-fixed : (by : Selecting) → not_of_class by ≡ moved_outcome h (not_of_class by)
  not_of_class-fixed Virtual = refl
  not_of_class-fixed OfInterface = refl
  not_of_class-fixed (Special caller interface) = refl

  invokes_on-moves : (w : World) (by : Selecting) (r : Reference) (m : MemberPlace) (args : Option (List Datum)) (s : Shared) (l : Locals) (o : Operands)
      → invokes_on w by r m args s (moved_locals h l) (moved_operands h o) ≡ moved_done h (invokes_on w by r m args s l o)
  invokes_on-moves w by r m None s l o = refl
  invokes_on-moves w by r m (Some args) s l o =
      let object : ℕ = receiver_in args in
      let of_class : Bool = is_instance w.program s.heap object r.class in
      refused-moves s (receiver object of_class (not_of_class by)) _ _ (receiver-fixed object of_class (not_of_class by) (not_of_class-fixed by))
      (λ owner. invokes_taken-moves w (selected_by w.program by m (class_of w.program s owner)) args s l o)

  invokes_instance-moves : (w : World) (by : Selecting) (r : Reference) (s : Shared) (l : Locals) (o : Operands)
      → invokes_instance w by r s (moved_locals h l) (moved_operands h o) ≡ moved_done h (invokes_instance w by r s l o)
  invokes_instance-moves w by r s l o =
      let args : Option (List Datum) = arguments_by true r.member o in
      refused-moves s (named_method w.program s.loaded (names_interface by) false r) _ _ (method-fixed w.program s.loaded (names_interface by) false r)
      (λ m. ap (λ member_found. invokes_on w by r m member_found s (moved_locals h l) (moved_operands h o)) (arguments_by-moves true r.member o)
      ∙ invokes_on-moves w by r m args s l o)

  -- ---- every instruction that names something

  pub named-moves : (w : World) (n : SymbolicReference) (s : Shared) (l : Locals) (o : Operands) → does_named w n s (moved_locals h l) (moved_operands h o) ≡ moved_done h (does_named w n s l o)
  named-moves w (New name) s l o = makes_new-moves w.program name s l o
  named-moves w (Getfield r) s l o = gets_instance-moves w.program r s l o
  named-moves w (Putfield r) s l o = puts_instance-moves w.program r s l o
  named-moves w (Getstatic r) s l o = gets_static-moves w.program r s l o
  named-moves w (Putstatic r) s l o = puts_static-moves w.program r s l o
  named-moves w (Invokevirtual r) s l o = invokes_instance-moves w Virtual r s l o
  named-moves w (Invokespecial caller r interface) s l o = invokes_instance-moves w (Special caller interface) r s l o
  named-moves w (Invokestatic r) s l o = invokes_static_method-moves w r s l o
  named-moves w (Invokeinterface r) s l o = invokes_instance-moves w OfInterface r s l o
  named-moves w (Checkcast name) s l o = casts-moves w.program name s l o
  named-moves w (Instanceof name) s l o = tells_instance-moves w.program name s l o
  named-moves w (Anewarray name) s l o = makes_array_of-moves w.program name s l o
  named-moves w (Multianewarray name dimensions) s l o = makes_multi-moves w.program name dimensions s l o
  named-moves w (LdcClass name) s l o =
      refused-moves s (resolved_kind w.program s.loaded name) _ _ (kind-fixed w.program s.loaded name)
      (λ kind. ap (done (pushes_object_of kind s l o).shared) (outcome_of-moves (answer_of_class kind s.made s.heap) l o))

  -- ---- ldc of a String

  pub string-moves : (p : Program) (units : List ℕ) (s : Shared) (l : Locals) (o : Operands)
      → pushes_string p units s (moved_locals h l) (moved_operands h o) ≡ moved_done h (pushes_string p units s l o)
  string-moves p units s l o =
      let made : Done = done (record s { heap = with_interned (kind_for p string) units s.heap }) (GoesOn l (Ref (interned_number units s.heap) ∷ o) Next) in
      chosen-moves h (can_intern units s.heap) made _ (done s (Throws 1)) _ refl refl

  -- ---- what is loaded before

  resolves-moves : (n : SymbolicReference) (o : Operands) → resolves n (moved_operands h o) ≡ resolves n o
  resolves-moves (Checkcast name) o = ap not (null-moves o)
  resolves-moves (Instanceof name) o = ap not (null-moves o)
  resolves-moves n o = refl

  pub newly_loaded-moves : (p : Program) (loaded : List ℕ) (n : SymbolicReference) (o : Operands) → newly_loaded p loaded n (moved_operands h o) ≡ newly_loaded p loaded n o
  newly_loaded-moves p loaded n o = ap (λ b. if b then drop (length loaded) (load_of p loaded (resolved_name n)).loaded else []) (resolves-moves n o)
