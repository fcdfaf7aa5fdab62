-- What an instruction that names something leaves as it is, and what it asks for (JVM Specification 5.5, 6.5): the
-- loaded classes are the same behind it, a class is initialized only where it is fresh, and the arguments of an
-- invocation are operands of their kinds.
use Rattle.std.proofs.Common.{◌≡◌, ℕ, ◌+◌, Bool, true, false, List, [], Option, Some, None, refl}
use Rattle.std.specs.Prelude.{Result, Ok, Err, length, drop, map, slice_get, nat_le, nat_lt, ℤ, pos, negsuc, ◌==◌, if◌then◌else◌}
use Rattle.std.specs.Bool.{beq}
use Rattle.std.specs.Option.{option_and_then, option_map_or}
use Rattle.std.proofs.lemmas.Bool.{false≢true}
use Rattle.heap_objects.specs.declared.datum.Datum.{Datum}
use Rattle.heap_objects.specs.declared.Value.{Value}
use Rattle.heap_objects.specs.Heaps.{HeapView, with_instance, with_text}
use Rattle.const_pool.specs.declared.descriptor.Shape.{Shape}
use Rattle.const_pool.specs.BuiltIn.{built_in_names}
use Rattle.const_pool.specs.References.{NameAndType, Reference}
use Rattle.base_classes.specs.Natives.{native_number}
use Rattle.native_effects.specs.declared.effects.answer.Answer.{Answer}
use Rattle.native_effects.specs.declared.effects.answer.Answer.TheVariants as answer
use Rattle.native_ops.specs.Methods.Calls.{answer_by}
use Rattle.native_effects.specs.Effects.Making.{answer_of_class}
use Rattle.native_effects.specs.Inputs.Numbers.{out_of_memory_error}
use Rattle.jvm_model.specs.declared.state.Phase.{Phase}
use Rattle.jvm_model.specs.declared.state.Phase.TheVariants.{Fresh, Running, Ready, Erroneous}
use Rattle.jvm_model.specs.declared.program.Program.{Program}
use Rattle.jvm_model.specs.declared.state.Shared.{Shared}
use Rattle.jvm_model.specs.Instructions.ConstantRules.{pushes_object_of}
use Rattle.jvm_model.specs.Instructions.CreationRules.{allocates, answers, array_over, casts_to, counts_of, has_no_instances, instantiation_error, is_text_class, lengths_of, makes_arrays, makes_by_counts, makes_instance, makes_object, slots_of_arrays, with_arrays, zero_of}
use Rattle.jvm_model.specs.Basis.Data.{Locals, Operands, Outcome, GoesOn, Subroutine, Invokes, Returns, Throws, Raises, Initializes, Exits, Breaks, Done}
use Rattle.jvm_model.specs.declared.instruction.SymbolicReference.{SymbolicReference}
use Rattle.jvm_model.specs.declared.instruction.SymbolicReference.TheVariants.{New, Getfield, Putfield, Getstatic, Putstatic, Invokevirtual, Invokespecial, Invokestatic, Invokeinterface, Checkcast, Instanceof, Anewarray, Multianewarray, LdcClass}
use Rattle.jvm_model.specs.Basis.Descriptors.{shape_of}
use Rattle.jvm_model.specs.Instructions.FieldRules.{Putting, gets_of, field_held, is_static_field, kind_by, named_field, puts_into, putting_of, sets_static}
use Rattle.jvm_model.specs.Instructions.InvocationRules.{Selecting, Virtual, OfInterface, Special, arguments_by, invokes_number, invokes_on, invokes_selected, invokes_with_static, named_method, not_of_class, receiver_in, method_reference, selected_by, with_receiver}
use Rattle.jvm_model.specs.Basis.KindNumbers.{user_count}
use Rattle.jvm_model.specs.Classes.Layouts.{layout}
use Rattle.jvm_model.specs.Classes.Load.{Fault}
use Rattle.jvm_model.specs.Instructions.LocalRules.{pushes, replaces}
use Rattle.jvm_model.specs.Classes.Lookup.{MemberPlace, Resolution, Found, Fails, resolved_field, resolved_method}
use Rattle.jvm_model.specs.Instructions.SymbolicReference.{◌>>=◌, member_found, is_instance, is_null, kind_unless, receiver, resolved_kind, unless_refused, where_fitting}
use Rattle.jvm_model.specs.Instructions.ReferenceRules.{does_named}
use Rattle.jvm_model.specs.Instructions.NativeRules.{kinds_in, outcome_of, runs_native, runs_number, seen_by_natives, thrown_by}
use Rattle.jvm_model.specs.Instructions.ObjectRules.{done, makes}
use Rattle.jvm_model.specs.Basis.Programs.{number_of_method}
use Rattle.jvm_model.specs.Instructions.Rules.{class_initialized, when_ready}
use Rattle.jvm_model.specs.Classes.Selection.{is_abstract, is_static}
use Rattle.jvm_model.specs.Basis.SharedState.{class_of, class_of_kind, null_pointer, phase_of}
use Rattle.jvm_model.specs.Basis.Values.{arguments, int_of, ref_of}
use Rattle.activations.specs.TakenArguments.{Takes, TakesArguments}
use Rattle.prepared_code.specs.Versions.{Setup}

-- ---- what is asked for

abbrev pub Asks : Shared → Operands → Outcome → Type 0
Asks s o (Initializes c) = phase_of s c ≡ Some Fresh
Asks s o (Invokes m args below) = Takes o args below
Asks s o _ = Unit {0}

pub record IsNamed (s : Shared) (o : Operands) (d : Done) : Type 0 where
  pub loaded : d.shared.loaded ≡ s.loaded
  pub asks : Asks d.shared o d.outcome

pub asks-takes : (s : Shared) (o : Operands) (q : Outcome) → Asks s o q → TakesArguments q o
asks-takes s o (Initializes c) asks = tt
asks-takes s o (Invokes m args below) asks = asks
asks-takes s o (GoesOn l q to) asks = tt
asks-takes s o Subroutine asks = tt
asks-takes s o (Returns d) asks = tt
asks-takes s o (Throws r) asks = tt
asks-takes s o (Raises name message) asks = tt
asks-takes s o (Exits n) asks = tt
asks-takes s o (Breaks b) asks = tt

-- neither of the two
abbrev pub is_plain : Outcome → Bool
is_plain (Initializes c) = false
is_plain (Invokes m args below) = false
is_plain q = true

plain-asks : (s : Shared) (o : Operands) (q : Outcome) → is_plain q ≡ true → Asks s o q
plain-asks s o (Initializes c) plain = absurd (false≢true plain)
plain-asks s o (Invokes m args below) plain = absurd (false≢true plain)
plain-asks s o (GoesOn l q to) plain = tt
plain-asks s o Subroutine plain = tt
plain-asks s o (Returns d) plain = tt
plain-asks s o (Throws r) plain = tt
plain-asks s o (Raises name message) plain = tt
plain-asks s o (Exits n) plain = tt
plain-asks s o (Breaks b) plain = tt

refuses : (s : Shared) (o : Operands) (q : Outcome) → is_plain q ≡ true → IsNamed s o (done s q)
refuses s o q plain = record { loaded = refl; asks = plain-asks s o q plain }

replaces-plain : (taken : ℕ) (v : Option Value) (l : Locals) (o : Operands) → is_plain (replaces taken v l o) ≡ true
replaces-plain taken None l o = refl
replaces-plain taken (Some v) l o = refl

pushes-plain : (v : Option Value) (l : Locals) (o : Operands) → is_plain (pushes v l o) ≡ true
pushes-plain None l o = refl
pushes-plain (Some v) l o = refl

-- ---- what is found, or refused

abbrev IsPlain : {A : Type 0} → Result A Outcome → Type 0
IsPlain (Ok x) = Unit {0}
IsPlain (Err q) = is_plain q ≡ true

then-plain : {A B : Type 0} (r : Result A Outcome) (f : A → Result B Outcome) → IsPlain r → ((x : A) → IsPlain (f x)) → IsPlain (r >>= f)
then-plain (Ok x) f plain each = each x
then-plain (Err q) f plain each = plain

kind-plain : (p : Program) (loaded name : List ℕ) → IsPlain (resolved_kind p loaded name)
kind-plain p loaded name = by _ _ where
  by : (fault : Option Fault) (kind : Option ℕ) → IsPlain (kind_unless fault kind)
  by (Some fault) kind = refl
  by None None = refl
  by None (Some kind) = tt

found-plain : (r : Resolution) → IsPlain (member_found r)
found-plain (Found m) = tt
found-plain (Fails error) = refl

fitting-plain : (b : Bool) (m : MemberPlace) → IsPlain (where_fitting b m)
fitting-plain true m = tt
fitting-plain false m = refl

field-plain : (p : Program) (loaded : List ℕ) (static : Bool) (r : Reference) → IsPlain (named_field p loaded static r)
field-plain p loaded static r =
    then-plain (resolved_kind p loaded r.class) _ (kind-plain p loaded r.class)
    (λ kind. then-plain (member_found (resolved_field p (class_of_kind p kind) r.member)) _ (found-plain (resolved_field p (class_of_kind p kind) r.member))
    (λ m. fitting-plain (beq (is_static_field p m) static) m))

method-plain : (p : Program) (loaded : List ℕ) (interface static : Bool) (r : Reference) → IsPlain (named_method p loaded interface static r)
method-plain p loaded interface static r =
    then-plain (resolved_kind p loaded r.class) _ (kind-plain p loaded r.class)
    (λ kind. then-plain (member_found (resolved_method p (class_of_kind p kind) interface r.member)) _ (found-plain (resolved_method p (class_of_kind p kind) interface r.member))
    (λ m. fitting-plain (beq (is_static p m) static) m))

receiver-plain : (object : ℕ) (of_class : Bool) (otherwise : Outcome) → is_plain otherwise ≡ true → IsPlain (receiver object of_class otherwise)
receiver-plain object of_class otherwise plain = by (object == 0) of_class where
  by : (null of : Bool) → IsPlain {A = ℕ} (if null then Err (Raises null_pointer None) else if of then Ok object else Err otherwise)
  by true of = refl
  by false true = tt
  by false false = plain

-- ---- by cases on what a rule finds

module _ (s : Shared) (o : Operands) where
  unless-named : {A : Type 0} (r : Result A Outcome) (rule : A → Done) → IsPlain r → ((x : A) → IsNamed s o (rule x)) → IsNamed s o (unless_refused s r rule)
  unless-named (Ok x) rule plain each = each x
  unless-named (Err q) rule plain each = refuses s o q plain

  ready-named : (p : Program) (class : ℕ) (d : Done) → IsNamed s o d → IsNamed s o (class_initialized p class s d)
  ready-named p class d goes = by (phase_of s class) refl where
    by : (x : Option Phase) → phase_of s class ≡ x → IsNamed s o (when_ready p x class s d)
    by (Some Ready) is = goes
    by (Some Running) is = goes
    by (Some Fresh) is = record { loaded = refl; asks = is }
    by (Some Erroneous) is = refuses s o _ refl
    by None is = refuses s o _ refl

  if-named : (b : Bool) (x y : Done) → IsNamed s o x → IsNamed s o y → IsNamed s o (if b then x else y)
  if-named true x y first second = first
  if-named false x y first second = second

  if-plain : (b : Bool) (x y : Outcome) → is_plain x ≡ true → is_plain y ≡ true → is_plain (if b then x else y) ≡ true
  if-plain true x y first second = first
  if-plain false x y first second = second

  -- ---- fields

  sets-named : (m : MemberPlace) (x : Option Datum) (l : Locals) → IsNamed s o (sets_static m x s l o)
  sets-named m None l = refuses s o _ refl
  sets-named m (Some d) l = record { loaded = refl; asks = tt }

  gets-named : (p : Program) (r : Reference) (m : MemberPlace) (x : Option ℕ) (l : Locals) → IsNamed s o (gets_of p r m x s l o)
  gets-named p r m None l = refuses s o _ refl
  gets-named p r m (Some object) l =
      unless-named _ _ (receiver-plain object _ (Breaks false) refl) (λ owner. refuses s o _ (replaces-plain 1 _ l o))

  puts-named : (p : Program) (r : Reference) (m : MemberPlace) (x : Option Putting) (l : Locals) → IsNamed s o (puts_into p r m x s l o)
  puts-named p r m None l = refuses s o _ refl
  puts-named p r m (Some x) l =
      unless-named _ _ (receiver-plain x.object _ (Breaks false) refl) (λ owner. record { loaded = refl; asks = tt })

  -- ---- objects that are made

  allocates-named : (slots : ℕ) (make : HeapView → HeapView) (taken : ℕ) (l : Locals) → IsNamed s o (allocates slots make taken s l o)
  allocates-named slots make taken l =
      if-named (nat_le (s.heap.used + slots) s.heap.limit) _ _ (record { loaded = refl; asks = tt }) (refuses s o _ refl)

  object-named : (p : Program) (kind class : ℕ) (l : Locals) → IsNamed s o (makes_object p kind class s l o)
  object-named p kind class l =
      if-named (is_text_class p class) _ _ (allocates-named 1 (with_text kind []) 0 l)
      (allocates-named (1 + length (layout p class)) (with_instance kind (map zero_of (layout p class))) 0 l)

  instance-named : (p : Program) (kind class : ℕ) (l : Locals) → IsNamed s o (makes_instance p kind class s l o)
  instance-named p kind class l =
      if-named (has_no_instances p class) (done s (Raises instantiation_error None)) (makes_object p kind class s l o) (refuses s o _ refl)
      (object-named p kind class l)

  makes-named : (kind : ℕ) (count : Option ℤ) (l : Locals) → IsNamed s o (makes kind count s l o)
  makes-named kind None l = refuses s o _ refl
  makes-named kind (Some (negsuc n)) l = refuses s o _ refl
  makes-named kind (Some (pos count)) l =
      if-named (nat_le (s.heap.used + (1 + count)) s.heap.limit) _ _ (record { loaded = refl; asks = tt }) (refuses s o _ refl)

  arrays-named : (kind dimensions : ℕ) (lengths : Option (List ℕ)) (l : Locals) → IsNamed s o (makes_arrays kind dimensions lengths s l o)
  arrays-named kind dimensions None l = refuses s o _ refl
  arrays-named kind dimensions (Some lengths) l = allocates-named (slots_of_arrays lengths) (with_arrays kind lengths) dimensions l

  counts-named : (kind dimensions : ℕ) (counts : Option (List ℤ)) (l : Locals) → IsNamed s o (makes_by_counts kind dimensions counts s l o)
  counts-named kind dimensions None l = refuses s o _ refl
  counts-named kind dimensions (Some counts) l = arrays-named kind dimensions (lengths_of counts) l

  -- ---- casts

  casts-plain : (p : Program) (name : List ℕ) (x : Option ℕ) (l : Locals) → is_plain (casts_to p name x s l o) ≡ true
  casts-plain p name None l = refl
  casts-plain p name (Some object) l = if-plain (is_instance p s.heap object name) _ _ refl refl

  answers-plain : (p : Program) (name : List ℕ) (x : Option ℕ) (l : Locals) → is_plain (answers p name x s l o) ≡ true
  answers-plain p name None l = refl
  answers-plain p name (Some object) l = refl

  -- ---- invocations

  thrown-plain : (class : ℕ) → is_plain (thrown_by class) ≡ true
  thrown-plain class =
      if-plain (class == out_of_memory_error) (Throws 1) (option_map_or (λ name. Raises name None) (slice_get built_in_names class) (Breaks false)) refl
      (by (slice_get built_in_names class)) where
        by : (name : Option (List ℕ)) → is_plain (option_map_or (λ name. Raises name None) name (Breaks false)) ≡ true
        by None = refl
        by (Some name) = refl

  answer-plain : (a : Answer) (l : Locals) (below : Operands) → is_plain (outcome_of a l below) ≡ true
  answer-plain (answer.Value d) l below = refl
  answer-plain (answer.Throws class) l below = thrown-plain class
  answer-plain (answer.Exit status) l below = refl
  answer-plain answer.Bad l below = refl

  -- a native method changes nothing but the heap, what is made once and how much of the input was read
  run-named : (w : Setup) (number : ℕ) (args : List Datum) (l : Locals) (below : Operands) → IsNamed s o (runs_number w.world number args s l below)
  run-named w number args l below = record {
    loaded = refl;
    asks =
        plain-asks (runs_number w.world number args s l below).shared o (runs_number w.world number args s l below).outcome
        (answer-plain (answer_by number (kinds_in w.world.program s.loaded) args (seen_by_natives w.world s)) l below);
  }

  native-named : (w : Setup) (r : Option Reference) (args : List Datum) (l : Locals) (below : Operands) → IsNamed s o (runs_native w.world r args s l below)
  native-named w r args l below = by (option_and_then native_number r) where
    by : (number : Option ℕ) → IsNamed s o (option_map_or (λ number. runs_number w.world number args s l below) number (done s (Breaks false)))
    by None = refuses s o _ refl
    by (Some number) = run-named w number args l below

  number-named : (w : Setup) (m : MemberPlace) (n : Option ℕ) (args : List Datum) (l : Locals) (below : Operands) → Takes o args below
      → IsNamed s o (invokes_number w.world m n args s l below)
  number-named w m (Some n) args l below takes = record { loaded = refl; asks = takes }
  number-named w m None args l below takes =
      if-named (nat_lt m.class (user_count w.world.program)) _ (runs_native w.world (method_reference w.world.program m) args s l below) (refuses s o _ refl)
      (native-named w (method_reference w.world.program m) args l below)

  selected-named : (w : Setup) (m : Option MemberPlace) (args : List Datum) (l : Locals) (below : Operands) → Takes o args below
      → IsNamed s o (invokes_selected w.world m args s l below)
  selected-named w None args l below takes = refuses s o _ refl
  selected-named w (Some m) args l below takes =
      if-named (is_abstract w.world.program m) _ (invokes_number w.world m (number_of_method w.world.program m.class m.position) args s l below) (refuses s o _ refl)
      (number-named w m (number_of_method w.world.program m.class m.position) args l below takes)

  -- what a descriptor tells
  arguments-take : (instance : Bool) (member : NameAndType) (args : List Datum) → arguments_by instance member o ≡ Some args → Takes o args (drop (length args) o)
  arguments-take instance member args e = by (shape_of member.descriptor) e where
    by : (shape : Option Shape) → option_and_then (λ (x : Shape). arguments (with_receiver instance x.params) o) shape ≡ Some args
        → Takes o args (drop (length args) o)
    by None is = absurd cc
    by (Some shape) is = record { kinds = with_receiver instance shape.params; are = is; off = refl }

  static-named : (w : Setup) (m : MemberPlace) (member : NameAndType) (l : Locals) → IsNamed s o (invokes_with_static w.world m (arguments_by false member o) s l o)
  static-named w m member l = by (arguments_by false member o) refl where
    by : (x : Option (List Datum)) → arguments_by false member o ≡ x → IsNamed s o (invokes_with_static w.world m x s l o)
    by None is = refuses s o _ refl
    by (Some args) is = selected-named w (Some m) args l (drop (length args) o) (arguments-take false member args is)

  otherwise-plain : (by : Selecting) → is_plain (not_of_class by) ≡ true
  otherwise-plain Virtual = refl
  otherwise-plain OfInterface = refl
  otherwise-plain (Special caller interface) = refl

  on-named : (w : Setup) (by : Selecting) (r : Reference) (m : MemberPlace) (l : Locals) → IsNamed s o (invokes_on w.world by r m (arguments_by true r.member o) s l o)
  on-named w selecting r m l = by (arguments_by true r.member o) refl where
    by : (x : Option (List Datum)) → arguments_by true r.member o ≡ x → IsNamed s o (invokes_on w.world selecting r m x s l o)
    by None is = refuses s o _ refl
    by (Some args) is =
        unless-named _ _ (receiver-plain (receiver_in args) _ (not_of_class selecting) (otherwise-plain selecting))
        (λ object. selected-named w (selected_by w.world.program selecting m (class_of w.world.program s object)) args l (drop (length args) o) (arguments-take true r.member args is))

  -- ---- ldc of a Class

  class-named : (kind : ℕ) (l : Locals) → IsNamed s o (pushes_object_of kind s l o)
  class-named kind l = record {
    loaded = refl;
    asks =
        plain-asks (pushes_object_of kind s l o).shared o (pushes_object_of kind s l o).outcome
        (answer-plain (answer_of_class kind s.made s.heap) l o);
  }

  -- ---- every one

  pub is-named : (w : Setup) (n : SymbolicReference) (l : Locals) → IsNamed s o (does_named w.world n s l o)
  is-named w (New name) l =
      unless-named _ _ (kind-plain w.world.program s.loaded name) (λ kind. ready-named w.world.program (class_of_kind w.world.program kind) _ (instance-named w.world.program kind (class_of_kind w.world.program kind) l))
  is-named w (Getfield r) l = unless-named _ _ (field-plain w.world.program s.loaded false r) (λ m. gets-named w.world.program r m (ref_of o) l)
  is-named w (Putfield r) l = unless-named _ _ (field-plain w.world.program s.loaded false r) (λ m. puts-named w.world.program r m (putting_of (kind_by r) o) l)
  is-named w (Getstatic r) l =
      unless-named _ _ (field-plain w.world.program s.loaded true r) (λ m. ready-named w.world.program m.class _ (refuses s o _ (pushes-plain _ l o)))
  is-named w (Putstatic r) l =
      unless-named _ _ (field-plain w.world.program s.loaded true r) (λ m. ready-named w.world.program m.class _ (sets-named m (field_held (kind_by r) o) l))
  is-named w (Invokevirtual r) l = unless-named _ _ (method-plain w.world.program s.loaded false false r) (λ m. on-named w Virtual r m l)
  is-named w (Invokespecial caller r interface) l =
      unless-named _ _ (method-plain w.world.program s.loaded interface false r) (λ m. on-named w (Special caller interface) r m l)
  is-named w (Invokestatic r) l =
      unless-named _ _ (method-plain w.world.program s.loaded false true r) (λ m. ready-named w.world.program m.class _ (static-named w m r.member l))
  is-named w (Invokeinterface r) l = unless-named _ _ (method-plain w.world.program s.loaded true false r) (λ m. on-named w OfInterface r m l)
  is-named w (Checkcast name) l =
      if-named (is_null o) _ (unless_refused s (resolved_kind w.world.program s.loaded name) (λ kind. done s (casts_to w.world.program name (ref_of o) s l o))) (refuses s o _ refl)
      (unless-named _ _ (kind-plain w.world.program s.loaded name) (λ kind. refuses s o _ (casts-plain w.world.program name (ref_of o) l)))
  is-named w (Instanceof name) l =
      if-named (is_null o) _ (unless_refused s (resolved_kind w.world.program s.loaded name) (λ kind. done s (answers w.world.program name (ref_of o) s l o))) (refuses s o _ refl)
      (unless-named _ _ (kind-plain w.world.program s.loaded name) (λ kind. refuses s o _ (answers-plain w.world.program name (ref_of o) l)))
  is-named w (Anewarray name) l = unless-named _ _ (kind-plain w.world.program s.loaded name) (λ kind. makes-named (array_over kind) (int_of o) l)
  is-named w (Multianewarray name dimensions) l =
      unless-named _ _ (kind-plain w.world.program s.loaded name) (λ kind. counts-named kind dimensions (counts_of dimensions o) l)
  is-named w (LdcClass name) l = unless-named _ _ (kind-plain w.world.program s.loaded name) (λ kind. class-named kind l)
