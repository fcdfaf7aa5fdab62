-- Only returns end an activation: what every other instruction asks for is no end.
use Rattle.std.proofs.Common.{◌≡◌, ℕ, Bool, true, false, List, [], ◌∷◌, Option, Some, None, if◌then◌else◌, refl, sym, ◌∙◌}
use Rattle.std.specs.Prelude.{Result, Ok, Err, ℤ, pos, negsuc, drop, length, slice_get}
use Rattle.std.specs.Option.{option_and_then, option_map, option_map_or}
use Rattle.heap_objects.specs.Heaps.{HeapView}
use Rattle.heap_objects.specs.declared.datum.Datum.{Datum}
use Rattle.heap_objects.specs.declared.datum.Datum.TheVariants as datum
use Rattle.heap_objects.specs.declared.Value.{Value}
use Rattle.heap_objects.specs.declared.Value.TheVariants.{Int, Ref, Addr}
use Rattle.const_pool.specs.declared.descriptor.Kind.{Kind}
use Rattle.const_pool.specs.BuiltIn.{built_in_names}
use Rattle.const_pool.specs.References.{Reference}
use Rattle.native_effects.specs.declared.effects.answer.Answer.{Answer}
use Rattle.native_effects.specs.declared.effects.answer.Answer.TheVariants as answer
use Rattle.native_effects.specs.Inputs.Numbers.{out_of_memory_error}
use Rattle.base_classes.specs.Natives.{native_number}
use Rattle.jvm_model.specs.declared.program.Program.{Program}
use Rattle.jvm_model.specs.declared.state.Phase.{Phase}
use Rattle.jvm_model.specs.Basis.Data.{Keys, Fresh, Running, Ready, Erroneous, Locals, Operands, Shared, World, Local, Nop, Constant, Load, Store, ManageStack, BinaryOfInts, BinaryOfLongs, DivisionOfInts, DivisionOfLongs, ShiftOfLong, UnaryOfInt, UnaryOfLong, Lcmp, Iinc, Branch, Goto, Switch, Jsr, Ret, Return, SymbolicReference, Operation, Within, Named, Athrow, Monitor, Newarray, Arraylength, LoadElement, StoreElement, LdcString, Outcome, GoesOn, Throws, Raises, Breaks, Done}
use Rattle.jvm_model.specs.Classes.Load.{Fault}
use Rattle.jvm_model.specs.Classes.Lookup.{MemberPlace, Resolution, Found, Fails}
use Rattle.jvm_model.specs.Instructions.LocalRules.{pushes, replaces, leaves, stores, increments, divides_these, goes_if, switches_on, goes_back, within}
use Rattle.jvm_model.specs.Instructions.ObjectRules.{done, measures, makes, Access, ToNull, ToAnother, Outside, Inside, access_to, access_refused, loads_at, loads_element, Storing, stores_at, stores_element, watches, throws}
use Rattle.jvm_model.specs.Instructions.SymbolicReference.{◌>>=◌, unless_refused, kind_unless, member_found, where_fitting, receiver}
use Rattle.std.specs.Prelude.{nat_le, nat_lt, ◌==◌, ◌&&◌, ◌+◌}
use Rattle.heap_objects.specs.Heaps.{next_number, with_array, with_slot_at}
use Rattle.jvm_model.specs.Basis.Data.{Next}
use Rattle.jvm_model.specs.Basis.Values.{has_slots, is_storable, local_stored}
use Rattle.jvm_model.specs.Classes.Lookup.{is_below}
use Rattle.jvm_model.specs.Basis.SharedState.{array_store, class_of, null_pointer, throwable}
use Rattle.jvm_model.specs.Instructions.ObjectRules.{array_length, fits_array}
use Rattle.std.specs.Bool.{beq}
use Rattle.std.proofs.Common.{map}
use Rattle.heap_objects.specs.Heaps.{slot_at, with_instance, with_text, interned_number, with_interned}
use Rattle.native_ops.specs.Methods.Calls.{answer_by}
use Rattle.native_effects.specs.Effects.Making.{answer_of_class}
use Rattle.jvm_model.specs.Running.Constants.{can_intern}
use Rattle.jvm_model.specs.Instructions.ConstantRules.{pushes_string, pushes_object_of}
use Rattle.jvm_model.specs.Instructions.CreationRules.{allocates, answers, array_over, casts_to, class_cast, counts_of, has_no_instances, instantiation_error, is_text_class, lengths_of, makes_arrays, makes_by_counts, makes_instance, makes_object, slots_of_arrays, with_arrays, zero_of}
use Rattle.jvm_model.specs.Instructions.FieldRules.{Putting, field_owner, gets_of, has_field, field_held, is_static_field, kind_by, named_field, pushes_static, puts_into, putting_of, sets_static, slot_of, static_field}
use Rattle.jvm_model.specs.Instructions.InvocationRules.{Selecting, Virtual, OfInterface, Special, abstract_method, arguments_by, invokes_instance, invokes_native, invokes_number, invokes_on, invokes_selected, invokes_with_static, named_method, names_interface, not_of_class, receiver_in, method_reference, selected_by, unsatisfied_link}
use Rattle.jvm_model.specs.Basis.KindNumbers.{user_count}
use Rattle.jvm_model.specs.Classes.Layouts.{layout}
use Rattle.jvm_model.specs.Classes.Lookup.{resolved_field, resolved_method}
use Rattle.jvm_model.specs.Instructions.SymbolicReference.{is_instance, is_null, resolved_kind, New, Getfield, Putfield, Getstatic, Putstatic, Invokevirtual, Invokespecial, Invokestatic, Invokeinterface, Checkcast, Instanceof, Anewarray, Multianewarray, LdcClass}
use Rattle.jvm_model.specs.Instructions.ReferenceRules.{does_named}
use Rattle.jvm_model.specs.Instructions.NativeRules.{kinds_in, outcome_of, runs_native, runs_number, seen_by_natives}
use Rattle.jvm_model.specs.Instructions.ObjectRules.{array_element_of, storing_of}
use Rattle.jvm_model.specs.Basis.Programs.{number_of_method}
use Rattle.jvm_model.specs.Instructions.Rules.{class_initialized, when_ready}
use Rattle.jvm_model.specs.Classes.Selection.{is_abstract, is_static}
use Rattle.jvm_model.specs.Basis.SharedState.{class_of_kind, phase_of, static_at, string, kind_for}
use Rattle.jvm_model.specs.Basis.Values.{as_value, int_of, ref_of}
use Rattle.jvm_model.specs.Instructions.Does.{does}
use Rattle.jvm_model.specs.Turns.StepPauses.{ends_by, is_return, EndsByReturn}

-- ---- what asks for no end

record GoesOnly (outcome : Outcome) : Type 0 where
  pub no_end : ends_by outcome ≡ false

on : {outcome : Outcome} → ends_by outcome ≡ false → GoesOnly outcome
on e = record { no_end = e }

record Only (d : Done) : Type 0 where
  pub goes : GoesOnly d.outcome

only-on : {d : Done} → ends_by d.outcome ≡ false → Only d
only-on e = record { goes = on e }

only-of : {s : Shared} {outcome : Outcome} → GoesOnly outcome → Only (done s outcome)
only-of g = record { goes = g }

-- an answer, or an outcome that is no end
abbrev Fine : {A : Type 0} → Result A Outcome → Type 0
Fine (Ok a) = Unit {0}
Fine (Err outcome) = GoesOnly outcome

chosen : (b : Bool) (x y : Outcome) → GoesOnly x → GoesOnly y → GoesOnly (if b then x else y)
chosen true x y p q = p
chosen false x y p q = q

chosen-done : (b : Bool) (x y : Done) → Only x → Only y → Only (if b then x else y)
chosen-done true x y p q = p
chosen-done false x y p q = q

chosen-fine : {A : Type 0} (b : Bool) (x y : Result A Outcome) → Fine x → Fine y → Fine (if b then x else y)
chosen-fine true x y p q = p
chosen-fine false x y p q = q

then-fine : {A B : Type 0} (r : Result A Outcome) (f : A → Result B Outcome) → Fine r → ((a : A) → Fine (f a)) → Fine (r >>= f)
then-fine (Ok a) f p q = q a
then-fine (Err outcome) f p q = p

unless-only : {A : Type 0} (s : Shared) (r : Result A Outcome) (rule : A → Done) → Fine r → ((a : A) → Only (rule a)) → Only (unless_refused s r rule)
unless-only s (Ok a) rule p q = q a
unless-only s (Err outcome) rule p q = only-of p

-- ---- instructions that see their frame alone

pushes-only : (v : Option Value) (l : Locals) (o : Operands) → GoesOnly (pushes v l o)
pushes-only None l o = on refl
pushes-only (Some v) l o = on refl

replaces-only : (n : ℕ) (v : Option Value) (l : Locals) (o : Operands) → GoesOnly (replaces n v l o)
replaces-only n None l o = on refl
replaces-only n (Some v) l o = on refl

leaves-only : (o : Option Operands) (l : Locals) → GoesOnly (leaves o l)
leaves-only None l = on refl
leaves-only (Some o) l = on refl

stores-only : (k : Kind) (slot : ℕ) (l : Locals) (o : Operands) → GoesOnly (stores k slot l o)
stores-only k slot l [] = on refl
stores-only k slot l (v ∷ below) = chosen (is_storable k v && has_slots l slot v) (GoesOn (local_stored l slot v) below Next) (Breaks false) (on refl) (on refl)

increments-only : (slot : ℕ) (d : ℤ) (v : Option Value) (l : Locals) (o : Operands) → GoesOnly (increments slot d v l o)
increments-only slot d (Some (Int n)) l o = on refl
increments-only slot d _ l o = on refl

divides-only : (v : Option (Option Value)) (l : Locals) (o : Operands) → GoesOnly (divides_these v l o)
divides-only None l o = on refl
divides-only (Some None) l o = on refl
divides-only (Some (Some v)) l o = on refl

goes-only : (b : Option Bool) (n : ℕ) (l : Locals) (o : Operands) → GoesOnly (goes_if b n l o)
goes-only None n l o = on refl
goes-only (Some b) n l o = on refl

switches-only : (keys : Keys) (n : Option ℤ) (l : Locals) (o : Operands) → GoesOnly (switches_on keys n l o)
switches-only keys None l o = on refl
switches-only keys (Some n) l o = on refl

back-only : (v : Option Value) (l : Locals) (o : Operands) → GoesOnly (goes_back v l o)
back-only (Some (Addr t)) l o = on refl
back-only _ l o = on refl

within-only : (i : Local) (l : Locals) (o : Operands) → is_return (Within i) ≡ false → GoesOnly (within i l o)
within-only Nop l o e = on refl
within-only (Constant d) l o e = on refl
within-only (Load k slot) l o e = pushes-only _ l o
within-only (Store k slot) l o e = stores-only k slot l o
within-only (ManageStack op) l o e = leaves-only _ l
within-only (BinaryOfInts op) l o e = replaces-only 2 _ l o
within-only (BinaryOfLongs op) l o e = replaces-only 2 _ l o
within-only (DivisionOfInts op) l o e = divides-only _ l o
within-only (DivisionOfLongs op) l o e = divides-only _ l o
within-only (ShiftOfLong op) l o e = replaces-only 2 _ l o
within-only (UnaryOfInt op) l o e = replaces-only 1 _ l o
within-only (UnaryOfLong op) l o e = replaces-only 1 _ l o
within-only Lcmp l o e = replaces-only 2 _ l o
within-only (Iinc slot d) l o e = increments-only slot d _ l o
within-only (Branch test) l o e = goes-only _ _ l o
within-only Goto l o e = on refl
within-only (Switch keys) l o e = switches-only keys _ l o
within-only Jsr l o e = on refl
within-only (Ret slot) l o e = back-only _ l o
within-only (Return k) l o e = absurd (let h : true ≡ false = e in cc)

-- ---- objects

measures-only : (r : Option ℕ) (s : Shared) (l : Locals) (o : Operands) → GoesOnly (measures r s l o)
measures-only None s l o = on refl
measures-only (Some r) s l o =
    let v : Option Value = option_map (λ count. Int (pos count)) (array_length r s.heap) in
    chosen (r == 0) (Raises null_pointer None) (replaces 1 v l o) (on refl) (replaces-only 1 v l o)

makes-only : (kind : ℕ) (count : Option ℤ) (s : Shared) (l : Locals) (o : Operands) → Only (makes kind count s l o)
makes-only kind None s l o = only-on refl
makes-only kind (Some (negsuc n)) s l o = only-on refl
makes-only kind (Some (pos count)) s l o =
    chosen-done (nat_le (s.heap.used + (1 + count)) s.heap.limit)
    (record { shared = record s { heap = with_array kind (datum.Int (pos 0)) count s.heap }; wrote = []; outcome = GoesOn l (Ref (next_number s.heap) ∷ drop 1 o) Next })
    (done s (Throws 1)) (only-on refl) (only-on refl)

refused-only : (a : Access) (i : ℤ) → GoesOnly (access_refused a i)
refused-only ToNull i = on refl
refused-only ToAnother i = on refl
refused-only Outside i = on refl
refused-only (Inside slot) i = on refl

loads_at-only : (a : Access) (r : ℕ) (i : ℤ) (s : Shared) (l : Locals) (o : Operands) → GoesOnly (loads_at a r i s l o)
loads_at-only (Inside slot) r i s l o = replaces-only 2 _ l o
loads_at-only ToNull r i s l o = refused-only ToNull i
loads_at-only ToAnother r i s l o = refused-only ToAnother i
loads_at-only Outside r i s l o = refused-only Outside i

loads_element-only : (k : Kind) (at : Option (ℕ × ℤ)) (s : Shared) (l : Locals) (o : Operands) → GoesOnly (loads_element k at s l o)
loads_element-only k None s l o = on refl
loads_element-only k (Some at) s l o = loads_at-only (access_to k at.0 at.1 s.heap) at.0 at.1 s l o

stores_at-only : (p : Program) (a : Access) (r : ℕ) (i : ℤ) (d : Datum) (s : Shared) (l : Locals) (o : Operands) → Only (stores_at p a r i d s l o)
stores_at-only p (Inside slot) r i d s l o =
    chosen-done (fits_array p d r s.heap) (record { shared = record s { heap = with_slot_at r slot d s.heap }; wrote = []; outcome = GoesOn l (drop 3 o) Next })
    (done s (Raises array_store None)) (only-on refl) (only-on refl)
stores_at-only p ToNull r i d s l o = only-of (refused-only ToNull i)
stores_at-only p ToAnother r i d s l o = only-of (refused-only ToAnother i)
stores_at-only p Outside r i d s l o = only-of (refused-only Outside i)

stores_element-only : (p : Program) (k : Kind) (x : Option Storing) (s : Shared) (l : Locals) (o : Operands) → Only (stores_element p k x s l o)
stores_element-only p k None s l o = only-on refl
stores_element-only p k (Some x) s l o = stores_at-only p (access_to k x.array x.index s.heap) x.array x.index x.datum s l o

watches-only : (r : Option ℕ) (l : Locals) (o : Operands) → GoesOnly (watches r l o)
watches-only None l o = on refl
watches-only (Some r) l o = chosen (r == 0) (Raises null_pointer None) (GoesOn l (drop 1 o) Next) (on refl) (on refl)

throws-only : (w : World) (s : Shared) (r : Option ℕ) → GoesOnly (throws w s r)
throws-only w s None = on refl
throws-only w s (Some r) =
    let below : Bool = is_below w.program (class_of w.program s r) throwable in
    chosen (r == 0) (Raises null_pointer None) (if below then Throws r else Breaks false) (on refl) (chosen below (Throws r) (Breaks false) (on refl) (on refl))

-- ---- what names something: a resolution that is refused ends nothing

kind-fine : (fault : Option Fault) (kind : Option ℕ) → Fine (kind_unless fault kind)
kind-fine (Some fault) kind = on refl
kind-fine None (Some kind) = tt
kind-fine None None = on refl

found-fine : (r : Resolution) → Fine (member_found r)
found-fine (Found m) = tt
found-fine (Fails error) = on refl

fitting-fine : (b : Bool) (m : MemberPlace) → Fine (where_fitting b m)
fitting-fine true m = tt
fitting-fine false m = on refl

receiver-fine : (object : ℕ) (b : Bool) (otherwise : Outcome) → GoesOnly otherwise → Fine (receiver object b otherwise)
receiver-fine object b otherwise g = chosen-fine (object == 0) (Err (Raises null_pointer None)) (if b then Ok object else Err otherwise) (on refl) (chosen-fine b (Ok object) (Err otherwise) tt g)

ready-only : (p : Program) (phase : Option Phase) (class : ℕ) (s : Shared) (d : Done) → Only d → Only (when_ready p phase class s d)
ready-only p (Some Ready) class s d g = g
ready-only p (Some Running) class s d g = g
ready-only p (Some Fresh) class s d g = only-on refl
ready-only p (Some Erroneous) class s d g = only-on refl
ready-only p None class s d g = only-on refl

module _ (p : Program) (s : Shared) (l : Locals) (o : Operands) where
  field-fine : (static : Bool) (r : Reference) → Fine (named_field p s.loaded static r)
  field-fine static r =
      then-fine (resolved_kind p s.loaded r.class) (λ kind. member_found (resolved_field p (class_of_kind p kind) r.member) >>= λ m. where_fitting (beq (is_static_field p m) static) m) (kind-fine _ _)
      (λ kind. then-fine (member_found (resolved_field p (class_of_kind p kind) r.member)) (λ m. where_fitting (beq (is_static_field p m) static) m)
      (found-fine (resolved_field p (class_of_kind p kind) r.member)) (λ m. fitting-fine (beq (is_static_field p m) static) m))

  method-fine : (interface static : Bool) (r : Reference) → Fine (named_method p s.loaded interface static r)
  method-fine interface static r =
      then-fine (resolved_kind p s.loaded r.class) (λ kind. member_found (resolved_method p (class_of_kind p kind) interface r.member) >>= λ m. where_fitting (beq (is_static p m) static) m) (kind-fine _ _)
      (λ kind. then-fine (member_found (resolved_method p (class_of_kind p kind) interface r.member)) (λ m. where_fitting (beq (is_static p m) static) m)
      (found-fine (resolved_method p (class_of_kind p kind) interface r.member)) (λ m. fitting-fine (beq (is_static p m) static) m))

  sets-only : (m : MemberPlace) (d : Option Datum) → Only (sets_static m d s l o)
  sets-only m None = only-on refl
  sets-only m (Some d) = only-on refl

  gets-only : (r : Reference) (m : MemberPlace) (object : Option ℕ) → Only (gets_of p r m object s l o)
  gets-only r m None = only-on refl
  gets-only r m (Some object) =
      unless-only s (field_owner p s r m object) (λ owner. done s (replaces 1 (option_map as_value (slot_at owner (slot_of p m) s.heap)) l o))
      (receiver-fine object (has_field p s r m object) (Breaks false) (on refl)) (λ owner. only-of (replaces-only 1 (option_map as_value (slot_at owner (slot_of p m) s.heap)) l o))

  puts-only : (r : Reference) (m : MemberPlace) (x : Option Putting) → Only (puts_into p r m x s l o)
  puts-only r m None = only-on refl
  puts-only r m (Some x) =
      unless-only s (field_owner p s r m x.object) (λ owner. done (record s { heap = with_slot_at owner (slot_of p m) x.datum s.heap }) (GoesOn l (drop 2 o) Next))
      (receiver-fine x.object (has_field p s r m x.object) (Breaks false) (on refl)) (λ owner. only-on refl)

  allocates-only : (slots : ℕ) (make : HeapView → HeapView) (taken : ℕ) → Only (allocates slots make taken s l o)
  allocates-only slots make taken =
      chosen-done (nat_le (s.heap.used + slots) s.heap.limit) (done (record s { heap = make s.heap }) (GoesOn l (Ref (next_number s.heap) ∷ drop taken o) Next)) (done s (Throws 1)) (only-on refl) (only-on refl)

  object-only : (kind class : ℕ) → Only (makes_object p kind class s l o)
  object-only kind class =
      chosen-done (is_text_class p class) (allocates 1 (with_text kind []) 0 s l o) (allocates (1 + length (layout p class)) (with_instance kind (map zero_of (layout p class))) 0 s l o)
      (allocates-only 1 (with_text kind []) 0) (allocates-only (1 + length (layout p class)) (with_instance kind (map zero_of (layout p class))) 0)

  instance-only : (kind class : ℕ) → Only (makes_instance p kind class s l o)
  instance-only kind class = chosen-done (has_no_instances p class) (done s (Raises instantiation_error None)) (makes_object p kind class s l o) (only-on refl) (object-only kind class)

  arrays-only : (kind dimensions : ℕ) (lengths : Option (List ℕ)) → Only (makes_arrays kind dimensions lengths s l o)
  arrays-only kind dimensions None = only-on refl
  arrays-only kind dimensions (Some lengths) = allocates-only (slots_of_arrays lengths) (with_arrays kind lengths) dimensions

  counts-only : (kind dimensions : ℕ) (counts : Option (List ℤ)) → Only (makes_by_counts kind dimensions counts s l o)
  counts-only kind dimensions None = only-on refl
  counts-only kind dimensions (Some counts) = arrays-only kind dimensions (lengths_of counts)

  casts_to-only : (name : List ℕ) (r : Option ℕ) → GoesOnly (casts_to p name r s l o)
  casts_to-only name None = on refl
  casts_to-only name (Some object) = chosen (is_instance p s.heap object name) (GoesOn l o Next) (Raises class_cast None) (on refl) (on refl)

  answers-only : (name : List ℕ) (r : Option ℕ) → GoesOnly (answers p name r s l o)
  answers-only name None = on refl
  answers-only name (Some object) = on refl

  string-only : (units : List ℕ) → Only (pushes_string p units s l o)
  string-only units =
      chosen-done (can_intern units s.heap) (done (record s { heap = with_interned (kind_for p string) units s.heap }) (GoesOn l (Ref (interned_number units s.heap) ∷ o) Next)) (done s (Throws 1)) (only-on refl) (only-on refl)

  native-only : (a : Answer) (below : Operands) → GoesOnly (outcome_of a l below)
  native-only (answer.Value d) below = on refl
  native-only (answer.Throws class) below =
      chosen (class == out_of_memory_error) (Throws 1) (option_map_or (λ name. Raises name None) (slice_get built_in_names class) (Breaks false)) (on refl) (by (slice_get built_in_names class)) where
        by : (name : Option (List ℕ)) → GoesOnly (option_map_or (λ name. Raises name None) name (Breaks false))
        by None = on refl
        by (Some name) = on refl
  native-only (answer.Exit status) below = on refl
  native-only answer.Bad below = on refl

module _ (w : World) (s : Shared) (l : Locals) (o : Operands) where
  runs-only : (args : List Datum) (below : Operands) (number : Option ℕ) → Only (option_map_or (λ number. runs_number w number args s l below) number (done s (Breaks false)))
  runs-only args below None = only-on refl
  runs-only args below (Some number) = record { goes = native-only w.program s l o (answer_by number (kinds_in w.program s.loaded) args (seen_by_natives w s)) below }

  invokes_native-only : (m : MemberPlace) (args : List Datum) (below : Operands) → Only (invokes_native w m args s l below)
  invokes_native-only m args below =
      chosen-done (nat_lt m.class (user_count w.program)) (done s (Raises unsatisfied_link None)) (runs_native w (method_reference w.program m) args s l below) (only-on refl)
      (runs-only args below (option_and_then native_number (method_reference w.program m)))

  number-only : (m : MemberPlace) (n : Option ℕ) (args : List Datum) (below : Operands) → Only (invokes_number w m n args s l below)
  number-only m (Some n) args below = only-on refl
  number-only m None args below = invokes_native-only m args below

  selected-only : (m : Option MemberPlace) (args : List Datum) (below : Operands) → Only (invokes_selected w m args s l below)
  selected-only None args below = only-on refl
  selected-only (Some m) args below =
      chosen-done (is_abstract w.program m) (done s (Raises abstract_method None)) (invokes_number w m (number_of_method w.program m.class m.position) args s l below) (only-on refl)
      (number-only m (number_of_method w.program m.class m.position) args below)

  static-only : (m : MemberPlace) (args : Option (List Datum)) → Only (invokes_with_static w m args s l o)
  static-only m None = only-on refl
  static-only m (Some args) = selected-only (Some m) args (drop (length args) o)

  not-only : (by : Selecting) → GoesOnly (not_of_class by)
  not-only Virtual = on refl
  not-only OfInterface = on refl
  not-only (Special caller interface) = on refl

  on-only : (by : Selecting) (r : Reference) (m : MemberPlace) (args : Option (List Datum)) → Only (invokes_on w by r m args s l o)
  on-only by r m None = only-on refl
  on-only by r m (Some args) =
      unless-only s (receiver (receiver_in args) (is_instance w.program s.heap (receiver_in args) r.class) (not_of_class by))
      (λ object. invokes_selected w (selected_by w.program by m (class_of w.program s object)) args s l (drop (length args) o))
      (receiver-fine (receiver_in args) (is_instance w.program s.heap (receiver_in args) r.class) (not_of_class by) (not-only by))
      (λ object. selected-only (selected_by w.program by m (class_of w.program s object)) args (drop (length args) o))

  instance_call-only : (by : Selecting) (r : Reference) → Only (invokes_instance w by r s l o)
  instance_call-only by r =
      unless-only s (named_method w.program s.loaded (names_interface by) false r) (λ m. invokes_on w by r m (arguments_by true r.member o) s l o)
      (method-fine w.program s l o (names_interface by) false r) (λ m. on-only by r m (arguments_by true r.member o))

  abbrev p : Program
  p = w.program

  named-only : (n : SymbolicReference) → Only (does_named w n s l o)
  named-only (New name) =
      unless-only s (resolved_kind p s.loaded name) (λ kind. class_initialized p (class_of_kind p kind) s (makes_instance p kind (class_of_kind p kind) s l o)) (kind-fine _ _)
      (λ kind. ready-only p _ (class_of_kind p kind) s _ (instance-only p s l o kind (class_of_kind p kind)))
  named-only (Getfield r) = unless-only s (named_field p s.loaded false r) (λ m. gets_of p r m (ref_of o) s l o) (field-fine p s l o false r) (λ m. gets-only p s l o r m (ref_of o))
  named-only (Putfield r) = unless-only s (named_field p s.loaded false r) (λ m. puts_into p r m (putting_of (kind_by r) o) s l o) (field-fine p s l o false r) (λ m. puts-only p s l o r m (putting_of (kind_by r) o))
  named-only (Getstatic r) =
      unless-only s (named_field p s.loaded true r) (λ m. pushes_static p m s l o) (field-fine p s l o true r)
      (λ m. ready-only p (phase_of s m.class) m.class s (done s (pushes (option_map as_value (static_at s (static_field m))) l o)) (only-of (pushes-only (option_map as_value (static_at s (static_field m))) l o)))
  named-only (Putstatic r) =
      unless-only s (named_field p s.loaded true r) (λ m. class_initialized p m.class s (sets_static m (field_held (kind_by r) o) s l o)) (field-fine p s l o true r)
      (λ m. ready-only p _ m.class s _ (sets-only p s l o m (field_held (kind_by r) o)))
  named-only (Invokevirtual r) = instance_call-only Virtual r
  named-only (Invokespecial caller r interface) = instance_call-only (Special caller interface) r
  named-only (Invokestatic r) =
      unless-only s (named_method p s.loaded false true r) (λ m. class_initialized p m.class s (invokes_with_static w m (arguments_by false r.member o) s l o)) (method-fine p s l o false true r)
      (λ m. ready-only p _ m.class s _ (static-only m (arguments_by false r.member o)))
  named-only (Invokeinterface r) = instance_call-only OfInterface r
  named-only (Checkcast name) =
      chosen-done (is_null o) (done s (GoesOn l o Next)) (unless_refused s (resolved_kind p s.loaded name) (λ kind. done s (casts_to p name (ref_of o) s l o))) (only-on refl)
      (unless-only s (resolved_kind p s.loaded name) (λ kind. done s (casts_to p name (ref_of o) s l o)) (kind-fine _ _) (λ kind. only-of (casts_to-only p s l o name (ref_of o))))
  named-only (Instanceof name) =
      chosen-done (is_null o) (done s (replaces 1 (Some (Int (pos 0))) l o)) (unless_refused s (resolved_kind p s.loaded name) (λ kind. done s (answers p name (ref_of o) s l o))) (only-on refl)
      (unless-only s (resolved_kind p s.loaded name) (λ kind. done s (answers p name (ref_of o) s l o)) (kind-fine _ _) (λ kind. only-of (answers-only p s l o name (ref_of o))))
  named-only (Anewarray name) = unless-only s (resolved_kind p s.loaded name) (λ kind. makes (array_over kind) (int_of o) s l o) (kind-fine _ _) (λ kind. makes-only (array_over kind) (int_of o) s l o)
  named-only (Multianewarray name dimensions) =
      unless-only s (resolved_kind p s.loaded name) (λ kind. makes_by_counts kind dimensions (counts_of dimensions o) s l o) (kind-fine _ _) (λ kind. counts-only p s l o kind dimensions (counts_of dimensions o))
  named-only (LdcClass name) =
      unless-only s (resolved_kind p s.loaded name) (λ kind. pushes_object_of kind s l o) (kind-fine _ _) (λ kind. record { goes = native-only p s l o (answer_of_class kind s.made s.heap) o })

-- ---- every instruction

no-end : (w : World) (op : Operation Local) (s : Shared) (l : Locals) (o : Operands) → is_return op ≡ false → Only (does w op s l o)
no-end w (Within i) s l o e = only-of (within-only i l o e)
no-end w (Named n) s l o e = named-only w s l o n
no-end w Athrow s l o e = only-of (throws-only w s (ref_of o))
no-end w Monitor s l o e = only-of (watches-only (ref_of o) l o)
no-end w (Newarray kind) s l o e = makes-only kind (int_of o) s l o
no-end w Arraylength s l o e = only-of (measures-only (ref_of o) s l o)
no-end w (LoadElement k) s l o e = only-of (loads_element-only k (array_element_of o) s l o)
no-end w (StoreElement k) s l o e = stores_element-only w.program k (storing_of k o) s l o
no-end w (LdcString units) s l o e = string-only w.program s l o units

pub ends-by-return : (w : World) → EndsByReturn w
ends-by-return w op s l o ends = by (is_return op) refl where
  by : (b : Bool) → is_return op ≡ b → is_return op ≡ true
  by true e = e
  by false e = absurd (let h : true ≡ false = sym ends ∙ (no-end w op s l o e).goes.no_end in cc)
