-- The objects of a heap stay of classes that are loaded: those that are there, those that are changed, and new ones.
use Rattle.std.proofs.Common.{◌≡◌, ℕ, zero, suc, ◌+◌, ◌-◌, ◌*◌, ◌≤◌, Bool, true, false, List, [], ◌∷◌, length, sym, subst, refl, ◌∙◌, arith}
use Rattle.std.specs.Prelude.{Option, Some, None, is_some, slice_get, nat_le, pos, ◌==◌, if◌then◌else◌}
use Rattle.std.specs.List.{AllByRecursion}
use Rattle.std.specs.Option.{option_map, option_map_or}
use Rattle.std.proofs.lemmas.Option.{none-some, same_Some}
use Rattle.heap_objects.specs.declared.datum.Datum.{Datum}
use Rattle.heap_objects.specs.declared.datum.Datum.TheVariants as datum
use Rattle.heap_objects.specs.declared.object.Object.{Object}
use Rattle.heap_objects.specs.declared.object.Object.TheVariants.{Instance, Array, Text}
use Rattle.heap_objects.specs.Heaps.{HeapView, interned_number, kind_at, new_array, next_number, with_array, with_instance, with_interned, with_object, with_slot_at, with_text, with_units_replaced}
use Rattle.heap_objects.specs.Interning.{number_of, with_number}
use Rattle.heap_objects.specs.Objects.{changed_at, kind_of, with_slot, with_units}
use Rattle.const_pool.specs.declared.class.ClassFile.{ClassFile}
use Rattle.const_pool.specs.declared.class.Member.{Member}
use Rattle.jvm_model.specs.Running.Constants.{FieldConstant, Number, Units, Setting, can_intern, constant_for, goes_on, constant_set, sets_constants, sets_field, sets_fields, sets_string}
use Rattle.jvm_model.specs.Instructions.CreationRules.{with_arrays, with_parts}
use Rattle.jvm_model.specs.Basis.Data.{Shared, World}
use Rattle.jvm_model.specs.Basis.KindNumbers.{user_count}
use Rattle.jvm_model.specs.Basis.Programs.{class_at}
use Rattle.jvm_model.specs.Basis.SharedState.{Allocated, Field, heap_before, input_stream, kind_for, made_with, message_cost, message_in, null, out_of_memory, print_stream, shared_before, string, strings_kind, with_arguments, with_exception, with_message, with_static, with_texts}
use Rattle.jvm_model.specs.Soundness.Sound.{HasBuiltIn, IsBuiltInName, IsFit, IsLoaded, IsOfLoaded, IsSoundShared, IsUsable}
use Rattle.jvm_model.specs.declared.program.Program.{Program}
use Rattle.jvm_model.proofs.Soundness.SoundClasses.{all-both, all-then}
use Rattle.jvm_model.proofs.Soundness.SoundKinds.{built-in-usable, kind-usable, under_usable, usable-grows}

module _ (p : Program) (loaded : List ℕ) where
  abbrev pub AreSound : HeapView → Type 0
  AreSound h = AllByRecursion (IsOfLoaded p loaded) h.objects

  -- ---- an object that is there

  found-usable : (os : List Object) (at kind : ℕ) → AllByRecursion (IsOfLoaded p loaded) os → option_map kind_of (slice_get os at) ≡ Some kind → IsUsable p loaded kind
  found-usable [] at kind each e = absurd (none-some kind e)
  found-usable (o ∷ os) zero kind each e = subst (IsUsable p loaded) (same_Some (kind_of o) kind e) each.0
  found-usable (o ∷ os) (suc at) kind each e = found-usable os at kind each.1 e

  pub object-usable : (h : HeapView) (object kind : ℕ) → AllByRecursion (IsOfLoaded p loaded) h.objects → kind_at object h ≡ Some kind → IsUsable p loaded kind
  object-usable h object kind are e = by (object == 0) e
    where
      by : (b : Bool) → option_map kind_of (if b then None else slice_get h.objects (object - 1)) ≡ Some kind → IsUsable p loaded kind
      by true e = absurd (none-some kind e)
      by false e = found-usable h.objects (object - 1) kind are e

  -- ---- objects that are changed

  each-changed : (f : Object → Object) → ((o : Object) → kind_of (f o) ≡ kind_of o) → (at : ℕ) (os : List Object) → AllByRecursion (IsOfLoaded p loaded) os
      → AllByRecursion (IsOfLoaded p loaded) (changed_at f at os)
  each-changed f same at [] each = tt
  each-changed f same zero (o ∷ os) each = (subst (IsUsable p loaded) (sym (same o)) each.0, each.1)
  each-changed f same (suc at) (o ∷ os) each = (each.0, each-changed f same at os each.1)

  slot-kind : (slot : ℕ) (v : Datum) (o : Object) → kind_of (with_slot slot v o) ≡ kind_of o
  slot-kind slot v (Instance kind fields) = refl
  slot-kind slot v (Array a) = refl
  slot-kind slot v (Text kind units) = refl

  units-kind : (units : List ℕ) (o : Object) → kind_of (with_units units o) ≡ kind_of o
  units-kind units (Instance kind fields) = refl
  units-kind units (Array a) = refl
  units-kind units (Text kind old) = refl

  pub objects-slot : (object slot : ℕ) (v : Datum) (h : HeapView) → AreSound h → AreSound (with_slot_at object slot v h)
  objects-slot object slot v h are = each-changed (with_slot slot v) (slot-kind slot v) (object - 1) h.objects are

  pub objects-units : (object : ℕ) (units : List ℕ) (h : HeapView) → AreSound h → AreSound (with_units_replaced object units h)
  objects-units object units h are = each-changed (with_units units) (units-kind units) (object - 1) h.objects are

  -- ---- new objects

  objects-with : (o : Object) (h : HeapView) → IsOfLoaded p loaded o → AreSound h → AreSound (with_object o h)
  objects-with o h is are = all-both (IsOfLoaded p loaded) h.objects (o ∷ []) are (is, tt)

  pub objects-instance : (kind : ℕ) (fields : List Datum) (h : HeapView) → IsUsable p loaded kind → AreSound h → AreSound (with_instance kind fields h)
  objects-instance kind fields h is are = objects-with (Instance kind fields) h is are

  pub objects-text : (kind : ℕ) (units : List ℕ) (h : HeapView) → IsUsable p loaded kind → AreSound h → AreSound (with_text kind units h)
  objects-text kind units h is are = objects-with (Text kind units) h is are

  pub objects-array : (kind : ℕ) (first : Datum) (count : ℕ) (h : HeapView) → IsUsable p loaded kind → AreSound h → AreSound (with_array kind first count h)
  objects-array kind first count h is are = objects-with (new_array kind first count) h is are

  pub objects-interned : (kind : ℕ) (units : List ℕ) (h : HeapView) → IsUsable p loaded kind → AreSound h → AreSound (with_interned kind units h)
  objects-interned kind units h is are = by (is_some (number_of units h.interned))
    where
      by : (b : Bool) → AreSound (if b then h else record (with_text kind units h) { interned = with_number units (next_number h) h.interned })
      by true = are
      by false = objects-text kind units h is are

  -- ---- arrays of arrays

  parts-sound : (make : HeapView → HeapView) → ((h : HeapView) → AreSound h → AreSound (make h)) → (array at left : ℕ) (h : HeapView) → AreSound h
      → AreSound (with_parts make array at left h)
  parts-sound make keeps array at zero h are = are
  parts-sound make keeps array at (suc left) h are =
      parts-sound make keeps array (at + 1) left (make (with_slot_at array at (datum.Ref (next_number h)) h))
      (keeps (with_slot_at array at (datum.Ref (next_number h)) h) (objects-slot array at (datum.Ref (next_number h)) h are))

  module _ (root : IsLoaded loaded (user_count p)) where
    pub objects-arrays : (kind : ℕ) (lengths : List ℕ) (h : HeapView) → IsUsable p loaded kind → length lengths * 16777216 ≤ kind → AreSound h
        → AreSound (with_arrays kind lengths h)
    objects-arrays kind [] h is deep are = are
    objects-arrays kind (n ∷ []) h is deep are = objects-array kind (datum.Int (pos 0)) n h is are
    objects-arrays kind (n ∷ next ∷ more) h is deep are =
        parts-sound (with_arrays (kind - 16777216) (next ∷ more))
        (λ g good. objects-arrays (kind - 16777216) (next ∷ more) g (under_usable p loaded root kind (omega arith) is) (omega arith) good)
        (next_number h) 0 n (with_array kind (datum.Int (pos 0)) n h)
        (objects-array kind (datum.Int (pos 0)) n h is are)

-- ---- with more classes loaded

pub objects-grow : (p : Program) (before after : List ℕ) → ((class : ℕ) → IsLoaded before class → IsLoaded after class) → (os : List Object)
    → AllByRecursion (IsOfLoaded p before) os → AllByRecursion (IsOfLoaded p after) os
objects-grow p before after grown os each =
    all-then (IsOfLoaded p before) (IsOfLoaded p after) (λ o is. usable-grows p before after grown (kind_of o) is) os each

-- ---- what is shared

pub with-heap : (p : Program) (s : Shared) (h : HeapView) → IsSoundShared p s → AllByRecursion (IsOfLoaded p s.loaded) h.objects → IsSoundShared p (record s { heap = h })
with-heap p s h is are = record { built_in = is.built_in; above = is.above; objects = are }

-- classes that are loaded stay so, and what is shared stays sound
pub record KeepsShared (p : Program) (before after : Shared) : Type 0 where
  pub loaded : after.loaded ≡ before.loaded
  pub shared : IsSoundShared p after

-- ---- exceptions that the machine makes

abbrev made_by : Program → Shared → List ℕ → Option (List ℕ) → Datum → Bool → Allocated
made_by p s name message cause fits =
    if fits then record { shared = record s { heap = with_exception p name message cause s.heap }; reference = next_number (with_message p message s.heap) }
    else record { shared = s; reference = 1 }

module _ (p : Program) (fit : IsFit p) (s : Shared) (is : IsSoundShared p s) where
  message-sound : (message : Option (List ℕ)) → AreSound p s.loaded (with_message p message s.heap)
  message-sound None = is.objects
  message-sound (Some units) = objects-text p s.loaded (kind_for p string) units s.heap (kind-usable p fit s.loaded is.built_in string refl) is.objects

  made-sound : (name : List ℕ) (message : Option (List ℕ)) (cause : Datum) (fits : Bool) → IsBuiltInName name
      → KeepsShared p s (made_by p s name message cause fits).shared
  made-sound name message cause true known = record {
    loaded = refl;
    shared = with-heap p s (with_exception p name message cause s.heap) is
        (objects-instance p s.loaded (kind_for p name) (message_in message s.heap ∷ cause ∷ []) (with_message p message s.heap)
        (kind-usable p fit s.loaded is.built_in name known) (message-sound message));
  }
  made-sound name message cause false known = record { loaded = refl; shared = is }

pub exception-sound : (w : World) → IsFit w.program → (s : Shared) → IsSoundShared w.program s → (name : List ℕ) (message : Option (List ℕ)) (cause : Datum)
    → IsBuiltInName name → KeepsShared w.program s (made_with w s name message cause).shared
exception-sound w fit s is name message cause known =
    made-sound w.program fit s is name message cause (nat_le (s.heap.used + (message_cost message + 3)) s.heap.limit) known

-- ---- constants

pub static-sound : (p : Program) (s : Shared) (f : Field) (d : Datum) → IsSoundShared p s → IsSoundShared p (with_static s f d)
static-sound p s f d is = record { built_in = is.built_in; above = is.above; objects = is.objects }

module _ (p : Program) (fit : IsFit p) where
  string-sound : (f : Field) (units : List ℕ) (s : Shared) → IsSoundShared p s → KeepsShared p s (sets_string p f units s).shared
  string-sound f units s is = by (can_intern units s.heap)
    where
      interned : Shared
      interned = record s { heap = with_interned (kind_for p string) units s.heap }

      by : (b : Bool) → KeepsShared p s (let a : Setting = if b then constant_set (with_static (record s { heap = with_interned (kind_for p string) units s.heap }) f (datum.Ref (interned_number units s.heap))) else record { shared = s; thrown = Some 1 } in a).shared
      by true = record {
        loaded = refl;
        shared = static-sound p interned f (datum.Ref (interned_number units s.heap))
            (with-heap p s (with_interned (kind_for p string) units s.heap) is
            (objects-interned p s.loaded (kind_for p string) units s.heap (kind-usable p fit s.loaded is.built_in string refl) is.objects));
      }
      by false = record { loaded = refl; shared = is }

  field-sound : (f : Field) (o : Option FieldConstant) (s : Shared) → IsSoundShared p s → KeepsShared p s (sets_field p f o s).shared
  field-sound f None s is = record { loaded = refl; shared = is }
  field-sound f (Some (Number d)) s is = record { loaded = refl; shared = static-sound p s f d is }
  field-sound f (Some (Units units)) s is = string-sound f units s is

  fields-sound : (c : ClassFile) (class position : ℕ) (fields : List Member) (s : Shared) → IsSoundShared p s
      → KeepsShared p s (sets_fields p c class position fields s).shared
  fields-sound c class position [] s is = record { loaded = refl; shared = is }
  fields-sound c class position (f ∷ rest) s is =
      by (sets_field p (record { class = class; position = position }) (constant_for c f) s).thrown
      (sets_field p (record { class = class; position = position }) (constant_for c f) s).shared
      (field-sound (record { class = class; position = position }) (constant_for c f) s is)
      (λ after sound. fields-sound c class (position + 1) rest after sound)
    where
      by : (thrown : Option ℕ) (after : Shared) → KeepsShared p s after
          → ((next : Shared) → IsSoundShared p next → KeepsShared p next (sets_fields p c class (position + 1) rest next).shared)
          → KeepsShared p s (goes_on thrown after (sets_fields p c class (position + 1) rest)).shared
      by (Some object) after kept more = kept
      by None after kept more = let rest_kept = more after kept.shared in record { loaded = rest_kept.loaded ∙ kept.loaded; shared = rest_kept.shared }

  pub constants-sound : (class : ℕ) (s : Shared) → IsSoundShared p s → KeepsShared p s (sets_constants p class s).shared
  constants-sound class s is = by (class_at p class)
    where
      by : (o : Option ClassFile) → KeepsShared p s (option_map_or (λ (c : ClassFile). sets_fields p c class 0 c.fields s) o (constant_set s)).shared
      by None = record { loaded = refl; shared = is }
      by (Some c) = fields-sound c class 0 c.fields s is

  -- ---- the arguments of `main`

  texts-sound : (loaded : List ℕ) → HasBuiltIn p loaded → (array at : ℕ) (args : List (List ℕ)) (h : HeapView) → AreSound p loaded h
      → AreSound p loaded (with_texts p array at args h)
  texts-sound loaded has array at [] h are = are
  texts-sound loaded has array at (arg ∷ args) h are =
      texts-sound loaded has array (at + 1) args (with_slot_at array at (datum.Ref (next_number h)) (with_text (kind_for p string) arg h))
      (objects-slot p loaded array at (datum.Ref (next_number h)) (with_text (kind_for p string) arg h)
      (objects-text p loaded (kind_for p string) arg h (kind-usable p fit loaded has string refl) are))

  pub arguments-sound : (loaded : List ℕ) → HasBuiltIn p loaded → (h : HeapView) → AreSound p loaded h → AreSound p loaded (with_arguments p h)
  arguments-sound loaded has h are =
      texts-sound loaded has (next_number h) 0 p.args (with_array (strings_kind p) null (length p.args) h)
      (objects-array p loaded (strings_kind p) null (length p.args) h (built-in-usable p fit loaded has 1 string refl) are)

-- ---- before the start

pub before-sound : (p : Program) → IsFit p → IsSoundShared p (shared_before p)
before-sound p fit = record { built_in = fit.before; above = fit.above; objects = all }
  where
    kind : (name : List ℕ) → IsBuiltInName name → IsUsable p (shared_before p).loaded (kind_for p name)
    kind name known = kind-usable p fit (shared_before p).loaded fit.before name known

    all : AreSound p (shared_before p).loaded (heap_before p)
    all = (kind out_of_memory refl, (kind input_stream refl, (kind print_stream refl, (kind print_stream refl, tt))))
