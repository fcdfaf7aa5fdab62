-- The kinds of a heap's objects through a native method: those that are there keep theirs, and those of new objects are
-- known.
use Rattle.std.proofs.Common.{◌≡◌, ℕ, zero, suc, ◌+◌, ◌-◌, ◌≤◌, pos, Bool, true, false, List, [], ◌∷◌, ◌++◌, length, if◌then◌else◌, refl, sym, subst, ap, ◌∙◌, arith}
use Rattle.std.specs.Prelude.{⊤, Some, None, nat_lt, is_some, slice_get, ◌==◌}
use Rattle.std.specs.Option.{option_map}
use Rattle.std.proofs.lemmas.Option.{none-some}
use Rattle.heap_objects.specs.declared.datum.Datum.{Datum}
use Rattle.heap_objects.specs.declared.datum.Datum.TheVariants.{Int}
use Rattle.heap_objects.specs.declared.object.Object.{Object}
use Rattle.heap_objects.specs.declared.object.Object.TheVariants.{Instance, Array, Text}
use Rattle.heap_objects.specs.Objects.{kind_of, changed_at, with_slot, with_unit, with_units, with_more_units}
use Rattle.heap_objects.specs.Interning.{number_of, with_number}
use Rattle.heap_objects.specs.Heaps.{HeapView, kind_at, new_array, has_slot_at, with_slot_at, has_unit_at, with_unit_at, units_at, growth_of, with_units_added, with_units_replaced, with_interned, with_text, with_instance, with_array, next_number}
use Rattle.native_effects.specs.declared.effects.effect.NativeEffect.{NativeEffect}
use Rattle.native_effects.specs.declared.effects.effect.NativeEffect.TheVariants.{Answers, MakesText, MakesArray, MakesInstance, Appends, Replaces, PutsUnit, Resizes, Interns, Prints, Reads, Stores, SetsFields, GivesClass, GivesBox}
use Rattle.native_effects.specs.Inputs.Numbers.{string_kind, class_kind}
use Rattle.native_effects.specs.Inputs.Objects.{size_at, text_at}
use Rattle.native_effects.specs.Inputs.KindsViews.{KindsView}
use Rattle.native_effects.specs.Inputs.MadeViews.{MadeView, object_of_class, object_of_box}
use Rattle.native_effects.specs.Effects.Making.{is_full, put_at, with_values, heap_with_append, heap_with_replace, heap_with_interned, heap_after_class, units_resized}
use Rattle.native_effects.specs.Effects.Worlds.{World, after, world}
use Rattle.native_ops.specs.Methods.Calls.{effect_of, world_by}
use Rattle.native_ops.proofs.KindsMade.{AreMade, HaveKinds, IsMadeOf, effect-made}

-- what stays with one object more of a kind, and with an object that is changed and keeps its kind
pub record StaysBy (P : ℕ → Type 0) (K : List Object → Type 0) : Type 0 where
  pub added : (os : List Object) (o : Object) → P (kind_of o) → K os → K (os ++ o ∷ [])
  pub changed : (f : Object → Object) → ((o : Object) → kind_of (f o) ≡ kind_of o) → (at : ℕ) (os : List Object) → K os → K (changed_at f at os)

-- ---- what is changed keeps its kind

slot-kind : (slot : ℕ) (v : Datum) (o : Object) → kind_of (with_slot slot v o) ≡ kind_of o
slot-kind slot v (Instance kind fields) = refl
slot-kind slot v (Array a) = refl
slot-kind slot v (Text kind units) = refl

unit-kind : (at unit : ℕ) (o : Object) → kind_of (with_unit at unit o) ≡ kind_of o
unit-kind at unit (Instance kind fields) = refl
unit-kind at unit (Array a) = refl
unit-kind at unit (Text kind units) = refl

units-kind : (units : List ℕ) (o : Object) → kind_of (with_units units o) ≡ kind_of o
units-kind units (Instance kind fields) = refl
units-kind units (Array a) = refl
units-kind units (Text kind old) = refl

more-kind : (units : List ℕ) (o : Object) → kind_of (with_more_units units o) ≡ kind_of o
more-kind units (Instance kind fields) = refl
more-kind units (Array a) = refl
more-kind units (Text kind old) = refl

-- ---- effects

module _ (P : ℕ → Type 0) (K : List Object → Type 0) (stays : StaysBy P K) where
  either : (b : Bool) (one other : HeapView) → K one.objects → K other.objects → K (if b then one else other).objects
  either true one other h k = h
  either false one other h k = k

  put-keeps : (object slot : ℕ) (v : Datum) (h : HeapView) → K h.objects → K (put_at object slot v h).objects
  put-keeps object slot v h is =
      either (has_slot_at object slot h) (with_slot_at object slot v h) h (stays.changed (with_slot slot v) (slot-kind slot v) (object - 1) h.objects is) is

  values-keep : (object slot : ℕ) (values : List Datum) (h : HeapView) → K h.objects → K (with_values object slot values h).objects
  values-keep object slot [] h is = is
  values-keep object slot (v ∷ values) h is =
      either (nat_lt slot (size_at object h)) (with_values object (slot + 1) values (put_at object slot v h)) h
      (values-keep object (slot + 1) values (put_at object slot v h) (put-keeps object slot v h is)) is

  append-keeps : (object : ℕ) (units : List ℕ) (h : HeapView) → K h.objects → K (heap_with_append object units h).objects
  append-keeps object units h is =
      either (is_some (units_at object h)) (if is_full (length units) h then h else with_units_added object units h) h
      (either (is_full (length units) h) h (with_units_added object units h) is
      (stays.changed (with_more_units units) (more-kind units) (object - 1) h.objects is)) is

  replace-keeps : (object : ℕ) (units : List ℕ) (h : HeapView) → K h.objects → K (heap_with_replace object units h).objects
  replace-keeps object units h is =
      either (is_some (units_at object h)) (if is_full (growth_of object units h) h then h else with_units_replaced object units h) h
      (either (is_full (growth_of object units h) h) h (with_units_replaced object units h) is
      (stays.changed (with_units units) (units-kind units) (object - 1) h.objects is)) is

  text-keeps : (units : List ℕ) (h : HeapView) → P string_kind → K h.objects → K (with_text string_kind units h).objects
  text-keeps units h text is = stays.added h.objects (Text string_kind units) text is

  intern-keeps : (units : List ℕ) (h : HeapView) → P string_kind → K h.objects → K (heap_with_interned units h).objects
  intern-keeps units h text is =
      either (is_some (number_of units h.interned)) h (if is_full (1 + length units) h then h else with_interned string_kind units h) is
      (either (is_full (1 + length units) h) h (with_interned string_kind units h) is
      (either (is_some (number_of units h.interned)) h (record (with_text string_kind units h) { interned = with_number units (next_number h) h.interned }) is
      (text-keeps units h text is)))

  instance-keeps : (found : Bool) (asked kind : ℕ) (fields : List Datum) (h : HeapView) → P kind → K h.objects
      → K (if found then h else if is_full asked h then h else with_instance kind fields h).objects
  instance-keeps found asked kind fields h made is =
      either found h (if is_full asked h then h else with_instance kind fields h) is
      (either (is_full asked h) h (with_instance kind fields h) is (stays.added h.objects (Instance kind fields) made is))

  pub after-keeps : (e : NativeEffect) (w : World) → IsMadeOf P e → AreMade P → K w.heap.objects → K (after e w).heap.objects
  after-keeps (Answers answer) w made are is = is
  after-keeps (MakesText units) w made are is =
      either (is_full (1 + length units) w.heap) w.heap (with_text string_kind units w.heap) is (text-keeps units w.heap are.text is)
  after-keeps (MakesArray kind values) w made are is =
      either (is_full (1 + length values) w.heap) w.heap
      (with_values (next_number w.heap) 0 values (with_array kind (Int (pos 0)) (length values) w.heap)) is
      (values-keep (next_number w.heap) 0 values (with_array kind (Int (pos 0)) (length values) w.heap)
      (stays.added w.heap.objects (new_array kind (Int (pos 0)) (length values)) made is))
  after-keeps (MakesInstance kind fields) w made are is = instance-keeps false (1 + length fields) kind fields w.heap made is
  after-keeps (Appends object units) w made are is = append-keeps object units w.heap is
  after-keeps (Replaces object units value) w made are is = replace-keeps object units w.heap is
  after-keeps (PutsUnit object at unit) w made are is =
      either (has_unit_at object at w.heap) (with_unit_at object at unit w.heap) w.heap
      (stays.changed (with_unit at unit) (unit-kind at unit) (object - 1) w.heap.objects is) is
  after-keeps (Resizes object size) w made are is = replace-keeps object (units_resized size (text_at object w.heap)) w.heap is
  after-keeps (Interns units) w made are is = intern-keeps units w.heap are.text is
  after-keeps (Prints units) w made are is = is
  after-keeps Reads w made are is = is
  after-keeps (Stores array place values answer) w made are is = values-keep array place values w.heap is
  after-keeps (SetsFields object first second) w made are is =
      put-keeps object 1 second (put_at object 0 first w.heap) (put-keeps object 0 first w.heap is)
  after-keeps (GivesClass kind) w made are is =
      instance-keeps (is_some (object_of_class kind w.made.classes)) 1 class_kind [] w.heap are.class is
  after-keeps (GivesBox kind place value) w made are is =
      instance-keeps (is_some (object_of_box kind place w.made.boxes)) 2 kind (value ∷ []) w.heap made is

-- ---- the kinds

module _ (P : ℕ → Type 0) where
  kinds-with : (os : List Object) (o : Object) → P (kind_of o) → HaveKinds P os → HaveKinds P (os ++ o ∷ [])
  kinds-with [] o is each = (is, tt)
  kinds-with (first ∷ os) o is each = (each.0, kinds-with os o is each.1)

  kinds-changed : (f : Object → Object) → ((o : Object) → kind_of (f o) ≡ kind_of o) → (at : ℕ) (os : List Object) → HaveKinds P os
      → HaveKinds P (changed_at f at os)
  kinds-changed f same at [] each = tt
  kinds-changed f same zero (o ∷ os) each = (subst P (sym (same o)) each.0, each.1)
  kinds-changed f same (suc at) (o ∷ os) each = (each.0, kinds-changed f same at os each.1)

-- A native method makes objects only of the kinds that native methods make by themselves, or of the kind of an object
-- that is there.
pub kinds-kept : (P : ℕ → Type 0) (number : ℕ) (kinds : KindsView) (args : List Datum) (w : World) → AreMade P → HaveKinds P w.heap.objects
    → HaveKinds P (world_by number kinds args w).heap.objects
kinds-kept P number kinds args w are have =
    after-keeps P (HaveKinds P) (record { added = kinds-with P; changed = kinds-changed P }) (effect_of number kinds args w) w
    (effect-made P number kinds args w are have) are have

-- nor does the Class object of a kind
pub class-kept : (P : ℕ → Type 0) (kind : ℕ) (made : MadeView) (h : HeapView) → AreMade P → HaveKinds P h.objects
    → HaveKinds P (heap_after_class kind made h).objects
class-kept P kind made h are have =
    after-keeps P (HaveKinds P) (record { added = kinds-with P; changed = kinds-changed P }) (GivesClass kind) (world h made [] 0) tt are have

-- ---- what is there stays there, with its kind

any-kinds : (os : List Object) → HaveKinds (λ k. ⊤) os
any-kinds [] = tt
any-kinds (o ∷ os) = (tt, any-kinds os)

any-made : AreMade (λ k. ⊤)
any-made = record { text = tt; class = tt; chars = tt; integer = tt; long = tt; character = tt; boolean = tt }

length-with : (os : List Object) (o : Object) → length (os ++ o ∷ []) ≡ suc (length os)
length-with [] o = refl
length-with (first ∷ os) o = ap suc (length-with os o)

length-changed : (f : Object → Object) (at : ℕ) (os : List Object) → length (changed_at f at os) ≡ length os
length-changed f at [] = refl
length-changed f zero (o ∷ os) = refl
length-changed f (suc at) (o ∷ os) = ap suc (length-changed f at os)

kind-with : (k place : ℕ) (os : List Object) (o : Object) → option_map kind_of (slice_get os place) ≡ Some k
    → option_map kind_of (slice_get (os ++ o ∷ []) place) ≡ Some k
kind-with k place [] o is = absurd (none-some k is)
kind-with k zero (first ∷ os) o is = is
kind-with k (suc place) (first ∷ os) o is = kind-with k place os o is

kind-changed : (k place : ℕ) (f : Object → Object) → ((o : Object) → kind_of (f o) ≡ kind_of o) → (at : ℕ) (os : List Object)
    → option_map kind_of (slice_get os place) ≡ Some k → option_map kind_of (slice_get (changed_at f at os) place) ≡ Some k
kind-changed k place f same at [] is = is
kind-changed k zero f same zero (o ∷ os) is = ap Some (same o) ∙ is
kind-changed k (suc place) f same zero (o ∷ os) is = is
kind-changed k zero f same (suc at) (o ∷ os) is = is
kind-changed k (suc place) f same (suc at) (o ∷ os) is = kind-changed k place f same at os is

module _ (number : ℕ) (kinds : KindsView) (args : List Datum) (w : World) where
  keeps : (K : List Object → Type 0) → StaysBy (λ k. ⊤) K → K w.heap.objects → K (world_by number kinds args w).heap.objects
  keeps K stays is =
      after-keeps (λ k. ⊤) K stays (effect_of number kinds args w) w
      (effect-made (λ k. ⊤) number kinds args w any-made (any-kinds w.heap.objects)) any-made is

  pub objects-grow : length w.heap.objects ≤ length (world_by number kinds args w).heap.objects
  objects-grow =
      keeps (λ os. length w.heap.objects ≤ length os)
      (record {
        added = λ os o made is. omega (arith, length-with os o, is);
        changed = λ f same at os is. omega (arith, length-changed f at os, is);
      }) (omega arith)

  pub kind-stays : (object k : ℕ) → kind_at object w.heap ≡ Some k → kind_at object (world_by number kinds args w).heap ≡ Some k
  kind-stays object k is = by (object == 0) is
    where
      by : (b : Bool) → option_map kind_of (if b then None else slice_get w.heap.objects (object - 1)) ≡ Some k
          → option_map kind_of (if b then None else slice_get (world_by number kinds args w).heap.objects (object - 1)) ≡ Some k
      by true is = is
      by false is =
          keeps (λ os. option_map kind_of (slice_get os (object - 1)) ≡ Some k)
          (record {
            added = λ os o made there. kind-with k (object - 1) os o there;
            changed = λ f same at os there. kind-changed k (object - 1) f same at os there;
          }) is
