-- The classes of a heap's objects stay loaded, and those of new objects are.
use Rattle.std.proofs.Common.{◌≡◌, ℕ, zero, suc, ◌-◌, Bool, true, false, List, [], ◌∷◌, ◌++◌, sym, subst, refl}
use Rattle.std.specs.Prelude.{Some, None, is_some, slice_get, ◌==◌, if◌then◌else◌}
use Rattle.std.specs.List.{AllByRecursion}
use Rattle.std.specs.Option.{option_map}
use Rattle.heap_objects.specs.declared.datum.Datum.{Datum}
use Rattle.heap_objects.specs.declared.object.Object.{Object}
use Rattle.heap_objects.specs.declared.object.Object.TheVariants.{Instance, Array, Text}
use Rattle.heap_objects.specs.Changes.{changed_if}
use Rattle.heap_objects.specs.Heaps.{HeapView, kind_at, next_number, with_interned, with_object, with_slot_at, with_text}
use Rattle.heap_objects.specs.Interning.{number_of, with_number}
use Rattle.heap_objects.specs.Objects.{changed_at, kind_of, with_slot}
use Rattle.jvm_model.specs.Basis.KindNumbers.{user_count}
use Rattle.jvm_model.specs.Basis.SharedState.{class_of_kind}
use Rattle.jvm_model.proofs.Loading.Among.{among-front}
use Rattle.class_linker.specs.Linkers.{IsLoaded, LinkerView}
use Rattle.member_selection.specs.Attempts.{with_more}
use Rattle.member_selection.specs.Objects.{IsUsable}
use Rattle.member_selection.specs.Objects.{AreLoaded, IsOfLoaded}

-- ---- with more classes loaded

module _ (l : LinkerView) (more : List ℕ) where
  pub loaded_more : (class : ℕ) → IsLoaded l class → IsLoaded (with_more l more) class
  loaded_more class is = among-front class l.loaded more is

  pub usable_more : (kind : ℕ) → IsUsable l kind → IsUsable (with_more l more) kind
  usable_more kind is = record {
    known = λ class e. loaded_more class (is.known class e);
    of_class = loaded_more (class_of_kind l.program kind) is.of_class;
  }

  each-more : (os : List Object) → AllByRecursion (IsOfLoaded l) os → AllByRecursion (IsOfLoaded (with_more l more)) os
  each-more [] each = tt
  each-more (o ∷ os) each = (usable_more (kind_of o) each.0, each-more os each.1)

  pub objects_more : (h : HeapView) → AreLoaded l h → AreLoaded (with_more l more) h
  objects_more h are = record { objects = each-more h.objects are.objects; root = loaded_more (user_count l.program) are.root }

-- ---- an object

module _ (l : LinkerView) where
  found-usable : (os : List Object) (at kind : ℕ) → AllByRecursion (IsOfLoaded l) os → option_map kind_of (slice_get os at) ≡ Some kind → IsUsable l kind
  found-usable [] at kind each e = absurd (let no : None ≡ Some kind → ⊥ = λ e. cc in no e)
  found-usable (o ∷ os) zero kind each e = subst (IsUsable l) (let same : Some (kind_of o) ≡ Some kind → kind_of o ≡ kind = λ e. cc in same e) each.0
  found-usable (o ∷ os) (suc at) kind each e = found-usable os at kind each.1 e

  pub object_usable : (h : HeapView) (object kind : ℕ) → AreLoaded l h → kind_at object h ≡ Some kind → IsUsable l kind
  object_usable h object kind are e = by (object == 0) e
    where
      by : (b : Bool) → option_map kind_of (if b then None else slice_get h.objects (object - 1)) ≡ Some kind → IsUsable l kind
      by true e = absurd (let no : None ≡ Some kind → ⊥ = λ e. cc in no e)
      by false e = found-usable h.objects (object - 1) kind are.objects e

  each-with : (os : List Object) (o : Object) → AllByRecursion (IsOfLoaded l) os → IsOfLoaded l o → AllByRecursion (IsOfLoaded l) (os ++ o ∷ [])
  each-with [] o each is = (is, tt)
  each-with (first ∷ os) o each is = (each.0, each-with os o each.1 is)

  pub objects_with : (h : HeapView) (o : Object) → AreLoaded l h → IsOfLoaded l o → AreLoaded l (with_object o h)
  objects_with h o are is = record { objects = each-with h.objects o are.objects is; root = are.root }

  slot-kind : (slot : ℕ) (v : Datum) (o : Object) → kind_of (with_slot slot v o) ≡ kind_of o
  slot-kind slot v (Instance kind fields) = refl
  slot-kind slot v (Array a) = refl
  slot-kind slot v (Text kind units) = refl

  each-slot : (slot : ℕ) (v : Datum) (at : ℕ) (os : List Object) → AllByRecursion (IsOfLoaded l) os
      → AllByRecursion (IsOfLoaded l) (changed_at (with_slot slot v) at os)
  each-slot slot v at [] each = tt
  each-slot slot v zero (o ∷ os) each = (subst (IsUsable l) (sym (slot-kind slot v o)) each.0, each.1)
  each-slot slot v (suc at) (o ∷ os) each = (each.0, each-slot slot v at os each.1)

  pub objects_slot : (h : HeapView) (object slot : ℕ) (v : Datum) → AreLoaded l h → AreLoaded l (with_slot_at object slot v h)
  objects_slot h object slot v are = record { objects = each-slot slot v (object - 1) h.objects are.objects; root = are.root }

pub objects_if : (l : LinkerView) (b : Bool) (h : HeapView) (o : Object) → AreLoaded l h → IsOfLoaded l o → AreLoaded l (changed_if b (with_object o) h)
objects_if l true h o are is = objects_with l h o are is
objects_if l false h o are is = are

pub objects_slot_if : (l : LinkerView) (b : Bool) (h : HeapView) (object slot : ℕ) (v : Datum) → AreLoaded l h
    → AreLoaded l (changed_if b (with_slot_at object slot v) h)
objects_slot_if l true h object slot v are = objects_slot l h object slot v are
objects_slot_if l false h object slot v are = are

pub objects_interned : (l : LinkerView) (b : Bool) (h : HeapView) (kind : ℕ) (units : List ℕ) → AreLoaded l h → IsUsable l kind
    → AreLoaded l (changed_if b (with_interned kind units) h)
objects_interned l false h kind units are is = are
objects_interned l true h kind units are is = by (is_some (number_of units h.interned))
  where
    by : (b : Bool) → AreLoaded l (if b then h else record (with_text kind units h) { interned = with_number units (next_number h) h.interned })
    by true = are
    by false = let more = objects_with l h (Text kind units) are is in record { objects = more.objects; root = more.root }
