-- No effect changes the heap's limit.
use Rattle.std.proofs.Common.{◌≡◌, ℕ, ◌+◌, Bool, true, false, List, [], ◌∷◌, length, if◌then◌else◌, refl, ap, ◌∙◌, pos}
use Rattle.std.specs.Prelude.{nat_lt, is_some}
use Rattle.heap_objects.specs.declared.datum.Datum.{Datum}
use Rattle.heap_objects.specs.declared.datum.Datum.TheVariants.{Int}
use Rattle.heap_objects.specs.Changes.{changed_if}
use Rattle.heap_objects.specs.Interning.{number_of, with_number}
use Rattle.heap_objects.specs.Heaps.{HeapView, has_slot_at, with_slot_at, has_unit_at, with_unit_at, units_at, growth_of, with_units_added, with_units_replaced, with_interned, with_text, with_instance, with_array, next_number}
use Rattle.native_effects.specs.declared.effects.effect.NativeEffect.{NativeEffect}
use Rattle.native_effects.specs.declared.effects.effect.NativeEffect.TheVariants.{Answers, MakesText, MakesArray, MakesInstance, Appends, Replaces, PutsUnit, Resizes, Interns, Prints, Reads, Stores, SetsFields, GivesClass, GivesBox}
use Rattle.native_effects.specs.Inputs.Numbers.{string_kind, class_kind}
use Rattle.native_effects.specs.Inputs.Objects.{size_at, text_at}
use Rattle.native_effects.specs.Inputs.MadeViews.{object_of_class, object_of_box}
use Rattle.native_effects.specs.Effects.Making.{is_full, put_at, with_values, heap_with_append, heap_with_replace, heap_with_interned, units_resized}
use Rattle.native_effects.specs.Effects.Worlds.{World, after}

-- either heap has the limit
either : (b : Bool) (limit : ℕ) (one other : HeapView) → one.limit ≡ limit → other.limit ≡ limit → (if b then one else other).limit ≡ limit
either true limit one other h k = h
either false limit one other h k = k

put-limit : (object slot : ℕ) (v : Datum) (h : HeapView) → (put_at object slot v h).limit ≡ h.limit
put-limit object slot v h = either (has_slot_at object slot h) h.limit (with_slot_at object slot v h) h refl refl

values-limit : (object slot : ℕ) (values : List Datum) (h : HeapView) → (with_values object slot values h).limit ≡ h.limit
values-limit object slot [] h = refl
values-limit object slot (v ∷ values) h =
    either (nat_lt slot (size_at object h)) h.limit (with_values object (slot + 1) values (put_at object slot v h)) h
    (values-limit object (slot + 1) values (put_at object slot v h) ∙ put-limit object slot v h) refl

append-limit : (object : ℕ) (units : List ℕ) (h : HeapView) → (heap_with_append object units h).limit ≡ h.limit
append-limit object units h =
    either (is_some (units_at object h)) h.limit (if is_full (length units) h then h else with_units_added object units h) h
    (either (is_full (length units) h) h.limit h (with_units_added object units h) refl refl) refl

replace-limit : (object : ℕ) (units : List ℕ) (h : HeapView) → (heap_with_replace object units h).limit ≡ h.limit
replace-limit object units h =
    either (is_some (units_at object h)) h.limit (if is_full (growth_of object units h) h then h else with_units_replaced object units h) h
    (either (is_full (growth_of object units h) h) h.limit h (with_units_replaced object units h) refl refl) refl

interned-limit : (units : List ℕ) (h : HeapView) → (with_interned string_kind units h).limit ≡ h.limit
interned-limit units h =
    either (is_some (number_of units h.interned)) h.limit h
    (record (with_text string_kind units h) { interned = with_number units (next_number h) h.interned }) refl refl

intern-limit : (units : List ℕ) (h : HeapView) → (heap_with_interned units h).limit ≡ h.limit
intern-limit units h =
    either (is_some (number_of units h.interned)) h.limit h (if is_full (1 + length units) h then h else with_interned string_kind units h) refl
    (either (is_full (1 + length units) h) h.limit h (with_interned string_kind units h) refl (interned-limit units h))

pub after-limit : (e : NativeEffect) (w : World) → (after e w).heap.limit ≡ w.heap.limit
after-limit (Answers answer) w = refl
after-limit (MakesText units) w = either (is_full (1 + length units) w.heap) w.heap.limit w.heap (with_text string_kind units w.heap) refl refl
after-limit (MakesArray kind values) w =
    either (is_full (1 + length values) w.heap) w.heap.limit w.heap
    (with_values (next_number w.heap) 0 values (with_array kind (Int (pos 0)) (length values) w.heap)) refl
    (values-limit (next_number w.heap) 0 values (with_array kind (Int (pos 0)) (length values) w.heap))
after-limit (MakesInstance kind fields) w =
    either (is_full (1 + length fields) w.heap) w.heap.limit w.heap (with_instance kind fields w.heap) refl refl
after-limit (Appends object units) w = append-limit object units w.heap
after-limit (Replaces object units value) w = replace-limit object units w.heap
after-limit (PutsUnit object at unit) w = either (has_unit_at object at w.heap) w.heap.limit (with_unit_at object at unit w.heap) w.heap refl refl
after-limit (Resizes object size) w = replace-limit object (units_resized size (text_at object w.heap)) w.heap
after-limit (Interns units) w = intern-limit units w.heap
after-limit (Prints units) w = refl
after-limit Reads w = refl
after-limit (Stores array place values answer) w = values-limit array place values w.heap
after-limit (SetsFields object first second) w =
    put-limit object 1 second (put_at object 0 first w.heap) ∙ put-limit object 0 first w.heap
after-limit (GivesClass kind) w =
    either (is_some (object_of_class kind w.made.classes)) w.heap.limit w.heap
    (if is_full 1 w.heap then w.heap else with_instance class_kind [] w.heap) refl
    (either (is_full 1 w.heap) w.heap.limit w.heap (with_instance class_kind [] w.heap) refl refl)
after-limit (GivesBox kind place value) w =
    either (is_some (object_of_box kind place w.made.boxes)) w.heap.limit w.heap
    (if is_full 2 w.heap then w.heap else with_instance kind (value ∷ []) w.heap) refl
    (either (is_full 2 w.heap) w.heap.limit w.heap (with_instance kind (value ∷ []) w.heap) refl refl)

-- whether it is done or not
pub kept-limit : (done : Bool) (f : World → World) (w : World) (new : HeapView) → ((w : World) → (f w).heap.limit ≡ w.heap.limit)
    → new ≡ (changed_if done f w).heap → new.limit ≡ w.heap.limit
kept-limit true f w new law is = ap (λ (h : HeapView). h.limit) is ∙ law w
kept-limit false f w new law is = ap (λ (h : HeapView). h.limit) is
