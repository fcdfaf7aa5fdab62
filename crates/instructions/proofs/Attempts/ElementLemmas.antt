-- Slots of objects.
use Rattle.std.proofs.Common.{◌≡◌, ℕ, Bool, true, false, List, refl, sym, ◌∙◌, length, get_or}
use Rattle.std.specs.Prelude.{Option, Some, None, nat_lt, slice_get, is_some, pos, if◌then◌else◌}
use Rattle.std.specs.Option.{option_map_or, option_and_then}
use Rattle.std.proofs.lemmas.Bool.{lt-ltb, ltb-true, false≢true}
use Rattle.std.proofs.lemmas.Option.{none-some, slice_get_within, slice_get-get_or}
use Rattle.heap_objects.specs.declared.datum.Datum.{Datum}
use Rattle.heap_objects.specs.declared.datum.Datum.TheVariants.{Int}
use Rattle.heap_objects.specs.declared.object.Object.{Object}
use Rattle.heap_objects.specs.Heaps.{HeapView, has_slot_at, slot_at}
use Rattle.heap_objects.specs.Objects.{has_slot, object_at, slots_of}
use Rattle.jvm_model.specs.Instructions.ObjectRules.{Inside, Outside, index_in}
use Rattle.instructions.specs.Elements.{element_at}

is_within : (xs : List Datum) (n : ℕ) → is_some (slice_get xs n) ≡ nat_lt n (length xs)
is_within xs n = by (slice_get xs n) refl
  where
    past : (b : Bool) → slice_get xs n ≡ None → nat_lt n (length xs) ≡ b → false ≡ b
    past false e h = refl
    past true e h = absurd (none-some (get_or xs n (Int (pos 0))) (sym e ∙ slice_get-get_or xs n (Int (pos 0)) (ltb-true n (length xs) h)))

    by : (found : Option Datum) → slice_get xs n ≡ found → is_some found ≡ nat_lt n (length xs)
    by (Some x) e = sym (lt-ltb n (length xs) (slice_get_within xs n x e))
    by None e = past (nat_lt n (length xs)) e refl

slot_of : (found : Option Object) (slot : ℕ)
    → is_some (option_and_then (λ o. slice_get (slots_of o) slot) found) ≡ option_map_or (has_slot slot) found false
slot_of None slot = refl
slot_of (Some o) slot = is_within (slots_of o) slot

pub is_slot : (object slot : ℕ) (h : HeapView) → is_some (slot_at object slot h) ≡ has_slot_at object slot h
is_slot object slot h = slot_of (object_at object h.objects) slot

-- an element is within, or there is none
element_if : (b : Bool) (r n : ℕ) (h : HeapView) → is_some (slot_at r n h) ≡ b → element_at (if b then Inside n else Outside) r h ≡ slot_at r n h
element_if true r n h e = refl
element_if false r n h e = none_there (slot_at r n h) e
  where
    none_there : (d : Option Datum) → is_some d ≡ false → None ≡ d
    none_there None e = refl
    none_there (Some x) e = absurd (false≢true (sym e))

pub element_in : (r n : ℕ) (h : HeapView) → element_at (index_in r (pos n) h) r h ≡ slot_at r n h
element_in r n h = element_if (has_slot_at r n h) r n h (is_slot r n h)
