-- What is read of an object.
use Rattle.std.proofs.Common.{◌≡◌, ℕ, ◌-◌, ◌≤◌, [], length, refl, arith}
use Rattle.std.specs.Prelude.{Option, Some, None, slice_get, option_and_then, unwrap_or}
use Rattle.std.specs.Option.{option_map, option_map_or}
use Rattle.std.proofs.lemmas.Option.{slice_get-map}
use Rattle.std.proofs.lemmas.List.{length-map, take_all}
use Rattle.heap_objects.specs.declared.object.Object.{Object}
use Rattle.heap_objects.specs.declared.object.Object.TheVariants.{Instance, Array, Text}
use Rattle.heap_objects.specs.Objects.{slots_of, length_of, object_at}
use Rattle.heap_objects.specs.Heaps.{HeapView, slot_at}
use Rattle.native_effects.specs.Inputs.Objects.{values_at, size_at, chars_at, char_in_datum}
use Rattle.native_effects.specs.Inputs.Places.{between}

slot_of : (o : Option Object) (slot : ℕ) → option_and_then (λ o. slice_get (slots_of o) slot) o ≡ slice_get (option_map_or slots_of o []) slot
slot_of None slot = refl
slot_of (Some o) slot = refl

pub slot_is : (object slot : ℕ) (h : HeapView) → slot_at object slot h ≡ slice_get (values_at object h) slot
slot_is object slot h = slot_of (object_at object h.objects) slot

size_of : (o : Option Object) → length (option_map_or slots_of o []) ≤ unwrap_or (option_map length_of o) 0
size_of None = omega arith
size_of (Some (Instance kind fields)) = omega arith
size_of (Some (Array a)) = omega arith
size_of (Some (Text kind units)) = omega arith

-- an object has no more values than its size
pub values_within : (object : ℕ) (h : HeapView) → length (values_at object h) ≤ size_at object h
values_within object h = size_of (object_at object h.objects)

-- the unit in a slot is that of the value there
pub char_is : (object slot : ℕ) (h : HeapView) → slice_get (chars_at object h) slot ≡ option_map char_in_datum (slice_get (values_at object h) slot)
char_is object slot h = slice_get-map char_in_datum (values_at object h) slot

-- all units of an array are those from its start to its size
pub chars_whole : (object : ℕ) (h : HeapView) → between 0 (size_at object h) (chars_at object h) ≡ chars_at object h
chars_whole object h =
    take_all (size_at object h - 0) (chars_at object h) (omega (arith, length-map (values_at object h) char_in_datum, values_within object h))

pub ruleset reads = (slot_is, values_within)
