-- The heap as a list of objects, numbered from 1 in order of allocation; how many slots were used; and the interned
-- texts. An object takes one slot and one for each field, element or unit. Slots are never given back.
use Rattle.std.specs.Prelude.{◌≡◌, ◌↔◌, ◌<◌, ◌≤◌, ℕ, ◌+◌, ◌-◌, ◌++◌, Bool, false, List, [], ◌∷◌, length, Option, None, Result, Err, IsSome, IfSome, unwrap_or, option_and_then, slice_get, replicate, is_some, if◌then◌else◌}
use Rattle.std.specs.Option.{option_map, option_map_or}
use Rattle.heap_objects.specs.declared.datum.Datum.{Datum}
use Rattle.heap_objects.specs.declared.object.Object.{Object}
use Rattle.heap_objects.specs.declared.object.Object.TheVariants.{Instance, Array, Text}
use Rattle.heap_objects.specs.declared.error.HeapError.{HeapError}
use Rattle.heap_objects.specs.declared.error.HeapError.TheVariants.{HeapFull}
use Rattle.heap_objects.specs.Objects.{kind_of, length_of, cost_of, total_cost, slots_of, units_of, kept_by, has_slot, has_unit, with_slot, with_unit, with_units, with_more_units, object_at, changed_at}
use Rattle.heap_objects.specs.Kinds.{element_of}
use Rattle.heap_objects.specs.Kept.{element_kept}
use Rattle.heap_objects.specs.Interning.{number_of, with_number}

pub record HeapView : Type 0 where
  pub limit : ℕ
  pub used : ℕ
  pub objects : List Object
  pub interned : List (List ℕ × ℕ)

abbrev pub empty_heap : ℕ → HeapView
empty_heap limit = record { limit = limit; used = 0; objects = []; interned = [] }

-- so many slots more pass the limit
abbrev pub ExceedsLimit : ℕ → HeapView → Type 0
ExceedsLimit asked h = h.limit < h.used + asked

-- the answer is that the heap is full exactly where this holds
abbrev pub IsFullExactly : {A : Type 0} → Result A HeapError → Type 0 → Type 0
IsFullExactly result P = (result ≡ Err HeapFull) ↔ P

-- ---- what is read

abbrev pub slot_at : ℕ → ℕ → HeapView → Option Datum
slot_at object slot h = option_and_then (λ o. slice_get (slots_of o) slot) (object_at object h.objects)

abbrev pub has_slot_at : ℕ → ℕ → HeapView → Bool
has_slot_at object slot h = option_map_or (has_slot slot) (object_at object h.objects) false

abbrev pub has_unit_at : ℕ → ℕ → HeapView → Bool
has_unit_at object at h = option_map_or (has_unit at) (object_at object h.objects) false

abbrev pub kind_at : ℕ → HeapView → Option ℕ
kind_at object h = option_map kind_of (object_at object h.objects)

abbrev pub length_at : ℕ → HeapView → Option ℕ
length_at object h = option_map length_of (object_at object h.objects)

abbrev pub units_at : ℕ → HeapView → Option (List ℕ)
units_at object h = option_and_then units_of (object_at object h.objects)

-- the slots of the object, where there is one, keep this value whole
abbrev pub IsKeptBy : ℕ → HeapView → Datum → Type 0
IsKeptBy object h v = IfSome (object_at object h.objects) (λ o. kept_by o v ≡ v)

-- the object is a text
abbrev pub IsText : ℕ → HeapView → Type 0
IsText object h = IsSome (units_at object h)

-- ---- what is made

-- one object more
abbrev pub with_object : Object → HeapView → HeapView
with_object o h = record h { used = h.used + cost_of o; objects = h.objects ++ o ∷ [] }

-- an array whose elements all have what they keep of a value
abbrev pub new_array : ℕ → Datum → ℕ → Object
new_array kind zero len = Array (record { kind = kind; items = replicate len (element_kept (element_of kind) zero) })

abbrev pub with_instance : ℕ → List Datum → HeapView → HeapView
with_instance kind fields h = with_object (Instance kind fields) h

abbrev pub with_array : ℕ → Datum → ℕ → HeapView → HeapView
with_array kind zero len h = with_object (new_array kind zero len) h

abbrev pub with_text : ℕ → List ℕ → HeapView → HeapView
with_text kind units h = with_object (Text kind units) h

-- the number of the object that is made next
abbrev pub next_number : HeapView → ℕ
next_number h = length h.objects + 1

-- the number of the object that was made for equal units, or of the one that is made for these
abbrev pub interned_number : List ℕ → HeapView → ℕ
interned_number units h = unwrap_or (number_of units h.interned) (next_number h)

-- a text that is made once for equal units
abbrev pub with_interned : ℕ → List ℕ → HeapView → HeapView
with_interned kind units h =
    if is_some (number_of units h.interned) then h
    else record (with_text kind units h) { interned = with_number units (next_number h) h.interned }

-- the units are not interned yet, and a text of them passes the limit
abbrev pub CannotIntern : List ℕ → HeapView → Type 0
CannotIntern units h = (number_of units h.interned ≡ None) × ExceedsLimit (1 + length units) h

-- ---- what is changed

abbrev pub with_changed : (Object → Object) → ℕ → HeapView → HeapView
with_changed f object h = record h { objects = changed_at f (object - 1) h.objects }

-- a value was put into a slot
abbrev pub with_slot_at : ℕ → ℕ → Datum → HeapView → HeapView
with_slot_at object slot v h = with_changed (with_slot slot v) object h

-- a unit was put at a place of a text
abbrev pub with_unit_at : ℕ → ℕ → ℕ → HeapView → HeapView
with_unit_at object at unit h = with_changed (with_unit at unit) object h

-- how many slots more a text takes with these units in place of its own
abbrev pub growth_of : ℕ → List ℕ → HeapView → ℕ
growth_of object units h = length units - unwrap_or (length_at object h) 0

-- what the text grows by with these units passes the limit
abbrev pub GrowsPastLimit : ℕ → List ℕ → HeapView → Type 0
GrowsPastLimit object units h = ExceedsLimit (growth_of object units h) h

-- units were added to a text
abbrev pub with_units_added : ℕ → List ℕ → HeapView → HeapView
with_units_added object units h =
    record (with_changed (with_more_units units) object h) { used = h.used + length units }

-- a text has these units in place of its own
abbrev pub with_units_replaced : ℕ → List ℕ → HeapView → HeapView
with_units_replaced object units h =
    record (with_changed (with_units units) object h) { used = h.used + growth_of object units h }

-- ---- what always holds

-- The objects take no more slots than were used, and those are within the limit.
pub record IsSound (h : HeapView) : Type 0 where
  pub within : h.used ≤ h.limit
  pub counted : total_cost h.objects ≤ h.used
