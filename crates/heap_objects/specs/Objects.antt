-- Objects, and lists of them in order of allocation (JVM Specification 2.7).
use Rattle.std.specs.Prelude.{ℕ, zero, suc, ◌+◌, ◌-◌, ◌==◌, ◌++◌, Bool, false, List, [], ◌∷◌, length, Option, Some, None, nat_lt, slice_get, slice_set, sum_by, unwrap_or, if◌then◌else◌}
use Rattle.std.specs.Option.{option_map}
use Rattle.heap_objects.specs.declared.datum.Datum.{Datum}
use Rattle.heap_objects.specs.declared.object.Object.{Object}
use Rattle.heap_objects.specs.declared.object.Object.TheVariants.{Instance, Array, Text}
use Rattle.heap_objects.specs.Kinds.{element_of}
use Rattle.heap_objects.specs.Kept.{element_kept}
use Rattle.heap_objects.specs.ArrayView.{with_element}

abbrev pub kind_of : Object → ℕ
kind_of (Instance kind fields) = kind
kind_of (Array a) = a.kind
kind_of (Text kind units) = kind

-- how many fields, elements or units it has
abbrev pub length_of : Object → ℕ
length_of (Instance kind fields) = length fields
length_of (Array a) = length a.items
length_of (Text kind units) = length units

-- how many slots of the heap it takes
abbrev pub cost_of : Object → ℕ
cost_of o = 1 + length_of o

-- the values of its fields or elements; a text has none
abbrev pub slots_of : Object → List Datum
slots_of (Instance kind fields) = fields
slots_of (Array a) = a.items
slots_of (Text kind units) = []

abbrev pub units_of : Object → Option (List ℕ)
units_of (Instance kind fields) = None
units_of (Array a) = None
units_of (Text kind units) = Some units

abbrev pub has_slot : ℕ → Object → Bool
has_slot slot o = nat_lt slot (length (slots_of o))

-- what a slot keeps of a value that is put into it: a field all, an element what elements of the array's kind keep
abbrev pub kept_by : Object → Datum → Datum
kept_by (Instance kind fields) v = v
kept_by (Array a) v = element_kept (element_of a.kind) v
kept_by (Text kind units) v = v

-- a value was put into a slot
abbrev pub with_slot : ℕ → Datum → Object → Object
with_slot slot v (Instance kind fields) = Instance kind (slice_set fields slot v)
with_slot slot v (Array a) = Array (with_element slot v a)
with_slot slot v (Text kind units) = Text kind units

abbrev pub has_unit : ℕ → Object → Bool
has_unit at (Instance kind fields) = false
has_unit at (Array a) = false
has_unit at (Text kind units) = nat_lt at (length units)

-- a unit was put at a place of a text
abbrev pub with_unit : ℕ → ℕ → Object → Object
with_unit at unit (Instance kind fields) = Instance kind fields
with_unit at unit (Array a) = Array a
with_unit at unit (Text kind units) = Text kind (slice_set units at unit)

-- a text has these units
abbrev pub with_units : List ℕ → Object → Object
with_units units (Instance kind fields) = Instance kind fields
with_units units (Array a) = Array a
with_units units (Text kind old) = Text kind units

-- units were added at the end of a text
abbrev pub with_more_units : List ℕ → Object → Object
with_more_units units (Instance kind fields) = Instance kind fields
with_more_units units (Array a) = Array a
with_more_units units (Text kind old) = Text kind (old ++ units)

-- ---- lists of objects: the number 1 is the first one's, and 0 none's

abbrev pub object_at : ℕ → List Object → Option Object
object_at number objects = if number == 0 then None else slice_get objects (number - 1)

-- the list with what stands at a place changed, or as it is past the end
abbrev pub changed_at : (Object → Object) → ℕ → List Object → List Object
changed_at f place [] = []
changed_at f zero (o ∷ objects) = f o ∷ objects
changed_at f (suc place) (o ∷ objects) = o ∷ changed_at f place objects

-- a value was put into a slot of the object at a place
abbrev pub with_slot_in : ℕ → ℕ → Datum → List Object → List Object
with_slot_in place slot v objects = changed_at (with_slot slot v) place objects

-- a unit was put at a place of the text at a place of the list
abbrev pub with_unit_in : ℕ → ℕ → ℕ → List Object → List Object
with_unit_in place at unit objects = changed_at (with_unit at unit) place objects

-- the text at a place has these units
abbrev pub with_units_in : ℕ → List ℕ → List Object → List Object
with_units_in place units objects = changed_at (with_units units) place objects

-- units were added at the end of the text at a place
abbrev pub with_more_units_in : ℕ → List ℕ → List Object → List Object
with_more_units_in place units objects = changed_at (with_more_units units) place objects

-- how many slots of the heap the objects take
abbrev pub total_cost : List Object → ℕ
total_cost objects = sum_by cost_of objects

-- how many units more than the object at a place has these are
abbrev pub growth_in : ℕ → List ℕ → List Object → ℕ
growth_in place units objects = length units - unwrap_or (option_map length_of (slice_get objects place)) 0
