-- The values of an array that is kept as narrow as its elements.
use Rattle.std.specs.Prelude.{ℕ, ℤ, pos, Bool, List, map, slice_set, if◌then◌else◌}
use Rattle.heap_objects.specs.declared.datum.Datum.{Datum}
use Rattle.heap_objects.specs.declared.datum.Datum.TheVariants.{Int, Long, Ref}
use Rattle.heap_objects.specs.declared.element.ElementType.{ElementType}
use Rattle.heap_objects.specs.declared.element.ElementType.TheVariants.{Boolean, Char, Byte, Short, Int as IntElement, Long as LongElement, Reference, Any}
use Rattle.heap_objects.specs.Kept.{element_kept}
use Rattle.heap_objects.specs.declared.cells.Cells.{Cells}
use Rattle.heap_objects.specs.declared.cells.Cells.TheVariants.{Booleans, Chars, Bytes, Shorts, Ints, Longs, References, Data}

abbrev pub bit_datum : Bool → Datum
bit_datum b = Int (if b then pos 1 else pos 0)

abbrev pub char_datum : ℕ → Datum
char_datum n = Int (pos n)

abbrev pub int_datum : ℤ → Datum
int_datum n = Int n

abbrev pub long_datum : ℤ → Datum
long_datum n = Long n

abbrev pub reference_datum : ℕ → Datum
reference_datum r = Ref r

abbrev pub data_in : Cells → List Datum
data_in (Booleans v) = map bit_datum v.items
data_in (Chars v) = map char_datum v.items
data_in (Bytes v) = map int_datum v.items
data_in (Shorts v) = map int_datum v.items
data_in (Ints v) = map int_datum v.items
data_in (Longs v) = map long_datum v.items
data_in (References v) = map reference_datum v.items
data_in (Data v) = v.items

-- what the cells are made for
abbrev pub element_in : Cells → ElementType
element_in (Booleans v) = Boolean
element_in (Chars v) = Char
element_in (Bytes v) = Byte
element_in (Shorts v) = Short
element_in (Ints v) = IntElement
element_in (Longs v) = LongElement
element_in (References v) = Reference
element_in (Data v) = Any

-- the values with one put into an element, which keeps of it what the cells are made for
abbrev pub data_with : ℕ → Datum → Cells → List Datum
data_with slot v cells = slice_set (data_in cells) slot (element_kept (element_in cells) v)
