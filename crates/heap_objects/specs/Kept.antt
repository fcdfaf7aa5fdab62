-- What an array keeps of a value that is put into it (JVM Specification chapter 6, bastore to sastore): of a boolean
-- the lowest bit, of a byte, a char and a short the low bits.
use Rattle.std.specs.Prelude.{ℕ, ◌%◌, ℤ, pos}
use Rattle.std.specs.Int.{w8, w16, w32, cast_unsigned, int_wrap}
use Rattle.int_ops.specs.Arithmetic.{zero_extended}
use Rattle.heap_objects.specs.declared.datum.Datum.{Datum}
use Rattle.heap_objects.specs.declared.datum.Datum.TheVariants.{Int, Long, Ref}
use Rattle.heap_objects.specs.declared.element.ElementType.{ElementType}
use Rattle.heap_objects.specs.declared.element.ElementType.TheVariants.{Boolean, Char, Byte, Short, Int as IntElement, Long as LongElement, Reference, Any}

-- the int of a value, or 0 where it is of another sort; likewise the long and the reference
abbrev pub int_of : Datum → ℤ
int_of (Int n) = n
int_of (Long n) = pos 0
int_of (Ref r) = pos 0

abbrev pub long_of : Datum → ℤ
long_of (Int n) = pos 0
long_of (Long n) = n
long_of (Ref r) = pos 0

abbrev pub reference_of : Datum → ℕ
reference_of (Int n) = 0
reference_of (Long n) = 0
reference_of (Ref r) = r

-- what an element of this sort keeps of a value
abbrev pub element_kept : ElementType → Datum → Datum
element_kept Boolean v = Int (pos (cast_unsigned w32 (int_of v) % 2))
element_kept Char v = Int (zero_extended w16 (int_of v))
element_kept Byte v = Int (int_wrap w8 (int_of v))
element_kept Short v = Int (int_wrap w16 (int_of v))
element_kept IntElement v = Int (int_of v)
element_kept LongElement v = Long (long_of v)
element_kept Reference v = Ref (reference_of v)
element_kept Any v = v
