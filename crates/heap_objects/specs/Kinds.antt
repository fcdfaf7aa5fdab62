-- Kinds: the number d * 2 ^ 24 + b of a class or an array. d is how many dimensions it has, 0 for what is no array. b
-- is the code of newarray for a primitive element (JVM Specification chapter 6, newarray), from 16 on a class.
use Rattle.std.specs.Prelude.{ℕ, ◌==◌, nat_le, if◌then◌else◌}
use Rattle.heap_objects.specs.declared.element.ElementType.{ElementType}
use Rattle.heap_objects.specs.declared.element.ElementType.TheVariants.{Boolean, Char, Byte, Short, Int, Long, Reference, Any}

-- What an array of this kind holds. Beside the codes that newarray has for whole numbers, arrays of classes and arrays
-- of arrays hold references.
abbrev pub element_of : ℕ → ElementType
element_of kind =
    if nat_le 16777232 kind then Reference else
    if kind == 16777220 then Boolean else
    if kind == 16777221 then Char else
    if kind == 16777224 then Byte else
    if kind == 16777225 then Short else
    if kind == 16777226 then Int else
    if kind == 16777227 then Long else Any
