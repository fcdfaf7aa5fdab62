-- Worked lines: the operation of each instruction that names something, by its opcode and its entry in the pool (JVM
-- Specification 4.4, 6.5).
use Rattle.std.specs.Prelude.{◌≡◌, ℕ, false, ◌++◌, List, [], ◌∷◌, Option, Some, None, codes, refl, replicate}
use Rattle.const_pool.specs.declared.class.ClassFile.{ClassFile}
use Rattle.const_pool.specs.declared.pool.Const.TheVariants.{Gap, Utf8, Class, Field, Method, InterfaceMethod, NameType}
use Rattle.const_pool.specs.References.{Reference}
use Rattle.code_model.specs.declared.instr.Arg.{Arg}
use Rattle.code_model.specs.declared.instr.Arg.TheVariants as arg
use Rattle.jvm_model.specs.Basis.Data.{New, Getfield, Putfield, Getstatic, Putstatic, Invokevirtual, Invokespecial, Invokestatic, Invokeinterface, Checkcast, Instanceof, Anewarray, Multianewarray, Local, Operation, Named}
use Rattle.jvm_model.specs.Basis.Families.{family_of, rows}
use Rattle.jvm_model.specs.Codes.Lines.{operation_by}
use Rattle.jvm_model.specs.Basis.Programs.{no_class}
use Rattle.jvm_model.proofs.Worked.WorkedPrograms.{reference}

-- class C: entry 3 is class A, 7 a field of it, 11 a method and 12 an interface's, and 13 the array type of this name
abbrev class_with : List ℕ → ClassFile
class_with name = record no_class {
  pool = Gap ∷ Class 2 ∷ Utf8 (codes "C") ∷ Class 14 ∷ NameType 5 6 ∷ Utf8 (codes "f") ∷ Utf8 (codes "I") ∷ Field 3 4
      ∷ NameType 9 10 ∷ Utf8 (codes "m") ∷ Utf8 (codes "()V") ∷ Method 3 8 ∷ InterfaceMethod 3 8
      ∷ Class 15 ∷ Utf8 (codes "A") ∷ Utf8 name ∷ [];
  this_class = 1;
}

abbrev operation_in : List ℕ → ℕ → Arg → Option (Operation Local)
operation_in name op a = operation_by (class_with name) op a (family_of op)

-- with two dimensions
abbrev square : List ℕ
square = codes "[[I"

-- an instruction with this entry's index
abbrev at_entry : ℕ → ℕ → Option (Operation Local)
at_entry op index = operation_in square op (arg.Pool index)

abbrev a : List ℕ
a = codes "A"

abbrev f : Reference
f = reference a (codes "f") (codes "I")

abbrev m : Reference
m = reference a (codes "m") (codes "()V")

-- ---- fields

getstatic-names : at_entry 178 7 ≡ Some (Named (Getstatic f))
unfolding family_of rows
getstatic-names = refl

putstatic-names : at_entry 179 7 ≡ Some (Named (Putstatic f))
unfolding family_of rows
putstatic-names = refl

getfield-names : at_entry 180 7 ≡ Some (Named (Getfield f))
unfolding family_of rows
getfield-names = refl

putfield-names : at_entry 181 7 ≡ Some (Named (Putfield f))
unfolding family_of rows
putfield-names = refl

getstatic-of_method : at_entry 178 11 ≡ None
unfolding family_of rows
getstatic-of_method = refl

-- ---- methods: an interface's is named by invokeinterface alone

invokevirtual-names : at_entry 182 11 ≡ Some (Named (Invokevirtual m))
unfolding family_of rows
invokevirtual-names = refl

-- with the class in which it stands
invokespecial-names : at_entry 183 11 ≡ Some (Named (Invokespecial (codes "C") m false))
unfolding family_of rows
invokespecial-names = refl

invokestatic-names : at_entry 184 11 ≡ Some (Named (Invokestatic m))
unfolding family_of rows
invokestatic-names = refl

invokestatic-of_interface : at_entry 184 12 ≡ None
unfolding family_of rows
invokestatic-of_interface = refl

invokeinterface-names : operation_in square 185 (arg.Interface 12 1 0) ≡ Some (Named (Invokeinterface m))
unfolding family_of rows
invokeinterface-names = refl

invokeinterface-of_class : operation_in square 185 (arg.Interface 11 1 0) ≡ None
unfolding family_of rows
invokeinterface-of_class = refl

-- ---- classes and array types

new-names : at_entry 187 3 ≡ Some (Named (New a))
unfolding family_of rows
new-names = refl

new-of_field : at_entry 187 7 ≡ None
unfolding family_of rows
new-of_field = refl

anewarray-names : at_entry 189 13 ≡ Some (Named (Anewarray square))
unfolding family_of rows
anewarray-names = refl

checkcast-names : at_entry 192 13 ≡ Some (Named (Checkcast square))
unfolding family_of rows
checkcast-names = refl

instanceof-names : at_entry 193 3 ≡ Some (Named (Instanceof a))
unfolding family_of rows
instanceof-names = refl

multianewarray-names : operation_in square 197 (arg.Multi 13 2) ≡ Some (Named (Multianewarray square 2))
unfolding family_of rows
multianewarray-names = refl

-- ---- limits of dimensions: 255 in all, and of those that are given one at least, and as many as there are at most

abbrev deep : ℕ → List ℕ
deep dimensions = replicate dimensions 91 ++ codes "I"

anewarray-of_most : operation_in (deep 254) 189 (arg.Pool 13) ≡ Some (Named (Anewarray (deep 254)))
unfolding family_of rows
anewarray-of_most = refl

anewarray-of_too_many : operation_in (deep 255) 189 (arg.Pool 13) ≡ None
unfolding family_of rows
anewarray-of_too_many = refl

multianewarray-of_none : operation_in square 197 (arg.Multi 13 0) ≡ None
unfolding family_of rows
multianewarray-of_none = refl

multianewarray-of_too_many : operation_in square 197 (arg.Multi 13 3) ≡ None
unfolding family_of rows
multianewarray-of_too_many = refl

multianewarray-of_class : operation_in square 197 (arg.Multi 3 1) ≡ None
unfolding family_of rows
multianewarray-of_class = refl
