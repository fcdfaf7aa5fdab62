-- The classes of a generated program, by names in place of indices.
use Rattle.std.specs.Prelude.{ℕ, zero, suc, List, [], ◌∷◌, ◌++◌}
use Rattle.program_gen.specs.declared.rows.ClassName.{ClassName}
use Rattle.program_gen.specs.declared.rows.ClassName.TheVariants.{Object, System, PrintStream, Main, Numbered}
use Rattle.program_gen.specs.declared.rows.MemberName.TheVariants.{Initializer, Entry, Run, Out, Println}
use Rattle.program_gen.specs.declared.rows.Instruction.{Instruction}
use Rattle.program_gen.specs.declared.rows.Instruction.TheVariants.{Plain, Byte, Short, OfClass, OfMember}
use Rattle.program_gen.specs.declared.rows.MethodRow.{MethodRow}
use Rattle.program_gen.specs.declared.rows.ClassRow.{ClassRow}
use Rattle.program_gen.specs.declared.rows.Choices.{Choices}
use Rattle.program_gen.specs.Draws.{choices_of}

-- aload_0, invokespecial of the superclass's constructor, return
abbrev pub constructor_code : ClassName → List Instruction
constructor_code superclass = Plain 42 ∷ OfMember 183 superclass Initializer ∷ Plain 177 ∷ []

-- new, dup, invokespecial of the class's constructor
abbrev pub object_made : ℕ → List Instruction
object_made number = OfClass 187 (Numbered number) ∷ Plain 89 ∷ OfMember 183 (Numbered number) Initializer ∷ []

-- iload_2, iconst_1, isub, invokevirtual Gen0.run
abbrev pub run_less : List Instruction
run_less = Plain 28 ∷ Plain 4 ∷ Plain 100 ∷ OfMember 182 (Numbered 0) Run ∷ []

-- iload_2, ifgt over what follows, iload_1, ireturn
abbrev pub run_ends : List Instruction
run_ends = Plain 28 ∷ Short 157 5 ∷ Plain 27 ∷ Plain 172 ∷ []

-- iload_1, sipush, imul, sipush, iadd
abbrev pub product_and_sum : ℕ → ℕ → List Instruction
product_and_sum factor addend = Plain 27 ∷ Short 17 factor ∷ Plain 104 ∷ Short 17 addend ∷ Plain 96 ∷ []

-- a second object is given the argument as it is; ixor and ireturn come last
abbrev pub run_code : Choices → List Instruction
run_code c =
    run_ends ++ (object_made c.left ++ (product_and_sum c.factor c.addend ++ (run_less
    ++ (object_made c.right ++ (Plain 27 ∷ (run_less ++ (Plain 130 ∷ Plain 172 ∷ [])))))))

-- getstatic System.out, a Gen0, iconst_1, bipush 12, invokevirtual run and println, return
abbrev pub entry_code : List Instruction
entry_code =
    OfMember 178 System Out ∷ (object_made 0
    ++ (Plain 4 ∷ Byte 16 12 ∷ OfMember 182 (Numbered 0) Run ∷ OfMember 182 PrintStream Println ∷ Plain 177 ∷ []))

abbrev pub constructor : ClassName → MethodRow
constructor superclass = record { access = 0x0001; name = Initializer; max_stack = 1; max_locals = 1; code = constructor_code superclass }

abbrev pub run_method : Choices → MethodRow
run_method c = record { access = 0x0001; name = Run; max_stack = 5; max_locals = 3; code = run_code c }

abbrev pub entry_method : MethodRow
entry_method = record { access = 0x0009; name = Entry; max_stack = 4; max_locals = 1; code = entry_code }

abbrev pub main_row : ClassRow
main_row = record { name = Main; superclass = Object; methods = entry_method ∷ [] }

abbrev pub numbered_row : ℕ → Choices → ClassRow
numbered_row number c = record { name = Numbered number; superclass = c.superclass; methods = constructor c.superclass ∷ run_method c ∷ [] }

-- the classes with a number below this one, in order
abbrev pub rows_below : ℕ → ℕ → ℕ → List ClassRow
rows_below seed size zero = []
rows_below seed size (suc i) = rows_below seed size i ++ numbered_row i (choices_of seed size i) ∷ []

-- the whole program
abbrev pub program_rows : ℕ → ℕ → List ClassRow
program_rows seed size = main_row ∷ rows_below seed size size
