-- What stands at an offset of a program's code, and what holds of the reference that a line names (JVM Specification
-- 4.7.3).
use Rattle.std.specs.Prelude.{ℕ, Option, Some, None}
use Rattle.std.specs.Option.{option_and_then}
use Rattle.const_pool.specs.declared.class.ClassFile.{ClassFile}
use Rattle.code_model.specs.Instructions.{instruction_at}
use Rattle.jvm_model.specs.declared.program.Program.{Program}
use Rattle.jvm_model.specs.Basis.Methods.{method_code}
use Rattle.jvm_model.specs.Basis.Programs.{by_number}
use Rattle.jvm_model.specs.declared.instruction.SymbolicReference.{SymbolicReference}
use Rattle.jvm_model.specs.declared.instruction.Operation.TheVariants.{Named}
use Rattle.jvm_model.specs.declared.instruction.Operation.{Operation}
use Rattle.jvm_model.specs.declared.instruction.Operation.TheVariants as operation
use Rattle.prepared_lines.specs.declared.line.LocalAction.{LocalAction}
use Rattle.prepared_lines.specs.declared.line.Line.{Line}
use Rattle.prepared_lines.specs.Lines.{line_of}

-- ---- lines

-- at an offset of the method at a position of a class
abbrev pub method_line : ℕ → ClassFile → ℕ → Option Line
method_line at c method = option_and_then (λ code. option_and_then (line_of c) (instruction_at code.code at)) (method_code c method)

-- at an offset of the method with this number
abbrev pub original_line_at : Program → ℕ → ℕ → Option Line
original_line_at p method at = by_number p (method_line at) method

-- ---- what holds of the reference of a line, and of the place behind it

abbrev pub IfNamedBy : Operation LocalAction → ℕ → (SymbolicReference → ℕ → Type 0) → Type 0
IfNamedBy (operation.Named n) next Holds = Holds n next
IfNamedBy _ next Holds = Unit {0}

-- where a line stands, and names something
abbrev pub IfNamed : Option Line → (SymbolicReference → ℕ → Type 0) → Type 0
IfNamed None Holds = Unit {0}
IfNamed (Some line) Holds = IfNamedBy line.operation line.next Holds
