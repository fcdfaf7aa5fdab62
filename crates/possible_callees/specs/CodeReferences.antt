-- The instructions of a code that can begin methods, with what they name.
use Rattle.std.specs.Prelude.{ℕ, List, [], length, filter_map, Option, None}
use Rattle.std.specs.Option.{option_map_or}
use Rattle.const_pool.specs.declared.class.ClassFile.{ClassFile}
use Rattle.const_pool.specs.declared.class.CodeAttribute.{CodeAttribute}
use Rattle.const_pool.specs.declared.class.Member.{Member}
use Rattle.jvm_model.specs.declared.instruction.SymbolicReference.{SymbolicReference}
use Rattle.jvm_model.specs.declared.instruction.Operation.TheVariants.{Named}
use Rattle.jvm_model.specs.declared.instruction.Operation.{Operation}
use Rattle.jvm_model.specs.Codes.Lines.{operation_of}
use Rattle.jvm_model.specs.Basis.Methods.{code_of}
use Rattle.jvm_model.specs.Codes.Places.{read_from}
use Rattle.prepared_lines.specs.declared.line.LocalAction.{LocalAction}
use Rattle.jvm_model.specs.Profiling.Revelation.{symbolic_reference_in}

-- what a line names, where it can begin a method
abbrev pub begins_by : Operation LocalAction → Option SymbolicReference
begins_by (Named n) = symbolic_reference_in (Named n)
begins_by _ = None

-- of so many instructions from an offset on
abbrev pub symbolic_references_from : ClassFile → ℕ → List ℕ → ℕ → List SymbolicReference
symbolic_references_from c n code at = filter_map symbolic_reference_in (filter_map (operation_of c) (read_from n code at))

abbrev pub references_in_code : ClassFile → List ℕ → List SymbolicReference
references_in_code c code = symbolic_references_from c (length code) code 0

abbrev pub member_references : ClassFile → Member → List SymbolicReference
member_references c m = option_map_or (λ (code : CodeAttribute). references_in_code c code.code) (code_of m) []
