-- Rows of the table as declarations.
use Rattle.std.specs.Prelude.{map}
use Rattle.std.specs.Option.{option_map}
use Rattle.const_pool.specs.References.{Reference}
use Rattle.base_classes.specs.Declarations.{NamedInstruction, CodeDeclaration, MemberDeclaration, ClassDeclaration}
use Rattle.base_classes.specs.Declarations.NamedInstruction.{plain, jump, load_text, on_member}
use Rattle.base_classes.specs.declared.rows.MemberName.{MemberName}
use Rattle.base_classes.specs.declared.rows.InstructionRow.{InstructionRow}
use Rattle.base_classes.specs.declared.rows.InstructionRow.TheVariants.{Plain, Jump, LoadText, OnMember}
use Rattle.base_classes.specs.declared.rows.CodeRow.{CodeRow}
use Rattle.base_classes.specs.declared.rows.MemberRow.{MemberRow}
use Rattle.base_classes.specs.declared.rows.ClassRow.{ClassRow}

abbrev pub reference_view : MemberName → Reference
reference_view m = record { class = m.class.now; member = record { name = m.name.now; descriptor = m.descriptor.now } }

abbrev pub instruction_view : InstructionRow → NamedInstruction
instruction_view (Plain op) = plain op
instruction_view (Jump op target) = jump op target
instruction_view (LoadText text) = load_text text.now
instruction_view (OnMember op member) = on_member op (reference_view member)

abbrev pub code_view : CodeRow → CodeDeclaration
code_view c = record { max_stack = c.max_stack; max_locals = c.max_locals; instructions = map instruction_view c.instructions.now }

abbrev pub member_view : MemberRow → MemberDeclaration
member_view m = record { access = m.access; name = m.name.now; descriptor = m.descriptor.now; code = option_map (λ c. code_view c.now) m.code }

abbrev pub class_view : ClassRow → ClassDeclaration
class_view c = record {
  access = c.access;
  name = c.name.now;
  superclass = option_map (λ s. s.now) c.superclass;
  interfaces = map (λ i. i.now) c.interfaces.now;
  fields = map member_view c.fields.now;
  methods = map member_view c.methods.now;
}
