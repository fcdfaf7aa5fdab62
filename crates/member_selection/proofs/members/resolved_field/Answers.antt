use Rattle.std.proofs.Common.{◌∙◌, ap}
use Rattle.const_pool.specs.References.{name_type_of}
use Rattle.jvm_model.specs.Classes.Lookup.{resolved_field}
use Rattle.jvm_model.specs.Instructions.SymbolicReference.{member_found}
use Rattle.member_selection.proofs.members.resolved_field.Goals as goal

pub returns : goal.returns
returns c =
    c.field_in.ensures
    ∙ (ap (λ n. member_found (resolved_field c.args.linker.now.program c.args.class (name_type_of n c.descriptor.result.now))) c.name.ensures
    ∙ ap (λ d. member_found (resolved_field c.args.linker.now.program c.args.class (name_type_of c.args.member.now.member.name d))) c.descriptor.ensures)
