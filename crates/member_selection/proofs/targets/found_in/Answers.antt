use Rattle.std.proofs.Common.{◌∙◌, ap}
use Rattle.const_pool.specs.References.{name_type_of}
use Rattle.jvm_model.specs.Classes.Lookup.{resolved_method}
use Rattle.jvm_model.specs.Instructions.SymbolicReference.{member_found}
use Rattle.member_selection.proofs.targets.found_in.Goals as goal

pub returns : goal.returns
returns c =
    c.method_in.ensures
    ∙ (ap (λ n. member_found (resolved_method c.args.linker.now.program c.args.class c.args.interface (name_type_of n c.descriptor.result.now))) c.name.ensures
    ∙ ap (λ d. member_found (resolved_method c.args.linker.now.program c.args.class c.args.interface (name_type_of c.args.member.now.member.name d))) c.descriptor.ensures)
