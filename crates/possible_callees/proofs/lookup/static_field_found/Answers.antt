-- The texts are those of the reference.
use Rattle.std.proofs.Common.{◌∙◌, ap, true}
use Rattle.const_pool.specs.References.{name_type_of}
use Rattle.jvm_model.specs.Classes.Lookup.{resolved_field}
use Rattle.jvm_model.specs.Instructions.FieldRules.{is_static_field}
use Rattle.jvm_model.specs.Profiling.Targets.{found_where}
use Rattle.possible_callees.proofs.lookup.static_field_found.Goals as goal

pub returns : goal.returns
returns c =
    let p = c.args.linker.now.program in
    c.static_field_in.ensures
    ∙ (ap (λ n. found_where (is_static_field p) true (resolved_field p c.args.class (name_type_of n c.descriptor.result.now))) c.name.ensures
    ∙ ap (λ d. found_where (is_static_field p) true (resolved_field p c.args.class (name_type_of c.args.member.now.member.name d))) c.descriptor.ensures)
