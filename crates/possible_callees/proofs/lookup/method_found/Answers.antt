-- The texts are those of the reference.
use Rattle.std.proofs.Common.{◌∙◌, ap}
use Rattle.const_pool.specs.References.{name_type_of}
use Rattle.jvm_model.specs.Classes.Lookup.{resolved_method}
use Rattle.jvm_model.specs.Classes.Selection.{is_static}
use Rattle.jvm_model.specs.Profiling.Targets.{found_where}
use Rattle.possible_callees.proofs.lookup.method_found.Goals as goal

pub returns : goal.returns
returns c =
    let p = c.args.linker.now.program in
    c.method_in.ensures
    ∙ (ap (λ n. found_where (is_static p) c.args.fixed (resolved_method p c.args.class c.args.interface (name_type_of n c.descriptor.result.now))) c.name.ensures
    ∙ ap (λ d. found_where (is_static p) c.args.fixed (resolved_method p c.args.class c.args.interface (name_type_of c.args.member.now.member.name d))) c.descriptor.ensures)
