use Rattle.std.proofs.Common.{◌∙◌, [], ap, subst, sym}
use Rattle.std.specs.Prelude.{OnOk}
use Rattle.std.specs.Option.{option_map_or}
use Rattle.jvm_model.specs.Instructions.InvocationRules.{Special}
use Rattle.jvm_model.specs.Profiling.Targets.{begun_on, class_with_methods}
use Rattle.possible_callees.specs.Tables.{Adds}
use Rattle.possible_callees.proofs.Numbers.Adding.{adds-nothing}
use Rattle.possible_callees.proofs.begun.add_special.Goals as goal

pub returns-in-Some : goal.returns-in-Some
returns-in-Some c =
    let p = c.args.linker.now.program in
    let loaded = c.args.lineage.now.loaded in
    subst (λ o. OnOk c.add_special_on.result (Adds c.args.found.now c.add_special_on.new.found
    (option_map_or (λ class. begun_on p loaded class (Special c.args.caller.now c.args.interface) c.args.member.now) o [])))
    (sym c.in-Some.is ∙ (c.class_with_methods.ensures ∙ ap (class_with_methods p loaded) c.class.ensures)) (c.add_special_on.ensures loaded)

pub returns-in-None : goal.returns-in-None
returns-in-None c =
    let p = c.args.linker.now.program in
    let loaded = c.args.lineage.now.loaded in
    subst (λ o. Adds c.args.found.now c.args.found.now (option_map_or (λ class. begun_on p loaded class (Special c.args.caller.now c.args.interface) c.args.member.now) o []))
    (sym c.in-None.is ∙ (c.class_with_methods.ensures ∙ ap (class_with_methods p loaded) c.class.ensures)) (adds-nothing c.args.found.now)
