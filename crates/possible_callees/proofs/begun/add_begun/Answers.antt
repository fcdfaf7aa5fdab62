use Rattle.std.proofs.Common.{◌≡◌, ◌∙◌, ap, false, rules, subst, sym}
use Rattle.std.specs.Prelude.{OnOk}
use Rattle.jvm_model.specs.declared.instruction.SymbolicReference.TheVariants.{Invokespecial}
use Rattle.jvm_model.specs.Profiling.Targets.{begun_by}
use Rattle.possible_callees.specs.Tables.{Adds}
use Rattle.possible_callees.proofs.References.BegunLemmas.{begun-by-name, is_special}
use Rattle.possible_callees.proofs.begun.add_begun.Goals as goal

pub returns-in-Invokespecial : goal.returns-in-Invokespecial
returns-in-Invokespecial c =
    subst (λ n. OnOk c.add_special.result (Adds c.args.found.now c.add_special.new.found (begun_by c.args.linker.now.program c.args.lineage.now.loaded n)))
    (ap (λ r. Invokespecial c.in-Invokespecial.caller r c.in-Invokespecial.interface) c.member-member.ensures ∙ sym c.in-Invokespecial.is) c.add_special.ensures

pub returns-in_default : goal.returns-in_default
returns-in_default c =
    let other : is_special c.args.reference.now ≡ false = search rules in
    subst (λ ms. OnOk c.add_begun_named.result (Adds c.args.found.now c.add_begun_named.new.found ms))
    (sym (begun-by-name c.args.linker.now.program c.args.lineage.now.loaded c.args.reference.now other)) c.add_begun_named.ensures
