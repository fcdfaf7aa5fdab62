use Rattle.std.proofs.Common.{◌∙◌, ap, subst, sym}
use Rattle.std.specs.Prelude.{OnOk}
use Rattle.jvm_model.specs.declared.instruction.SymbolicReference.TheVariants.{Invokeinterface, Invokestatic, Invokevirtual}
use Rattle.possible_callees.specs.Lineages.{begun_at}
use Rattle.possible_callees.specs.Tables.{Adds}
use Rattle.possible_callees.proofs.begun.add_begun_at.Goals as goal

pub returns-in-Invokestatic : goal.returns-in-Invokestatic
returns-in-Invokestatic c =
    subst (λ n. OnOk c.add_static_on.result (Adds c.args.found.now c.add_static_on.new.found (begun_at c.args.linker.now.program c.args.lineage.now.loaded n c.args.class)))
    (ap (λ r. Invokestatic r) c.member-member.ensures ∙ sym c.in-Invokestatic.is) c.add_static_on.ensures

pub returns-in-Invokevirtual : goal.returns-in-Invokevirtual
returns-in-Invokevirtual c =
    subst (λ n. OnOk c.add_begun_on.result (Adds c.args.found.now c.add_begun_on.new.found (begun_at c.args.linker.now.program c.args.lineage.now.loaded n c.args.class)))
    (ap (λ r. Invokevirtual r) c.member-member-in-Invokevirtual.ensures ∙ sym c.in-Invokevirtual.is) c.add_begun_on.ensures

pub returns-in-Invokeinterface : goal.returns-in-Invokeinterface
returns-in-Invokeinterface c =
    subst (λ n. OnOk c.add_begun_on-in-Invokeinterface.result (Adds c.args.found.now c.add_begun_on-in-Invokeinterface.new.found (begun_at c.args.linker.now.program c.args.lineage.now.loaded n c.args.class)))
    (ap (λ r. Invokeinterface r) c.member-member-in-Invokeinterface.ensures ∙ sym c.in-Invokeinterface.is) c.add_begun_on-in-Invokeinterface.ensures
