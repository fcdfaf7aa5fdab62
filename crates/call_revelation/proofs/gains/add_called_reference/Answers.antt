use Rattle.std.proofs.Common.{◌∙◌, ap, subst, sym}
use Rattle.std.specs.Prelude.{OnOk}
use Rattle.jvm_model.specs.declared.instruction.SymbolicReference.TheVariants.{Invokeinterface, Invokevirtual}
use Rattle.possible_callees.specs.Tables.{Adds}
use Rattle.call_revelation.specs.Books.{called_on}
use Rattle.call_revelation.proofs.gains.add_called_reference.Goals as goal

pub returns-in-Invokevirtual : goal.returns-in-Invokevirtual
returns-in-Invokevirtual c =
    subst (λ n. OnOk c.add_called_on.result (Adds c.args.found.now c.add_called_on.new.found (called_on c.args.linker.now.program c.args.new c.args.class n)))
    (ap (λ r. Invokevirtual r) c.member.ensures ∙ sym c.in-Invokevirtual.is) c.add_called_on.ensures

pub returns-in-Invokeinterface : goal.returns-in-Invokeinterface
returns-in-Invokeinterface c =
    subst (λ n. OnOk c.add_called_on-in-Invokeinterface.result (Adds c.args.found.now c.add_called_on-in-Invokeinterface.new.found (called_on c.args.linker.now.program c.args.new c.args.class n)))
    (ap (λ r. Invokeinterface r) c.member-in-Invokeinterface.ensures ∙ sym c.in-Invokeinterface.is) c.add_called_on-in-Invokeinterface.ensures
