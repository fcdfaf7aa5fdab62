use Rattle.std.proofs.Common.{false, true, subst}
use Rattle.jvm_model.specs.declared.instruction.SymbolicReference.{SymbolicReference as Kept}
use Rattle.member_selection.specs.Known.{IsKnown}
use Rattle.member_selection.proofs.SelectionLemmas.{selection_of}
use Rattle.member_selection.proofs.selections.Selections.keep.Goals as goal

pub returns-in-Invokevirtual : goal.returns-in-Invokevirtual
returns-in-Invokevirtual c l are is =
    c.put.ensures l.program are
    (selection_of l c.in-Invokevirtual.field-0 false c.args.known.now c.in-Selected.site c.in-Selected.is
    (subst (λ (kept : Kept). IsKnown l kept c.args.known.now) c.in-Invokevirtual.is is))

pub returns-in-Invokeinterface : goal.returns-in-Invokeinterface
returns-in-Invokeinterface c l are is =
    c.put-in-Invokeinterface.ensures l.program are
    (selection_of l c.in-Invokeinterface.field-0 true c.args.known.now c.in-Selected.site c.in-Selected.is
    (subst (λ (kept : Kept). IsKnown l kept c.args.known.now) c.in-Invokeinterface.is is))
