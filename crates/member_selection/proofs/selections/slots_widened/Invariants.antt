-- what is kept stays right
use Rattle.jvm_model.specs.declared.program.Program.{Program}
use Rattle.member_selection.specs.Selections.{AreSelections}
use Rattle.member_selection.proofs.selections.slots_widened.Given as goal

abbrev pub invariant-loop-at : goal.invariant-loop-at
invariant-loop-at l = (p : Program) → AreSelections p l.fn.slots → AreSelections p l.wider
