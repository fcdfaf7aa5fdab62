use Rattle.jvm_model.specs.declared.program.Program.{Program}
use Rattle.member_selection.specs.Selections.{AreSelections}
use Rattle.member_selection.proofs.selections.free_slots.Given as goal

abbrev pub invariant-loop : goal.invariant-loop
invariant-loop l = (p : Program) → AreSelections p l.slots
