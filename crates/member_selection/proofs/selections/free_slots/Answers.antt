use Rattle.std.proofs.Common.{sym, subst}
use Rattle.member_selection.specs.Selections.{AreSelections}
use Rattle.member_selection.proofs.SelectionLemmas.{free_selection}
use Rattle.member_selection.proofs.selections.free_slots.Goals as goal

pub loop-preserved : goal.loop-preserved
loop-preserved c p = subst (AreSelections p) (sym c.in-Ok.ensures.items) (free_selection p c.loop.slots (c.loop.invariant p))
