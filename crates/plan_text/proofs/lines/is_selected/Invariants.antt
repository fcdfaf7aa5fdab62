-- what is found from here on is what is found from the front on
use Rattle.std.proofs.Common.{◌≡◌, drop, false}
use Rattle.plan_text.specs.Lines.{selected_after}
use Rattle.plan_text.proofs.lines.is_selected.Given as goal

abbrev pub invariant-loop-i : goal.invariant-loop-i
invariant-loop-i l = selected_after l.selected l.root (drop l.i l.actions) ≡ selected_after false l.root l.actions
