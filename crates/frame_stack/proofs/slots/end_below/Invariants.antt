use Rattle.frame_stack.proofs.Passing.{HasPassed}
use Rattle.frame_stack.proofs.slots.end_below.Given as goal

abbrev pub invariant-loop-i : goal.invariant-loop-i
invariant-loop-i l = HasPassed l.low l.end l._i l.slots.items
