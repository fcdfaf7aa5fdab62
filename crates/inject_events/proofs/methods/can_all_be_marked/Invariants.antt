-- what is left decides
use Rattle.std.proofs.Common.{◌≡◌, drop}
use Rattle.inject_events.specs.Answers.{can_all_be_marked}
use Rattle.inject_events.proofs.methods.can_all_be_marked.Given as goal

abbrev pub invariant-loop-position : goal.invariant-loop-position
invariant-loop-position l = can_all_be_marked (drop l.position l.marks) (drop l.position l.methods) ≡ can_all_be_marked l.marks l.methods
