-- those in front are off
use Rattle.std.proofs.Common.{◌≡◌, ◌+◌, drop}
use Rattle.inject_events.specs.Probing.{first_marked}
use Rattle.inject_events.proofs.image.first_marked.Given as goal

abbrev pub invariant-loop-method : goal.invariant-loop-method
invariant-loop-method l = first_marked (drop l.method l.marks) + l.method ≡ first_marked l.marks
