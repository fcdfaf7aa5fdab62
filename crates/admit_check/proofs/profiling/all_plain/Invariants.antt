-- so many marks so far
use Rattle.std.proofs.Common.{◌≡◌, take}
use Rattle.std.specs.Prelude.{map}
use Rattle.inject_events.specs.Rewriting.{plain_mark}
use Rattle.admit_check.proofs.profiling.all_plain.Given as goal

abbrev pub invariant-loop-method : goal.invariant-loop-method
invariant-loop-method l = l.marks ≡ map plain_mark (take l.method-index l.methods)
