-- the acts so far, before what the actions still to come give
use Rattle.std.proofs.Common.{◌≡◌, ◌+◌, drop}
use Rattle.admit_check.specs.Admission.{acts_from}
use Rattle.admit_check.proofs.Acts.{with_front}
use Rattle.admit_check.proofs.program.acts_of.Given as goal

abbrev pub invariant-loop-at : goal.invariant-loop-at
invariant-loop-at l =
    with_front l.acts (acts_from l.program (l.at + 1) (drop l.at l.actions)) ≡ acts_from l.program 1 l.actions
