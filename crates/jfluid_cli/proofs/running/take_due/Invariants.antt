-- the actions before this one were taken
use Rattle.jfluid_cli.proofs.Actions.ActionLemmas.{HasTaken}
use Rattle.jfluid_cli.proofs.running.take_due.Given as goal

abbrev pub invariant-loop-next : goal.invariant-loop-next
invariant-loop-next l = HasTaken l.fn.session l.session l.next
