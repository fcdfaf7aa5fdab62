use Rattle.std.proofs.Common.{arith}
use Rattle.played_rows.specs.Machine.Played.{IsOtherwise}
use Rattle.played_rows.proofs.MachineLemmas.Otherwise.{turned-else}
use Rattle.played_rows.proofs.MachineLemmas.Stays.{turn-ready}
use Rattle.played_rows.proofs.machine.playing.turn.Goals as goal

pub returns-clause-ready : goal.returns-clause-ready
returns-clause-ready c = λ e. turn-ready c.args.vm.now c.step-came.new.self c.step-came.result c.requires c.step-came.ensures.turns (c.turn_compared.ensures.found e)

pub returns-clause-otherwise : goal.returns-clause-otherwise
returns-clause-otherwise c =
    turned-else c.turn_compared.result c.args.vm.now c.step-came.new.self c.args.wanted.now c.step-came.result c.args.clock c.clock-2.result
    c.step-came.ensures.turns c.clock-2.ensures c.turn_compared.ensures.other

pub returns-then-clock-gt-MOST_STEPS-clause-otherwise : goal.returns-then-clock-gt-MOST_STEPS-clause-otherwise
returns-then-clock-gt-MOST_STEPS-clause-otherwise c =
    IsOtherwise.spent c.args.wanted.now c.args.clock (omega (arith, c.if-clock-gt-MOST_STEPS.true, c.clock.ensures))
