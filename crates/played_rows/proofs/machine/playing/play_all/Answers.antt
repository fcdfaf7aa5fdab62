use Rattle.std.proofs.Common.{Ok, ap, refl, subst, ◌∙◌}
use Rattle.std.specs.Option.{IfSome}
use Rattle.played_rows.specs.Machine.Played.{IsOtherwise, Plays}
use Rattle.played_rows.proofs.MachineLemmas.Plays.{fails-at, plays-all, plays-next}
use Rattle.played_rows.proofs.MachineLemmas.Stays.{fresh-ready}
use Rattle.played_rows.proofs.machine.playing.play_all.Goals as goal

pub loop-placed-init : goal.loop-placed-init
loop-placed-init c = record {
  ready = fresh-ready c.args.vm.now c.requires;
  plays = Plays.none c.args.vm.now;
}

pub loop-placed-preserved : goal.loop-placed-preserved
loop-placed-preserved c =
    let none = c.in_ok-difference.was ∙ ap Ok c.in_default.is in
    record {
      ready = c.play.ensures.ready none;
      plays = plays-next c.args.lines.now c.loop-placed.placed-index c.placed-item.result c.args.vm.now c.loop-placed.vm c.play.new.vm
          c.loop-placed-test.true c.placed-item.is c.loop-placed.invariant.plays (c.play.ensures.played none);
    }

pub returns-in-Some-clause-failed : goal.returns-in-Some-clause-failed
returns-in-Some-clause-failed c =
    fails-at c.args.lines.now c.loop-placed.placed-index c.placed-item.result _ c.args.vm.now c.loop-placed.vm
    c.loop-placed-test.true c.placed-item.is c.loop-placed.invariant.plays refl
    (subst (λ o. IfSome o (IsOtherwise c.loop-placed.vm c.placed-item.result.line)) c.in-Some.is c.in_ok-difference.ensures.otherwise)

pub returns-clause-came : goal.returns-clause-came
returns-clause-came c = λ e. plays-all c.args.lines.now c.loop-placed.placed-index c.args.vm.now c.loop-placed.vm c.loop-placed-test.false c.loop-placed.invariant.plays
