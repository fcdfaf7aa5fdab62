use Rattle.std.proofs.Common.{arith, inl, inr, subst, sym, ◌∙◌}
use Rattle.jvm_machine.specs.Several.{RunsOn}
use Rattle.played_rows.specs.Machine.Played.{IsOtherwise}
use Rattle.played_rows.proofs.MachineLemmas.Otherwise.{ran-else}
use Rattle.played_rows.proofs.MachineLemmas.Stays.{run-ready}
use Rattle.played_rows.proofs.machine.playing.run.Goals as goal
use Rattle.played_rows.proofs.machine.playing.run.Goals.{then-clock-gt-MOST_STEPS-via-then-clock-gt-MOST_STEPS, then-clock-gt-MOST_STEPS-via-else-clock-gt-MOST_STEPS+then-most-gt-MOST_STEPS, then-clock-gt-MOST_STEPS-via-else-clock-gt-MOST_STEPS+else-most-gt-MOST_STEPS+then-most-eq0, then-clock-gt-MOST_STEPS-via-else-clock-gt-MOST_STEPS+else-most-gt-MOST_STEPS+else-most-eq0+then-not-is_resting}

pub returns-clause-ran : goal.returns-clause-ran
returns-clause-ran c = λ e. record {
  runs = subst (λ t. RunsOn c.args.vm.now c.args.most t c.run_on-came.new.self) (c.turn_compared.ensures.turn e) c.run_on-came.ensures;
  clock_is = cc (c.clock-2.ensures, c.turn_compared.ensures.clock e);
}

pub returns-clause-ready : goal.returns-clause-ready
returns-clause-ready c = λ e. run-ready c.args.vm.now c.run_on-came.new.self c.args.most c.run_on-came.result c.requires c.run_on-came.ensures (c.turn_compared.ensures.found e)

pub returns-clause-otherwise : goal.returns-clause-otherwise
returns-clause-otherwise c =
    ran-else c.turn_compared.result c.args.vm.now c.run_on-came.new.self c.args.most c.args.wanted.now c.run_on-came.result c.args.clock c.clock-2.result
    c.run_on-came.ensures c.clock-2.ensures c.turn_compared.ensures.other

pub returns-then-clock-gt-MOST_STEPS-clause-otherwise : goal.returns-then-clock-gt-MOST_STEPS-clause-otherwise
returns-then-clock-gt-MOST_STEPS-clause-otherwise c = IsOtherwise.not_run c.args.most c.args.wanted.now c.args.clock
    (elim c.then-clock-gt-MOST_STEPS.branch [
      | then-clock-gt-MOST_STEPS-via-then-clock-gt-MOST_STEPS w ↦ inl (omega (arith, w.if-clock-gt-MOST_STEPS.true, c.clock.ensures))
      | then-clock-gt-MOST_STEPS-via-else-clock-gt-MOST_STEPS+then-most-gt-MOST_STEPS w ↦ inr (inl (omega (arith, w.if-most-gt-MOST_STEPS.true)))
      | then-clock-gt-MOST_STEPS-via-else-clock-gt-MOST_STEPS+else-most-gt-MOST_STEPS+then-most-eq0 w ↦ inr (inr (inl (omega (arith, w.if-most-eq0.true))))
      | then-clock-gt-MOST_STEPS-via-else-clock-gt-MOST_STEPS+else-most-gt-MOST_STEPS+else-most-eq0+then-not-is_resting w ↦
          inr (inr (inr (sym w.is_resting.ensures ∙ w.if-not-is_resting.true)))
    ])
