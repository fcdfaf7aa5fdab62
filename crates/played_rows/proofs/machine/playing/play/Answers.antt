use Rattle.std.proofs.Common.{◌≡◌, None, ap, refl, subst, sym, ◌∙◌}
use Rattle.std.specs.Option.{IfSome}
use Rattle.jvm_machine.specs.Installs.{with_class}
use Rattle.played_rows.specs.declared.machine.line.Line.TheVariants as line
use Rattle.played_rows.specs.Machine.Played.{IsNotRedefined, IsOtherwise}
use Rattle.played_rows.proofs.MachineLemmas.Otherwise.{ended-else, lives-else, of-line, printed-else}
use Rattle.played_rows.proofs.MachineLemmas.Plays.{played}
use Rattle.played_rows.proofs.machine.playing.play.Goals as goal

pub returns-in-Turned-clause-played : goal.returns-in-Turned-clause-played
returns-in-Turned-clause-played c = λ e. played c.args.line.now _ c.args.vm.now c.turn.new.vm c.in-Turned.is (c.turn.ensures.turned e)

pub returns-in-Ran-clause-played : goal.returns-in-Ran-clause-played
returns-in-Ran-clause-played c = λ e. played c.args.line.now _ c.args.vm.now c.run.new.vm c.in-Ran.is (c.run.ensures.ran e)

pub returns-in-Ended-clause-played : goal.returns-in-Ended-clause-played
returns-in-Ended-clause-played c = λ e.
    let none : c.same_ending.result ≡ None = cc in
    played c.args.line.now _ c.args.vm.now c.args.vm.now c.in-Ended.is (record {
      holds = λ rests. sym (c.ending.ensures c.requires.whole rests) ∙ c.same_ending.ensures.same none;
      same = refl;
    })

pub returns-in-Printed-clause-played : goal.returns-in-Printed-clause-played
returns-in-Printed-clause-played c = λ e.
    let none : c.same_output.result ≡ None = cc in
    played c.args.line.now _ c.args.vm.now c.args.vm.now c.in-Printed.is (record {
      holds = λ rests. sym (c.output.ensures c.requires.whole rests) ∙ (c.same_output.ensures.same none ∙ c.as_slice-in-Printed.ensures);
      same = refl;
    })

pub returns-in-Installed-clause-played : goal.returns-in-Installed-clause-played
returns-in-Installed-clause-played c = λ e. played c.args.line.now _ c.args.vm.now c.install.new.vm c.in-Installed.is (c.install.ensures.installed e ∙ ap (λ m. with_class c.in-Installed.class m c.args.vm.now) c.as_slice.ensures)

pub returns-in-Refused-clause-played : goal.returns-in-Refused-clause-played
returns-in-Refused-clause-played c = λ e.
    played c.args.line.now _ c.args.vm.now c.refuse.new.vm c.in-Refused.is
    (subst (λ b. IsNotRedefined c.args.vm.now c.in-Refused.class b c.in-Refused.refusal c.refuse.new.vm) c.as_slice-in-Refused.ensures (c.refuse.ensures.refused e))

pub returns-in-Lives-clause-played : goal.returns-in-Lives-clause-played
returns-in-Lives-clause-played c = λ e.
    let none : c.same_count.result ≡ None = cc in
    played c.args.line.now _ c.args.vm.now c.args.vm.now c.in-Lives.is (sym c.live.ensures.live ∙ c.same_count.ensures.same none, refl)

-- ---- another thing came

pub returns-in-Turned-clause-otherwise : goal.returns-in-Turned-clause-otherwise
returns-in-Turned-clause-otherwise c = of-line c.turn.result c.args.vm.now c.args.line.now _ c.in-Turned.is c.turn.ensures.otherwise

pub returns-in-Ran-clause-otherwise : goal.returns-in-Ran-clause-otherwise
returns-in-Ran-clause-otherwise c = of-line c.run.result c.args.vm.now c.args.line.now _ c.in-Ran.is c.run.ensures.otherwise

pub returns-in-Installed-clause-otherwise : goal.returns-in-Installed-clause-otherwise
returns-in-Installed-clause-otherwise c =
    of-line c.install.result c.args.vm.now c.args.line.now _ (c.in-Installed.is ∙ ap (λ m. line.Installed c.in-Installed.class m) (sym c.as_slice.ensures)) c.install.ensures.otherwise

pub returns-in-Refused-clause-otherwise : goal.returns-in-Refused-clause-otherwise
returns-in-Refused-clause-otherwise c =
    of-line c.refuse.result c.args.vm.now c.args.line.now _
    (c.in-Refused.is ∙ ap (λ b. line.Refused c.in-Refused.class b c.in-Refused.refusal) (sym c.as_slice-in-Refused.ensures)) c.refuse.ensures.otherwise

pub returns-in-Ended-clause-otherwise : goal.returns-in-Ended-clause-otherwise
returns-in-Ended-clause-otherwise c =
    subst (λ l. IfSome c.same_ending.result (IsOtherwise c.args.vm.now l)) (sym c.in-Ended.is)
    (ended-else c.same_ending.result c.args.vm.now _ c.ending.result (λ rests. sym (c.ending.ensures c.requires.whole rests)) c.same_ending.ensures.other)

pub returns-in-Printed-clause-otherwise : goal.returns-in-Printed-clause-otherwise
returns-in-Printed-clause-otherwise c =
    subst (λ l. IfSome c.same_output.result (IsOtherwise c.args.vm.now l)) (sym c.in-Printed.is)
    (printed-else c.same_output.result c.args.vm.now _ c.as_slice-in-Printed.result.now c.output.result.now c.as_slice-in-Printed.ensures
    (λ rests. c.output.ensures c.requires.whole rests) c.same_output.ensures.other)

pub returns-in-Lives-clause-otherwise : goal.returns-in-Lives-clause-otherwise
returns-in-Lives-clause-otherwise c =
    subst (λ l. IfSome c.same_count.result (IsOtherwise c.args.vm.now l)) (sym c.in-Lives.is)
    (lives-else c.same_count.result c.args.vm.now _ c.live.result c.live.ensures.live c.same_count.ensures.other)
