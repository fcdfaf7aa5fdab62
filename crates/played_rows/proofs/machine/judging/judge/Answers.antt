use Rattle.std.proofs.Common.{Ok, ap, map, subst, sym, ◌∙◌}
use Rattle.std.specs.Str.Lines.{lines}
use Rattle.jvm_machine.specs.View.{View}
use Rattle.played_rows.specs.Machine.Ready.{IsFresh}
use Rattle.played_rows.proofs.MachineLemmas.JudgingLemmas.{judged}
use Rattle.played_rows.proofs.machine.judging.judge.Goals as goal

pub play_all-requires : goal.play_all-requires
play_all-requires g c = subst IsFresh (sym c.deref_mut.ensures.value) c.in_ok-vm.ensures.fresh

pub returns : goal.returns
returns g c =
    let texts = c.in_ok-lines.ensures ∙ ap lines c.as_str.ensures.value in
    judged (g.F.Files.contents c.args.files.now) _ _ c.args.row.now _ _ _ _ _ _ _ _ c.in_ok-play_all.field-0
    c.in_ok-text.ensures.found c.in_ok-text.ensures.stay c.in_ok-vm.ensures.stay
    (ap (map (λ l. l.now)) c.deref.ensures.value ∙ texts) (ap (map (λ l. l.now)) c.deref-3.ensures.value ∙ texts)
    c.in_ok-vm.ensures.made (c.program.ensures ∙ ap (λ (v : View). v.program) c.deref-2.ensures) c.in_ok-placed.ensures.read
    c.deref_mut.ensures.value c.deref-4.ensures.value (λ e. c.play_all.ensures.came (c.in_ok-play_all.was ∙ ap Ok e)) c.in_ok-play_all.ensures.failed
