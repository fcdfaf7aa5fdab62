use Rattle.std.proofs.Common.{ap, subst, sym, ◌∙◌}
use Rattle.call_revelation.specs.declared.reveal.Reveal.{Reveal}
use Rattle.call_revelation.specs.Reveals.{IsRevelation, with_marks}
use Rattle.call_revelation.proofs.Revelations.Shown.{all-shown, reshown}
use Rattle.call_revelation.proofs.reveal.Reveal.show.Goals as goal

pub returns-clause-revelation : goal.returns-clause-revelation
returns-clause-revelation c =
    let p = c.args.program.now in
    let old = c.args.self.now in
    subst (λ (r : Reveal). IsRevelation p (record r { stale = c.truncate.new.self })) (sym c.show_stale.ensures)
    (subst (λ s. IsRevelation p (record old { shown = with_marks p old old.stale old.shown; stale = s })) (sym c.truncate.ensures) (reshown p old c.requires))

pub returns-clause-shown : goal.returns-clause-shown
returns-clause-shown c = ap (λ (r : Reveal). r.shown) c.show_stale.ensures ∙ all-shown c.args.program.now c.args.self.now c.requires
