use Rattle.std.proofs.Common.{◌≡◌, is_ok, rules, subst, sym}
use Rattle.possible_callees.proofs.Numbers.Fronts.{front-if}
use Rattle.call_revelation.specs.Reveals.{IsRevelation}
use Rattle.call_revelation.proofs.Revelations.Marking.{others-without, selected-more, staler}
use Rattle.call_revelation.proofs.reveal.Reveal.deselected.Goals as goal

pub returns-in_err-add-clause-revelation : goal.returns-in_err-add-clause-revelation
returns-in_err-add-clause-revelation c = λ p is.
    staler p c.args.self.now is c.add.new.self (front-if (is_ok c.add.result) c.args.self.now.stale c.add.new.self c.args.method c.add.ensures)

pub returns-in_err-deselect-clause-revelation : goal.returns-in_err-deselect-clause-revelation
returns-in_err-deselect-clause-revelation c = λ p is.
    let old = c.args.self.now in
    let same : c.deselect.new.self ≡ old.selected = search rules in
    subst (λ s. IsRevelation p (record old { selected = s; stale = c.add.new.self })) (sym same)
    (staler p old is c.add.new.self (front-if (is_ok c.add.result) old.stale c.add.new.self c.args.method c.add.ensures))

pub returns-clause-revelation : goal.returns-clause-revelation
returns-clause-revelation c = λ p is.
    let old = c.args.self.now in
    selected-more p old is c.args.method c.deselect.new.self c.add.new.self c.in_ok-add.ensures
    (λ m other. others-without c.args.method m c.deselect.new.self old.selected c.in_ok-deselect.ensures other)
