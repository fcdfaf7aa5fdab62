use Rattle.std.proofs.Common.{[], ap, subst, sym, ◌∙◌}
use Rattle.class_index.specs.Orders.{with_classes}
use Rattle.possible_callees.proofs.Numbers.Adding.{adds-equal}
use Rattle.call_revelation.specs.Reveals.{IsRevelation}
use Rattle.call_revelation.proofs.Revelations.Marking.{quieted, staler}
use Rattle.call_revelation.proofs.reveal.Reveal.quiet.Goals as goal

pub returns-in_err-add_more-clause-revelation : goal.returns-in_err-add_more-clause-revelation
returns-in_err-add_more-clause-revelation c = λ p is. staler p c.args.self.now is c.add_more.new.order c.add_more.ensures.prefix

pub returns-clause-revelation : goal.returns-clause-revelation
returns-clause-revelation c = λ p is.
    let old = c.args.self.now in
    let flags = c.leave_all.new.flags in
    let stale = c.add_more.new.order in
    subst (λ e. IsRevelation p (record old { entered = e; flags = flags; targets = c.truncate.new.self; stale = stale })) (sym c.leave_all.ensures.none)
    (subst (λ t. IsRevelation p (record old { entered = []; flags = flags; targets = t; stale = stale })) (sym c.truncate.ensures)
    (quieted p old is flags stale c.leave_all.ensures.length (c.leave_all.ensures.off (λ m h. sym (is.kept.flags m) ∙ h))
    (adds-equal old.stale stale old.targets (c.in_ok-add_more.ensures.added ∙ ap (with_classes old.stale) c.as_slice.ensures))))
