use Rattle.std.proofs.Common.{sym, ◌∙◌}
use Rattle.jvm_model.specs.Classes.Load.{is_among}
use Rattle.possible_callees.proofs.Numbers.Rising.{one-kept, one-left}
use Rattle.possible_callees.proofs.gathering.in_order.Goals.{else-has, then-has+in_ok-push}
use Rattle.possible_callees.proofs.gathering.in_order.Goals as goal

pub loop-m-preserved : goal.loop-m-preserved
loop-m-preserved c =
    elim c.if-has.branch [
      | then-has+in_ok-push w ↦
          w.all-is ∙ (w.in_ok-push.ensures.items
          ∙ one-kept (λ m. is_among m c.args.found.now) c.loop-m.m c.loop-m.all c.loop-m.invariant (sym c.has.ensures ∙ w.if-has.true))
      | else-has w ↦
          w.all-is ∙ one-left (λ m. is_among m c.args.found.now) c.loop-m.m c.loop-m.all c.loop-m.invariant (sym c.has.ensures ∙ w.if-has.false)
    ]
