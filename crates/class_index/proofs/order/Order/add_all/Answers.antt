use Rattle.std.proofs.Common.{◌≡◌, drop, rules, subst, sym}
use Rattle.std.specs.Io.{StartsWith}
use Rattle.class_index.specs.Orders.{with_classes}
use Rattle.class_index.proofs.OrderLemmas.{on-err, starts-with}
use Rattle.class_index.proofs.order.Order.add_all.Goals as goal

pub returns-in_err-add-clause-begun : goal.returns-in_err-add-clause-begun
returns-in_err-add-clause-begun c =
    let all = with_classes c.args.self.now c.args.classes.now in
    let same : c.add.new.self ≡ c.loop-class.self = search rules in
    on-err c.from_residual.result
    (subst (StartsWith all) (sym same)
    (subst (λ asked. StartsWith asked c.loop-class.self) c.loop-class.invariant
    (starts-with c.loop-class.self (drop c.loop-class.class-index c.args.classes.now))))
