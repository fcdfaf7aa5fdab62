-- what is left is added to what is there
use Rattle.std.proofs.Common.{◌≡◌, drop}
use Rattle.class_index.specs.Orders.{with_classes}
use Rattle.class_index.proofs.order.Order.add_all.Given as goal

abbrev pub invariant-loop-class : goal.invariant-loop-class
invariant-loop-class l = with_classes l.self (drop l.class-index l.classes) ≡ with_classes l.initial.self l.classes
