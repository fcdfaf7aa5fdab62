-- what is left is added to what is there
use Rattle.std.proofs.Common.{◌≡◌, drop}
use Rattle.class_index.specs.Orders.{with_classes}
use Rattle.possible_callees.specs.Tables.{IsPrefix}
use Rattle.possible_callees.proofs.growing.add_more.Given as goal

abbrev pub invariant-loop-item : goal.invariant-loop-item
invariant-loop-item l =
    (with_classes l.order (drop l.item-index l.items) ≡ with_classes l.initial.order l.items) × IsPrefix l.initial.order l.order
