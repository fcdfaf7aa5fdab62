-- those below
use Rattle.std.proofs.Common.{◌≡◌, filter}
use Rattle.std.specs.List.{range_with_len}
use Rattle.jvm_model.specs.Classes.Load.{is_among}
use Rattle.possible_callees.proofs.gathering.in_order.Given as goal

abbrev pub invariant-loop-m : goal.invariant-loop-m
invariant-loop-m l = l.all ≡ filter (λ m. is_among m l.found) (range_with_len 0 l.m)
