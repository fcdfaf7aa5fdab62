use Rattle.std.proofs.Common.{◌≡◌, ◌++◌, ◌-◌, length, replicate}
use Rattle.std.specs.Prelude.{None}
use Rattle.frame_stack.proofs.slots.fill.Given as goal

abbrev pub invariant-loop-i : goal.invariant-loop-i
invariant-loop-i l =
    (l.slots.items ≡ l.fn.slots.items ++ replicate (l._i - length l.fn.slots.items) None) × (l.slots.capacity ≡ l.fn.slots.capacity)
