use Rattle.std.proofs.Common.{◌+◌, take, drop, sym, ap, ◌∙◌, arith}
use Rattle.std.specs.Prelude.{Some, None, slice_set}
use Rattle.std.proofs.lemmas.List.{length-take-le}
use Rattle.frame_stack.specs.FrameLists.{without_long_before}
use Rattle.frame_stack.proofs.SlotWrites.{stored-long, stored-short}
use Rattle.frame_stack.proofs.slots.store.Goals as goal

pub returns-then-is_long-clause-items : goal.returns-then-is_long-clause-items
returns-then-is_long-clause-items c =
    let xs = c.args.slots.now.items in
    c.clear.ensures.items
    ∙ (ap (λ ys. slice_set ys (c.args.base + c.args.slot + 1) None) (c.set.ensures.items ∙ ap (λ ys. slice_set ys (c.args.base + c.args.slot) (Some c.args.value)) c.unpair.ensures.items)
    ∙ stored-long c.args.base c.args.slot (take c.args.base xs) (without_long_before c.args.slot (drop c.args.base xs)) c.args.value
    (length-take-le c.args.base xs (omega (arith, c.requires.there))) (sym c.is_long.ensures ∙ c.if-is_long.true))

pub returns-else-is_long-clause-items : goal.returns-else-is_long-clause-items
returns-else-is_long-clause-items c =
    let xs = c.args.slots.now.items in
    c.set.ensures.items
    ∙ (ap (λ ys. slice_set ys (c.args.base + c.args.slot) (Some c.args.value)) c.unpair.ensures.items
    ∙ stored-short c.args.base c.args.slot (take c.args.base xs) (without_long_before c.args.slot (drop c.args.base xs)) c.args.value
    (length-take-le c.args.base xs (omega (arith, c.requires.there))) (sym c.is_long.ensures ∙ c.if-is_long.false))
