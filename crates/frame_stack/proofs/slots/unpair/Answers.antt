use Rattle.std.proofs.Common.{◌+◌, ◌-◌, sym, ap, ◌∙◌, arith}
use Rattle.frame_stack.specs.FrameLists.{is_long_slot}
use Rattle.frame_stack.proofs.SlotWrites.{unpaired, not-paired}
use Rattle.frame_stack.proofs.slots.unpair.Goals as goal

pub returns-then-is_long-clause-items : goal.returns-then-is_long-clause-items
returns-then-is_long-clause-items c =
    c.clear.ensures.items
    ∙ unpaired c.args.base c.args.slot (c.args.base + c.args.slot - 1) c.args.slots.now.items c.in-Some.value (omega (arith, c.if-slot-eq0.false)) (omega (arith, c.if-slot-eq0.false))
    (sym c.at.ensures ∙ c.in-Some.is) (sym c.is_long.ensures ∙ c.if-is_long.true)

pub returns-else-is_long-clause-items : goal.returns-else-is_long-clause-items
returns-else-is_long-clause-items c =
    not-paired c.args.base c.args.slot (c.args.base + c.args.slot - 1) c.args.slots.now.items (omega (arith, c.if-slot-eq0.false)) (omega (arith, c.if-slot-eq0.false))
    (ap is_long_slot (sym c.at.ensures ∙ c.in-Some.is) ∙ (sym c.is_long.ensures ∙ c.if-is_long.false))

pub returns-in_default-clause-items : goal.returns-in_default-clause-items
returns-in_default-clause-items c =
    not-paired c.args.base c.args.slot (c.args.base + c.args.slot - 1) c.args.slots.now.items (omega (arith, c.if-slot-eq0.false)) (omega (arith, c.if-slot-eq0.false))
    (ap is_long_slot (sym c.at.ensures ∙ c.in_default.is))
