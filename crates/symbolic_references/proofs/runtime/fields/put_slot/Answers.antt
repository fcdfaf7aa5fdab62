use Rattle.std.proofs.Common.{◌∙◌, ap}
use Rattle.heap_objects.specs.Changes.{changed_if}
use Rattle.heap_objects.specs.Heaps.{with_slot_at}
use Rattle.symbolic_references.proofs.Slots.{slot_put}
use Rattle.symbolic_references.proofs.runtime.fields.put_slot.Goals as goal

pub returns : goal.returns
returns c =
    c.put.ensures.heap
    ∙ (ap (λ b. changed_if b (with_slot_at c.args.object c.args.slot c.args.datum) c.args.heap.now) c.put.ensures.answer
    ∙ slot_put c.args.heap.now c.args.object c.args.slot c.args.datum c.requires)
