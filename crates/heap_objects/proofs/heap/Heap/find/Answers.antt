use Rattle.std.proofs.Common.{ap, arith, ◌∙◌, ◌-◌, slice_get}
use Rattle.heap_objects.proofs.HeapLemmas.{found-fits}
use Rattle.heap_objects.proofs.heap.Heap.find.Goals as goal

pub returns-clause-fits : goal.returns-clause-fits
returns-clause-fits c =
    found-fits c.item_at.result c.self.inside.objects.items (c.args.object - 1) _
    (c.item_at.ensures ∙ ap (λ xs. slice_get xs (c.args.object - 1)) c.deref.ensures.value) (omega arith)
