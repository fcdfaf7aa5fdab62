use Rattle.std.proofs.Common.{arith}
use Rattle.heap_objects.specs.Objects.{with_slot}
use Rattle.heap_objects.proofs.HeapLemmas.{chosen}
use Rattle.heap_objects.proofs.lists.put_at.Goals as goal

pub returns-clause-objects : goal.returns-clause-objects
returns-clause-objects c =
    chosen (with_slot c.args.slot c.args.value) c.args.place c.args.objects.now c.index-objects-place.result c.put.new.self c.put.result (omega arith) c.put.ensures.object
