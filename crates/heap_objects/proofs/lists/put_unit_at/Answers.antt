use Rattle.std.proofs.Common.{arith}
use Rattle.heap_objects.specs.Objects.{with_unit}
use Rattle.heap_objects.proofs.HeapLemmas.{chosen}
use Rattle.heap_objects.proofs.lists.put_unit_at.Goals as goal

pub returns-clause-objects : goal.returns-clause-objects
returns-clause-objects c =
    chosen (with_unit c.args.at c.args.unit) c.args.place c.args.objects.now c.index-objects-place.result c.put_unit.new.self c.put_unit.result (omega arith) c.put_unit.ensures.object
