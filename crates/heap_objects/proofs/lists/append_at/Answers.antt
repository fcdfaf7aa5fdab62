use Rattle.std.proofs.Common.{ap, arith, get_or}
use Rattle.heap_objects.specs.Objects.{cost_of, with_more_units}
use Rattle.heap_objects.proofs.HeapLemmas.{IsChanged, is_changed, cost-with_more_units}
use Rattle.heap_objects.proofs.lists.append_at.Goals as goal

pub returns-clause-objects : goal.returns-clause-objects
returns-clause-objects c =
    (is_changed (with_more_units c.args.units.now) c.args.place c.args.objects.now c.index-objects-place.result c.append.new.self (omega arith) c.in_ok-append.ensures).objects

pub returns-clause-cost : goal.returns-clause-cost
returns-clause-cost c =
    let o = get_or c.args.objects.now c.args.place c.index-objects-place.result in
    let h : IsChanged (with_more_units c.args.units.now) c.args.place c.args.objects.now o c.append.new.self =
    is_changed (with_more_units c.args.units.now) c.args.place c.args.objects.now c.index-objects-place.result c.append.new.self (omega arith) c.in_ok-append.ensures in
    omega (arith, h.cost, cost-with_more_units c.args.units.now o, ap cost_of c.in_ok-append.ensures)
