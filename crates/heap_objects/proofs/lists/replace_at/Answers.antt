use Rattle.std.proofs.Common.{ap, arith, get_or}
use Rattle.heap_objects.specs.Objects.{cost_of, with_units}
use Rattle.heap_objects.proofs.HeapLemmas.{IsChanged, is_changed, cost-with_units, before-is}
use Rattle.heap_objects.proofs.lists.replace_at.Goals as goal

pub returns-clause-objects : goal.returns-clause-objects
returns-clause-objects c =
    (is_changed (with_units c.args.units) c.args.place c.args.objects.now c.index-objects-place.result c.replace.new.self (omega arith) c.replace.ensures).objects

pub returns-clause-cost : goal.returns-clause-cost
returns-clause-cost c =
    let o = get_or c.args.objects.now c.args.place c.index-objects-place.result in
    let h : IsChanged (with_units c.args.units) c.args.place c.args.objects.now o c.replace.new.self =
    is_changed (with_units c.args.units) c.args.place c.args.objects.now c.index-objects-place.result c.replace.new.self (omega arith) c.replace.ensures in
    omega (arith, h.cost, cost-with_units c.args.units o, ap cost_of c.replace.ensures, before-is c.args.place c.args.objects.now o h.there)
