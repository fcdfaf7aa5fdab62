use Rattle.std.proofs.lemmas.Result.{err_from_is_err_and}
use Rattle.byte_formats.proofs.Many.{list_goes_on, list_ends, list_done}
use Rattle.class_reader.specs.declared.error.ReadError.TheVariants.{NoMemory}
use Rattle.class_reader.specs.Reading.{many_at}
use Rattle.class_reader.proofs.lists.many_of.Goals as goal

pub returns-in_err-item : goal.returns-in_err-item
returns-in_err-item g c =
    let item = g.R.ReadItem.item c.args.reader.now c.args.limit in
    let p = err_from_is_err_and c.from_residual.result c.from_residual.ensures.1 in
    rw (p.1, p.2) (list_ends item NoMemory c.in_err-item.field-0.0 c.loop.items c.args.count c.loop.counter c.loop.rest.now (many_at item c.args.count c.args.bytes.now) c.loop-test.true c.in_err-item.ensures c.loop.invariant)

pub loop-preserved : goal.loop-preserved
loop-preserved g c =
    let item = g.R.ReadItem.item c.args.reader.now c.args.limit in
    rw c.in_ok-push.ensures.items (list_goes_on item c.loop.items c.args.count c.loop.counter c.loop.rest.now c.in_ok-item.item c.in_ok-item.after.now (many_at item c.args.count c.args.bytes.now) c.loop-test.true c.in_ok-item.ensures c.loop.invariant)

pub returns : goal.returns
returns g c =
    let item = g.R.ReadItem.item c.args.reader.now c.args.limit in
    list_done item c.loop.items c.args.count c.loop.counter c.loop.rest.now (many_at item c.args.count c.args.bytes.now) c.loop-test.false c.loop.invariant
