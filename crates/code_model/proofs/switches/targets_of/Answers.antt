use Rattle.std.specs.Int.{w32}
use Rattle.std.proofs.lemmas.Result.{err_from_is_err_and}
use Rattle.byte_formats.proofs.Many.{list_goes_on, list_ends, list_done}
use Rattle.code_model.specs.declared.error.CodeError.TheVariants.{NoMemory}
use Rattle.code_model.specs.Reading.{target_at, many_at}
use Rattle.code_model.proofs.switches.targets_of.Goals as goal

pub returns-in_err-target : goal.returns-in_err-target
returns-in_err-target c =
    let item = target_at c.args.at w32 in
    let p = err_from_is_err_and c.from_residual.result c.from_residual.ensures.1 in
    rw (p.1, p.2) (list_ends item NoMemory c.in_err-target.field-0.0 c.loop.targets c.args.count c.loop.counter c.loop.rest.now (many_at item c.args.count c.args.bytes.now) c.loop-test.true c.in_err-target.ensures c.loop.invariant)

pub loop-preserved : goal.loop-preserved
loop-preserved c =
    let item = target_at c.args.at w32 in
    rw c.in_ok-push.ensures.items (list_goes_on item c.loop.targets c.args.count c.loop.counter c.loop.rest.now c.in_ok-target.target c.in_ok-target.after.now (many_at item c.args.count c.args.bytes.now) c.loop-test.true c.in_ok-target.ensures c.loop.invariant)

pub returns : goal.returns
returns c =
    let item = target_at c.args.at w32 in
    list_done item c.loop.targets c.args.count c.loop.counter c.loop.rest.now (many_at item c.args.count c.args.bytes.now) c.loop-test.false c.loop.invariant
