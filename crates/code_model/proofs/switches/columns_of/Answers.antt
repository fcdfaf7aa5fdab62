use Rattle.std.proofs.Common.{rules, FitsSigned, w32}
use Rattle.std.proofs.lemmas.Int.{to_z-of_z}
use Rattle.std.proofs.lemmas.Result.{err_from_is_err_and}
use Rattle.byte_formats.proofs.Many.{goes_on, ends}
use Rattle.code_model.specs.declared.error.CodeError.TheVariants.{NoMemory}
use Rattle.code_model.specs.Reading.{pair_at, columns_at}
use Rattle.code_model.proofs.Reading.Many.{columns_done, in_columns, one_row_more, in_columns-cons, in_columns-fails}
use Rattle.code_model.proofs.switches.columns_of.Goals as goal

pub returns-in_err-pair : goal.returns-in_err-pair
returns-in_err-pair c =
    let p = err_from_is_err_and c.from_residual.result c.from_residual.ensures.1 in
    rw (p.1, p.2) (ends (pair_at c.args.at) in_columns one_row_more in_columns-cons in_columns-fails NoMemory c.in_err-pair.field-0.0 (c.loop.keys, c.loop.targets) c.args.count c.loop.counter c.loop.rest.now (columns_at c.args.at c.args.count c.args.bytes.now) c.loop-test.true c.in_err-pair.ensures c.loop.invariant)

pub loop-preserved : goal.loop-preserved
loop-preserved c =
    let fits : FitsSigned w32 c.in_ok-pair.pair.0 = search rules in
    let same = to_z-of_z w32 c.in_ok-pair.pair.0 fits in
    rw (c.in_ok-push.ensures.items, c.in_ok-push-2.ensures.items, same) (goes_on (pair_at c.args.at) in_columns one_row_more in_columns-cons in_columns-fails (c.loop.keys, c.loop.targets) c.args.count c.loop.counter c.loop.rest.now c.in_ok-pair.pair c.in_ok-pair.after.now (columns_at c.args.at c.args.count c.args.bytes.now) c.loop-test.true c.in_ok-pair.ensures c.loop.invariant)

pub returns : goal.returns
returns c =
    columns_done (pair_at c.args.at) c.loop.keys c.loop.targets c.args.count c.loop.counter c.loop.rest.now (columns_at c.args.at c.args.count c.args.bytes.now) c.loop-test.false c.loop.invariant
