use Rattle.std.proofs.Math.ListN.{drop_of_length-le}
use Rattle.admit_check.proofs.Walks.{walk_found, walk_next, walk_end}
use Rattle.admit_check.proofs.admission.check_classes.Goals as goal

pub returns-in-Err : goal.returns-in-Err
returns-in-Err c = λ told. walk_found c.loop-number.names c.loop-number.number c.args.classes.now c.index-classes-number.result c.in-Err.fault
    c.loop-number-test.true c.index-classes-number.is (c.in-Err.ensures.passes told) c.loop-number.invariant

pub loop-number-preserved : goal.loop-number-preserved
loop-number-preserved c = walk_next c.loop-number.names c.add_name.new.names c.loop-number.number c.args.classes.now c.index-classes-number.result
    c.loop-number-test.true c.index-classes-number.is c.in-Ok.ensures.passes c.in_ok-add_name-in-Ok.ensures c.loop-number.invariant

pub returns : goal.returns
returns c = walk_end c.loop-number.names c.loop-number.number c.args.classes.now (drop_of_length-le c.args.classes.now c.loop-number-test.false) c.loop-number.invariant
