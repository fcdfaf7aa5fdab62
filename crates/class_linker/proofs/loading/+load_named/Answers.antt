use Rattle.std.proofs.Common.{◌∙◌, ap, sym}
use Rattle.class_linker.specs.States.{as_standing}
use Rattle.class_linker.proofs.LoadLoop.{interfaces_have, is_loaded, still_fresh, stopped_at, stopped_behind, superclass_has}
use Rattle.class_linker.proofs.LoadWalks.{ended_is, fresh_is}
use Rattle.class_linker.proofs.loading.+load_named.Goals as goal

pub returns-in-Ended-clause-loading : goal.returns-in-Ended-clause-loading
returns-in-Ended-clause-loading t c =
    ended_is c.args.index.now c.args.depth c.args.path.now c.args.name.now c.args.state.now.loaded c.if-depth-eq0.false (as_standing c.in_ok-fault.field-0)
    c.in_ok-fault.ensures.loading c.in-Ended.fault (ap as_standing c.in-Ended.is)

pub returns-in-Some-clause-loading : goal.returns-in-Some-clause-loading
returns-in-Some-clause-loading t c =
    stopped_at c.args.index.now c.args.depth c.args.path.now c.in-Class.opened.class c.args.state.now.loaded c.loop-need.state.loaded
    c.as_slice-need-items.result.now c.loop-need.need-index c.loop-need.invariant.3 _ c.loop-need-test.true c.loop-need.path c.load_named.new.state.loaded
    c.in_ok-fault-2.field-0 c.in-Some.fault c.loop-need.invariant.2 c.in_ok-fault-2.ensures.loading c.in-Some.is
    ∙ fresh_is c.args.index.now c.args.depth c.args.path.now c.args.name.now c.args.state.now.loaded c.if-depth-eq0.false (as_standing c.in_ok-fault.field-0)
    c.in_ok-fault.ensures.loading c.in-Class.opened.class (ap as_standing c.in-Class.is)

pub returns-then-not-is_met-clause-loading : goal.returns-then-not-is_met-clause-loading
returns-then-not-is_met-clause-loading t c =
    stopped_behind c.args.index.now c.args.depth c.args.path.now c.in-Class.opened.class c.args.state.now.loaded c.loop-need.state.loaded
    c.as_slice-need-items.result.now c.loop-need.need-index c.loop-need.invariant.3 _ c.loop-need-test.true c.loop-need.path c.load_named.new.state.loaded
    c.in_ok-fault-2.field-0 c.loop-need.invariant.2 c.in_ok-fault-2.ensures.loading c.in_default.is (sym c.is_met.ensures ∙ c.if-not-is_met.true)
    ∙ fresh_is c.args.index.now c.args.depth c.args.path.now c.args.name.now c.args.state.now.loaded c.if-depth-eq0.false (as_standing c.in_ok-fault.field-0)
    c.in_ok-fault.ensures.loading c.in-Class.opened.class (ap as_standing c.in-Class.is)

pub close-requires-clause-fresh : goal.close-requires-clause-fresh
close-requires-clause-fresh t c =
    still_fresh c.args.index.now c.args.depth c.args.path.now c.in-Class.opened.class c.args.state.now.loaded c.loop-need.state.loaded
    c.as_slice-need-items.result.now c.loop-need.need-index c.loop-need.invariant.3 c.loop-need-test.false (as_standing c.in_ok-fault.field-0) c.in_ok-fault.ensures.fresh (ap as_standing c.in-Class.is)

pub close-requires-clause-interfaces : goal.close-requires-clause-interfaces
close-requires-clause-interfaces t c =
    interfaces_have c.args.index.now c.args.depth c.args.path.now c.in-Class.opened.class c.args.state.now.loaded c.loop-need.state.loaded
    c.as_slice-need-items.result.now c.loop-need.need-index c.loop-need.invariant.3 c.loop-need-test.false c.loop-need.state.rows c.loop-need.invariant.0.loaded

pub close-requires-clause-above : goal.close-requires-clause-above
close-requires-clause-above t c =
    superclass_has c.args.index.now c.args.depth c.args.path.now c.in-Class.opened.class c.args.state.now.loaded c.loop-need.state.loaded
    c.as_slice-need-items.result.now c.loop-need.need-index c.loop-need.invariant.3 c.loop-need-test.false c.loop-need.state.rows c.loop-need.invariant.0.loaded

pub returns-clause-loading : goal.returns-clause-loading
returns-clause-loading t c =
    is_loaded c.args.index.now c.args.depth c.args.path.now c.in-Class.opened.class c.args.state.now.loaded c.loop-need.state.loaded
    c.as_slice-need-items.result.now c.loop-need.need-index c.loop-need.invariant.3 c.loop-need-test.false c.close.new.state.loaded c.in_ok-close.ensures.loaded
    ∙ fresh_is c.args.index.now c.args.depth c.args.path.now c.args.name.now c.args.state.now.loaded c.if-depth-eq0.false (as_standing c.in_ok-fault.field-0)
    c.in_ok-fault.ensures.loading c.in-Class.opened.class (ap as_standing c.in-Class.is)
