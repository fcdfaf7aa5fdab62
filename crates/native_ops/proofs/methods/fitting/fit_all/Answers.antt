use Rattle.std.proofs.Common.{◌∙◌, sym, arith}
use Rattle.native_ops.proofs.FitLemmas.{missing}
use Rattle.native_ops.proofs.methods.fitting.fit_all.Goals as goal

pub returns-then-i-args : goal.returns-then-i-args
returns-then-i-args g c =
    sym (missing c.loop-i.i c.args.parameters.now (g.K.Kinds.seen c.args.kinds.now) c.args.args.now c.args.heap.now (omega arith) (omega arith))
    ∙ c.loop-i.invariant
