use Rattle.std.proofs.Common.{◌≡◌, drop}
use Rattle.native_ops.specs.Methods.Signatures.{fit_all}
use Rattle.native_ops.proofs.methods.fitting.fit_all.Given as goal

abbrev pub invariant-loop-i : goal.invariant-loop-i
invariant-loop-i g l =
    fit_all (drop l.i l.parameters) (g.K.Kinds.seen l.fn.kinds) (drop l.i l.args) l.fn.heap
    ≡ fit_all l.parameters (g.K.Kinds.seen l.fn.kinds) l.args l.fn.heap
