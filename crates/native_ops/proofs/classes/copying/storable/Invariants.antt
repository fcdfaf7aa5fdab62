use Rattle.std.proofs.Common.{◌≡◌, ◌++◌, drop}
use Rattle.native_ops.specs.Classes.Copying.{storable}
use Rattle.native_ops.proofs.classes.copying.storable.Given as goal

abbrev pub invariant-loop-value : goal.invariant-loop-value
invariant-loop-value g l =
    l.fitting ++ storable (g.K.Kinds.seen l.fn.kinds) l.fn.kind l.fn.heap (drop l.value-index l.values)
    ≡ storable (g.K.Kinds.seen l.fn.kinds) l.fn.kind l.fn.heap l.values
