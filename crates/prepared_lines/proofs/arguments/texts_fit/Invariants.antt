-- those that are left fit into what is left of the room
use Rattle.std.proofs.Common.{◌≡◌, drop, nat_le}
use Rattle.jvm_model.specs.Basis.SharedState.{texts_cost}
use Rattle.prepared_lines.proofs.arguments.texts_fit.Given as goal

abbrev pub invariant-loop-arg : goal.invariant-loop-arg
invariant-loop-arg l = nat_le (texts_cost (drop l.arg-index l.args)) l.left ≡ nat_le (texts_cost l.args) l.room
