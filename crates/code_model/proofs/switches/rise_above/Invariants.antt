-- what is left decides
use Rattle.std.proofs.Common.{◌≡◌, drop}
use Rattle.code_model.specs.Operands.{rise_above}
use Rattle.code_model.proofs.switches.rise_above.Given as goal

abbrev pub invariant-loop-key : goal.invariant-loop-key
invariant-loop-key l = rise_above l.below (drop l.key-index l.keys) ≡ rise_above l.low l.keys
