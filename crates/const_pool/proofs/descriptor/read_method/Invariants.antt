-- what is left of the text decides, behind the parameters so far
use Rattle.std.proofs.Common.{◌≡◌, drop}
use Rattle.const_pool.specs.Stages.{method_answer, reading_from}
use Rattle.const_pool.proofs.descriptor.read_method.Given as goal

abbrev pub invariant-loop-i : goal.invariant-loop-i
invariant-loop-i l = reading_from l.stage l.params l.i (drop l.i l.units) ≡ method_answer l.units
