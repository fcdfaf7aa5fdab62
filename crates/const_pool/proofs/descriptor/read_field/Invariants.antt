-- what is left of the text decides
use Rattle.std.proofs.Common.{◌≡◌, drop}
use Rattle.const_pool.specs.Stages.{field_answer, field_from}
use Rattle.const_pool.proofs.descriptor.read_field.Given as goal

abbrev pub invariant-loop-i : goal.invariant-loop-i
invariant-loop-i l = field_from l.stage l.i (drop l.i l.units) ≡ field_answer l.units
