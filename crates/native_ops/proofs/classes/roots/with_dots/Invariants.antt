use Rattle.std.proofs.Common.{◌≡◌}
use Rattle.std.specs.Prelude.{map, take}
use Rattle.native_ops.specs.Classes.Roots.{with_dot}
use Rattle.native_ops.proofs.classes.roots.with_dots.Given as goal

abbrev pub invariant-loop-unit : goal.invariant-loop-unit
invariant-loop-unit l = l.units ≡ map with_dot (take l.unit-index l.name)
