-- the units so far, and those that are still to come
use Rattle.std.proofs.Common.{◌≡◌, ◌++◌, drop}
use Rattle.admit_check.specs.Twins.{key_text}
use Rattle.admit_check.proofs.twins.key_text.Given as goal

abbrev pub invariant-loop-unit : goal.invariant-loop-unit
invariant-loop-unit l = l.units.items ++ key_text (drop l.unit-index l.name) l.descriptor ≡ key_text l.name l.descriptor
