-- what is left decides, behind so many dimensions
use Rattle.std.proofs.Common.{◌≡◌, drop}
use Rattle.jvm_model.specs.Classes.Kinds.{array_from}
use Rattle.class_index.proofs.meaning.array_of.Given as goal

abbrev pub invariant-loop-at : goal.invariant-loop-at
invariant-loop-at l = array_from l.at (drop l.at l.name) ≡ array_from 0 l.name
