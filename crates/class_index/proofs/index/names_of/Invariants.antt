-- what is left is added to the names so far
use Rattle.std.proofs.Common.{◌≡◌, [], drop}
use Rattle.class_index.specs.Names.{named_from}
use Rattle.class_index.proofs.index.names_of.Given as goal

abbrev pub invariant-loop-at : goal.invariant-loop-at
invariant-loop-at l = named_from l.at (drop l.at l.classes) l.names ≡ named_from 0 l.classes []
