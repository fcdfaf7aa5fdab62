-- what is left is put to what there is
use Rattle.std.proofs.Common.{◌≡◌, [], drop}
use Rattle.std.specs.Prelude.{replicate}
use Rattle.call_revelation.specs.Reveals.{owned_from}
use Rattle.call_revelation.proofs.reveal.methods_by_class.Given as goal

abbrev pub invariant-loop-number : goal.invariant-loop-number
invariant-loop-number l = owned_from l.number (drop l.number l.methods) l.own.items ≡ owned_from 0 l.methods (replicate l.classes [])
