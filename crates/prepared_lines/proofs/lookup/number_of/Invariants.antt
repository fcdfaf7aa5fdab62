-- what is left of the places decides
use Rattle.std.proofs.Common.{◌≡◌, drop}
use Rattle.jvm_model.specs.Basis.Programs.{number_from}
use Rattle.prepared_lines.proofs.lookup.number_of.Given as goal

abbrev pub invariant-loop-number : goal.invariant-loop-number
invariant-loop-number l =
    number_from l.number l.class l.at (drop l.number l.places) ≡ number_from 0 l.class l.at l.places
