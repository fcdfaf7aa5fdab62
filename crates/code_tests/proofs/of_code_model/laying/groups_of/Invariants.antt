-- the instructions so far, each with few bytes in front
use Rattle.std.proofs.Common.{◌≡◌}
use Rattle.std.specs.Prelude.{All}
use Rattle.code_model.specs.Groups.{instrs_of, IsShort}
use Rattle.code_tests.proofs.of_code_model.laying.groups_of.Given as goal

abbrev pub invariant-loop-instr : goal.invariant-loop-instr
invariant-loop-instr l = record {
  instrs : instrs_of l.groups ≡ l.yielded;
  fronts : All (λ g. IsShort g.before) l.groups;
}
