-- what is left of the groups decides
use Rattle.std.proofs.Common.{◌≡◌, ◌≤◌, drop}
use Rattle.code_model.specs.Layout.{home_of, end_from, first_far_from}
use Rattle.code_model.proofs.laying.first_far.Given as goal

abbrev pub invariant-loop-group : goal.invariant-loop-group
invariant-loop-group l = record {
  far : first_far_from (home_of l.homes) l.at (drop l.group-index l.groups) ≡ first_far_from (home_of l.homes) l.start l.groups;
  short : end_from l.at (drop l.group-index l.groups) ≤ 65535;
}
