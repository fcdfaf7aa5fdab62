-- with the groups that are left it is the whole, and none of those is too far or ends too late
use Rattle.std.proofs.Common.{◌≡◌, ◌≤◌, ◌++◌, drop, None}
use Rattle.code_model.specs.Layout.{home_of, groups_bytes, first_far_from, end_from}
use Rattle.code_model.proofs.spelling.put_groups.Given as goal

abbrev pub invariant-loop-group : goal.invariant-loop-group
invariant-loop-group l = record {
  whole : l.out ++ groups_bytes (home_of l.homes) l.at (drop l.group-index l.groups) ≡ l.fn.out ++ groups_bytes (home_of l.homes) l.start l.groups;
  near : first_far_from (home_of l.homes) l.at (drop l.group-index l.groups) ≡ None;
  short : end_from l.at (drop l.group-index l.groups) ≤ 65535;
}
