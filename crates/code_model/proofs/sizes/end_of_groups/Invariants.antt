-- what is left of the groups ends where they all do
use Rattle.std.proofs.Common.{◌≡◌, drop}
use Rattle.code_model.specs.Layout.{end_from}
use Rattle.code_model.proofs.sizes.end_of_groups.Given as goal

abbrev pub invariant-loop-group : goal.invariant-loop-group
invariant-loop-group l = end_from l.at (drop l.group-index l.groups) ≡ end_from l.start l.groups
