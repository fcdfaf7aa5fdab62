-- with the spots of what is left the homes are the whole
use Rattle.std.proofs.Common.{◌≡◌, drop}
use Rattle.code_model.specs.Layout.{spots_from, end_from}
use Rattle.code_model.specs.Layout.{with_spots}
use Rattle.code_model.proofs.homes.add_spots.Given as goal

abbrev pub invariant-loop-group : goal.invariant-loop-group
invariant-loop-group l = record {
  ends : end_from l.at (drop l.group-index l.groups) ≡ end_from l.start l.groups;
  spots : with_spots l.homes (spots_from l.at (drop l.group-index l.groups)) ≡ with_spots l.fn.homes (spots_from l.start l.groups);
}
