-- what is left is noted in what there is
use Rattle.std.proofs.Common.{◌≡◌, drop}
use Rattle.possible_callees.specs.Lineages.{IsNoted, class_noted}
use Rattle.possible_callees.proofs.lineage.note.Given as goal

abbrev pub invariant-loop-above : goal.invariant-loop-above
invariant-loop-above l =
    (class_noted l.class l.lists (drop l.above-index l.classes) ≡ class_noted l.class l.initial.lists l.classes)
    × IsNoted l.class l.classes l.initial.lists l.lists
