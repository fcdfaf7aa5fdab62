-- what is left is added to what is there
use Rattle.std.proofs.Common.{◌≡◌, drop}
use Rattle.std.specs.List.{AllByRecursion}
use Rattle.class_index.specs.Orders.{with_classes}
use Rattle.class_linker.specs.Linkers.{IsLoaded}
use Rattle.possible_callees.specs.Lineages.{IsLineage}
use Rattle.possible_callees.proofs.gathering.add_classes.Given as goal

abbrev pub invariant-loop-class : goal.invariant-loop-class
invariant-loop-class l =
    (IsLineage l.linker.program l.initial.lineage → IsLineage l.linker.program l.lineage)
    × (with_classes l.lineage.loaded (drop l.class-index l.classes) ≡ with_classes l.initial.lineage.loaded l.classes)
    × AllByRecursion (IsLoaded l.linker) (drop l.class-index l.classes)
