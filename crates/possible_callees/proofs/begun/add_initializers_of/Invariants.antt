-- what is left is added to what is there
use Rattle.std.proofs.Common.{◌≡◌, drop}
use Rattle.std.specs.Prelude.{filter_map}
use Rattle.class_index.specs.Orders.{with_classes}
use Rattle.possible_callees.specs.Lineages.{initializer_in}
use Rattle.possible_callees.proofs.begun.add_initializers_of.Given as goal

abbrev pub invariant-loop-class : goal.invariant-loop-class
invariant-loop-class l =
    with_classes l.found (filter_map (initializer_in l.linker.program l.lineage.loaded) (drop l.class-index l.classes))
    ≡ with_classes l.initial.found (filter_map (initializer_in l.linker.program l.lineage.loaded) l.classes)
