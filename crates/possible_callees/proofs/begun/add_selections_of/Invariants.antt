-- what is left is added to what is there
use Rattle.std.proofs.Common.{◌≡◌, drop}
use Rattle.std.specs.Prelude.{filter_map}
use Rattle.class_index.specs.Orders.{with_classes}
use Rattle.member_selection.specs.Members.{at_place}
use Rattle.possible_callees.specs.Lineages.{selection_of}
use Rattle.possible_callees.proofs.begun.add_selections_of.Given as goal

abbrev pub invariant-loop-lower : goal.invariant-loop-lower
invariant-loop-lower l =
    with_classes l.found (filter_map (selection_of l.linker.program l.lineage.loaded l.named.interface l.named.class (at_place l.m)) (drop l.lower-index l.classes))
    ≡ with_classes l.initial.found (filter_map (selection_of l.linker.program l.lineage.loaded l.named.interface l.named.class (at_place l.m)) l.classes)
