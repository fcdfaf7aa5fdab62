use Rattle.std.proofs.Common.{[], ap, length, subst, sym, ◌∙◌}
use Rattle.std.specs.Prelude.{replicate}
use Rattle.jvm_model.specs.declared.program.Program.{Program}
use Rattle.std.specs.List.{AllByRecursion}
use Rattle.class_linker.specs.Linkers.{IsLoaded}
use Rattle.possible_callees.proofs.Classes.LineageLemmas.{nothing-loaded}
use Rattle.possible_callees.proofs.References.TargetLemmas.{all-among}
use Rattle.possible_callees.proofs.gathering.lineage_of.Goals as goal

pub add_classes-requires : goal.add_classes-requires
add_classes-requires c =
    subst (AllByRecursion (IsLoaded c.args.linker.now)) (sym c.loaded-loaded.ensures) (all-among c.args.linker.now.loaded)

pub returns-clause-lineage : goal.returns-clause-lineage
returns-clause-lineage c =
    c.in_ok-add_classes.ensures.lineage
    (nothing-loaded c.args.linker.now.program c.in_ok-lineage.lineage c.in_ok-lineage.ensures.loaded
    (c.in_ok-lineage.ensures.below ∙ ap (λ n. replicate n []) (c.len.ensures ∙ ap (λ (q : Program). length q.classes) c.program.ensures)))
