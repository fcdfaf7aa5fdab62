-- what is left is added to what is there
use Rattle.std.proofs.Common.{◌≡◌, ℕ, drop}
use Rattle.std.specs.Prelude.{flat_map, ◌||◌}
use Rattle.std.specs.List.{AllByRecursion}
use Rattle.jvm_model.specs.Classes.Load.{is_among}
use Rattle.jvm_model.specs.Soundness.Sound.{HasLoadedCaller}
use Rattle.jvm_model.specs.Profiling.Targets.{begun_by}
use Rattle.possible_callees.proofs.gathering.add_all_begun.Given as goal

abbrev pub invariant-loop-reference : goal.invariant-loop-reference
invariant-loop-reference l =
    ((m : ℕ) → (is_among m l.found || is_among m (flat_map (begun_by l.linker.program l.lineage.loaded) (drop l.reference-index l.references)))
    ≡ (is_among m l.initial.found || is_among m (flat_map (begun_by l.linker.program l.lineage.loaded) l.references)))
    × AllByRecursion (λ n. HasLoadedCaller l.linker.program l.linker.loaded n) (drop l.reference-index l.references)
