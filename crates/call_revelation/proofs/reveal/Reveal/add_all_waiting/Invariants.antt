-- what is left is added to what is there
use Rattle.std.proofs.Common.{◌≡◌, ℕ, drop}
use Rattle.std.specs.Prelude.{flat_map, ◌||◌}
use Rattle.jvm_model.specs.Classes.Load.{is_among}
use Rattle.jvm_model.specs.Profiling.Targets.{begun_by}
use Rattle.call_revelation.specs.Books.{of_entered}
use Rattle.call_revelation.proofs.reveal.Reveal.add_all_waiting.Given as goal

abbrev pub invariant-loop-u : goal.invariant-loop-u
invariant-loop-u l =
    (m : ℕ) → (is_among m l.found || is_among m (flat_map (of_entered l.self.entered l.self.book.codes (begun_by l.linker.program l.self.lineage.loaded)) (drop l.u-index l.uses)))
    ≡ (is_among m l.initial.found || is_among m (flat_map (of_entered l.self.entered l.self.book.codes (begun_by l.linker.program l.self.lineage.loaded)) l.uses))
