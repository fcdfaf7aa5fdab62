-- what is left is added to what is there
use Rattle.std.proofs.Common.{◌≡◌, ℕ, drop}
use Rattle.std.specs.Prelude.{flat_map, ◌||◌}
use Rattle.jvm_model.specs.Classes.Load.{is_among}
use Rattle.call_revelation.specs.Books.{called_by, of_entered}
use Rattle.call_revelation.proofs.reveal.Reveal.add_calls.Given as goal

abbrev pub invariant-loop-u : goal.invariant-loop-u
invariant-loop-u l =
    (m : ℕ) → (is_among m l.found || is_among m (flat_map (of_entered l.self.entered l.self.book.codes (called_by l.linker.program l.new l.class)) (drop l.u-index l.uses)))
    ≡ (is_among m l.initial.found || is_among m (flat_map (of_entered l.self.entered l.self.book.codes (called_by l.linker.program l.new l.class)) l.uses))
