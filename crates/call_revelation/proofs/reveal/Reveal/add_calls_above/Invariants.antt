-- what is left is added to what is there
use Rattle.std.proofs.Common.{◌≡◌, ℕ, drop}
use Rattle.std.specs.Prelude.{flat_map, ◌||◌}
use Rattle.jvm_model.specs.Classes.Load.{is_among}
use Rattle.call_revelation.specs.Books.{called_from}
use Rattle.call_revelation.proofs.reveal.Reveal.add_calls_above.Given as goal

abbrev pub invariant-loop-class : goal.invariant-loop-class
invariant-loop-class l =
    (m : ℕ) → (is_among m l.found
    || is_among m (flat_map (called_from l.linker.program l.self.lineage.loaded l.new l.self.entered l.self.book.codes l.self.book.calls.items) (drop l.class-index l.classes)))
    ≡ (is_among m l.initial.found
    || is_among m (flat_map (called_from l.linker.program l.self.lineage.loaded l.new l.self.entered l.self.book.codes l.self.book.calls.items) l.classes))
