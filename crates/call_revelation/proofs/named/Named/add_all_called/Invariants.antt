-- what is left is added to what is there
use Rattle.std.proofs.Common.{◌≡◌, ℕ, drop, true}
use Rattle.std.specs.Prelude.{flat_map, ◌||◌}
use Rattle.jvm_model.specs.declared.program.Program.{Program}
use Rattle.jvm_model.specs.Classes.Load.{is_among}
use Rattle.possible_callees.specs.Lineages.{IsLineage}
use Rattle.call_revelation.specs.CalledClasses.{AreHanded, called_class}
use Rattle.call_revelation.proofs.named.Named.add_all_called.Given as goal

abbrev pub invariant-loop-reference : goal.invariant-loop-reference
invariant-loop-reference l =
    ((m : ℕ) → (is_among m l.self.classes || is_among m (flat_map (called_class l.linker.program) (drop l.reference-index l.references)))
    ≡ (is_among m l.initial.self.classes || is_among m (flat_map (called_class l.linker.program) l.references)))
    × (((class : ℕ) → is_among class l.initial.self.classes ≡ true → is_among class l.self.classes ≡ true)
    × ((p : Program) → IsLineage p l.lineage → AreHanded p l.lineage.loaded l.initial.self → AreHanded p l.lineage.loaded l.self))
