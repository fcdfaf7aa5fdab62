-- what is left is added to what is there
use Rattle.std.proofs.Common.{◌≡◌, ℕ, drop}
use Rattle.std.specs.Prelude.{flat_map, ◌||◌}
use Rattle.jvm_model.specs.Classes.Load.{is_among}
use Rattle.possible_callees.specs.Tables.{list_at}
use Rattle.call_revelation.proofs.named.Named.add_above.Given as goal

abbrev pub invariant-loop-class : goal.invariant-loop-class
invariant-loop-class l =
    (m : ℕ) → (is_among m l.found || is_among m (flat_map (list_at l.self.above.items) (drop l.class-index l.classes)))
    ≡ (is_among m l.initial.found || is_among m (flat_map (list_at l.self.above.items) l.classes))
