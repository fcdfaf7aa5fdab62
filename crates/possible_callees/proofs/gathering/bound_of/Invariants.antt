-- what is no further on is below the bound
use Rattle.std.proofs.Common.{◌≡◌, ◌<◌, ◌^◌, ◌+◌, ℕ, true, drop}
use Rattle.std.specs.Prelude.{◌⊎◌}
use Rattle.jvm_model.specs.Classes.Load.{is_among}
use Rattle.possible_callees.proofs.gathering.bound_of.Given as goal

abbrev pub invariant-loop-number : goal.invariant-loop-number
invariant-loop-number l =
    ((m : ℕ) → is_among m l.numbers ≡ true → (m < l.bound) ⊎ (is_among m (drop l.number-index l.numbers) ≡ true))
    × (l.bound < 2 ^ 32 + 1)
