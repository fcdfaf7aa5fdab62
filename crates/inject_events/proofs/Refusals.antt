-- A refusal at an instruction, or at a later one: where there is none, there is neither.
use Rattle.std.proofs.Common.{◌≡◌, ℕ, refl}
use Rattle.std.specs.Prelude.{Option, Some, None}
use Rattle.inject_events.specs.declared.error.Cause.{Cause}
use Rattle.inject_events.specs.Rewriting.{Refused, refused_here}

pub here-none : (position : ℕ) (why : Option Cause) (later : Option Refused) → refused_here position why later ≡ None → (why ≡ None) × (later ≡ None)
here-none position None later none = (refl, none)
here-none position (Some why) later none = absurd cc
