-- A class that can be rewritten is refused for want of memory alone.
use Rattle.std.proofs.Common.{◌≡◌, ℕ, Result, Err, refl}
use Rattle.inject_events.specs.declared.error.Cause.{Cause}
use Rattle.inject_events.specs.declared.error.InjectError.{InjectError}
use Rattle.inject_events.specs.declared.error.InjectError.TheVariants as inject
use Rattle.inject_events.specs.declared.image.Image.{Image}

abbrev refuses : InjectError → Result Image InjectError
refuses error = Err error

pub memory-alone : (error : InjectError) → ((method : ℕ) (cause : Cause) → refuses error ≡ refuses (inject.NotProfilable method cause) → ⊥) → error ≡ inject.NoMemory
memory-alone inject.NoMemory never = refl
memory-alone (inject.NotProfilable method cause) never = absurd (never method cause refl)
