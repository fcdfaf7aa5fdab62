-- The run of original code over its table of versions, in which the version of a method has the method's number.
use Rattle.std.specs.Prelude.{ℕ, Bool, true, false, ◌≡◌}
use Rattle.jvm_model.specs.declared.program.Program.{Program}
use Rattle.jvm_model.specs.declared.state.State.{State}
use Rattle.jvm_model.specs.Basis.Data.{World}
use Rattle.jvm_model.specs.Running.Run.{before, run}
use Rattle.jvm_model.specs.Rewriting.StandsForRun.{StandsFor}
use Rattle.prepared_code.specs.Entries.{original_versions}
use Rattle.prepared_code.specs.Ready.{IsSoundIn}
use Rattle.prepared_code.specs.Versions.{Setup, method_of}

abbrev pub original_setup : World → Setup
original_setup w = record { world = w; versions = original_versions w.program }

-- each place at home
abbrev pub place_unmoved : ℕ → ℕ → ℕ
place_unmoved version at = at

abbrev pub StandsForOriginal : Program → State → State → Type 0
StandsForOriginal p versioned from_original = StandsFor place_unmoved (method_of (original_versions p)) place_unmoved versioned from_original

-- a state that stands for the run's after so many steps
pub record IsRunOfOriginal (w : World) (clock : ℕ) (s : State) : Type 0 where
  pub stands : StandsForOriginal w.program s (run w clock)
  pub sound : IsSoundIn (original_setup w) s

-- or nothing was done yet
abbrev pub IsAfter : World → Bool → ℕ → State → Type 0
IsAfter w false clock s = s ≡ before w
IsAfter w true clock s = IsRunOfOriginal w clock s
