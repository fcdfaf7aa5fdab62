-- The initialization of classes over the parts of a machine (JVM Specification 5.5).
use Rattle.std.specs.Prelude.{ℕ, Option, Some, None}
use Rattle.jvm_model.specs.declared.state.Part.{Part}
use Rattle.jvm_model.specs.declared.state.Part.TheVariants.{Constants}
use Rattle.jvm_model.specs.declared.state.Phase.TheVariants.{Erroneous, Running}
use Rattle.jvm_model.specs.declared.state.State.{State}
use Rattle.jvm_model.specs.Basis.Data.{World}
use Rattle.jvm_model.specs.Running.Moves.{at_part, fails, initializes, throw_wrapped}
use Rattle.jvm_model.specs.Basis.SharedState.{with_phase}
use Rattle.prepared_code.specs.declared.parts.Parts.{Parts}
use Rattle.symbolic_references.specs.Runtimes.{with_shared}
use Rattle.activations.specs.Turning.{begun_in}
use Rattle.prepared_code.specs.Versions.{Setup, listing_of}

-- it begins
abbrev pub begins_class : ℕ → State → State
begins_class c s = record (at_part s c Constants) { shared = with_phase s.shared c Running }

-- it fails with an object
abbrev pub failing : World → ℕ → ℕ → Parts → Parts
failing w c r p =
    let a = throw_wrapped w p.runtime.shared r in
    record p { runtime = with_shared (with_phase a.shared c Erroneous) p.runtime; thrown = Some a.reference }

-- a throw meets it, or it goes on; from the state without its initialization
abbrev pub after_initialization : Setup → State → Option ℕ → ℕ → Part → State
after_initialization w s (Some r) c part = fails w.world s c r
after_initialization w s None c part = (initializes w.world (listing_of w.versions) s c part).after

-- the method that begins by that
abbrev pub initialization_begins : Setup → State → Option ℕ → ℕ → Part → Option ℕ
initialization_begins w s (Some r) c part = None
initialization_begins w s None c part = begun_in (initializes w.world (listing_of w.versions) s c part).changes
