-- What a turn of the machine makes of what is kept and told.
use Rattle.std.specs.Prelude.{ℕ, Bool, true, false, List, [], ◌∷◌}
use Rattle.jvm_model.specs.declared.event.Event.{Event}
use Rattle.jvm_model.specs.declared.program.Program.{Program}
use Rattle.jvm_machine.specs.declared.turn.Turn.{Turn}
use Rattle.jvm_machine.specs.declared.turn.Turn.TheVariants.{Settled, Loaded, Probe, Ended, Broken, NoMemory}
use Rattle.profile_session.specs.Keeping.{Kept, kept_end, kept_event, kept_load}

abbrev pub kept_turned : Program → ℕ → Kept → Turn → Kept
kept_turned p clock k Settled = kept_end p clock k
kept_turned p clock k Ended = kept_end p clock k
kept_turned p clock k (Loaded classes) = kept_load p clock k classes
kept_turned p clock k (Probe e) = kept_event p k e
kept_turned p clock k Broken = k
kept_turned p clock k NoMemory = k

abbrev pub events_in : Turn → List Event
events_in Settled = []
events_in Ended = []
events_in (Loaded classes) = []
events_in (Probe e) = e ∷ []
events_in Broken = []
events_in NoMemory = []

-- there was memory
abbrev pub is_telling : Turn → Bool
is_telling Settled = true
is_telling Ended = true
is_telling (Loaded classes) = true
is_telling (Probe e) = true
is_telling Broken = false
is_telling NoMemory = false
