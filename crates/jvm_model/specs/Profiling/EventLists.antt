-- The event list of a run: what the probes of rewritten versions tell, said of the changes of each step.
use Rattle.std.specs.Prelude.{◌≡◌, ℕ, zero, suc, ◌+◌, List, [], ◌∷◌, ◌++◌, Option, refl, slice_get, if◌then◌else◌}
use Rattle.std.specs.Option.{option_and_then, option_map_or}
use Rattle.jvm_model.specs.declared.event.Act.{Act}
use Rattle.jvm_model.specs.declared.event.Event.{Event}
use Rattle.jvm_model.specs.declared.event.EventKind.{EventKind}
use Rattle.jvm_model.specs.declared.event.EventKind.TheVariants as kind
use Rattle.jvm_model.specs.declared.event.Mark.{Mark}
use Rattle.jvm_model.specs.declared.event.Mark.TheVariants.{Off, Plain, Root}
use Rattle.jvm_model.specs.Basis.Data.{Change, Loads, Began, Left, Unwound, World}
use Rattle.jvm_model.specs.Running.Run.{turn}
use Rattle.jvm_model.specs.Profiling.Activations.{Activation, Trace, current, trace_changed, trace_before}
use Rattle.jvm_model.specs.Profiling.Projection.{is_selected}

-- the mark of the version in which a method begins in a step
abbrev pub Marking : Type 0
Marking = ℕ → ℕ → Mark

-- a version tells that it is entered, by its mark
abbrev pub begin_events : ℕ → ℕ → Mark → List Event
begin_events step method Root = record { kind = kind.Root; method = method; clock = step } ∷ []
begin_events step method Plain = record { kind = kind.Enter; method = method; clock = step } ∷ []
begin_events step method Off = []

-- and that it is left or unwound, if it has a mark
abbrev pub end_events : EventKind → ℕ → ℕ → Mark → List Event
end_events k step method Root = record { kind = k; method = method; clock = step } ∷ []
end_events k step method Plain = record { kind = k; method = method; clock = step } ∷ []
end_events k step method Off = []

-- the current activation
abbrev pub current_activation : Trace → Option Activation
current_activation t = option_and_then (slice_get t.activations) (current t.live)

-- it ends in the version in which it began
abbrev pub end_of : Marking → EventKind → ℕ → Trace → List Event
end_of marking k step t = option_map_or (λ (a : Activation). end_events k step a.method (marking a.begin a.method)) (current_activation t) []

-- what is told of one change, after which the activations are others
abbrev pub events_told : Marking → ℕ → Trace → Change → List Event
events_told marking step t (Loads classes) = []
events_told marking step t (Began method) = begin_events step method (marking step method)
events_told marking step t Left = end_of marking kind.Leave step t
events_told marking step t Unwound = end_of marking kind.Unwind step t

abbrev pub all_told : Marking → ℕ → Trace → List Change → List Event
all_told marking step t [] = []
all_told marking step t (c ∷ more) = events_told marking step t c ++ all_told marking step (trace_changed step t c) more

-- the events of a step: those of its changes, in order
abbrev pub step_events : Marking → World → ℕ → List Event
step_events marking w n = all_told marking n (trace_before w n) (turn w n).changes

-- the events of the start and of so many steps
unfoldable pub events_of : Marking → World → ℕ → List Event
events_of marking w zero = step_events marking w 0
events_of marking w (suc n) = events_of marking w n ++ step_events marking w (suc n)

pub events_of-zero : (marking : Marking) (w : World) → events_of marking w 0 ≡ step_events marking w 0
unfolding events_of
events_of-zero marking w = refl

pub events_of-suc : (marking : Marking) (w : World) (n : ℕ) → events_of marking w (suc n) ≡ events_of marking w n ++ step_events marking w (suc n)
unfolding events_of
events_of-suc marking w n = refl

-- how many entries there are among events
abbrev pub entries_by : EventKind → ℕ
entries_by kind.Root = 1
entries_by kind.Enter = 1
entries_by kind.Leave = 0
entries_by kind.Unwind = 0

abbrev pub entries : List Event → ℕ
entries [] = 0
entries (e ∷ more) = entries_by e.kind + entries more

-- where every selected method is a root and every other method is marked too
abbrev pub full_marking : List Act → Marking
full_marking acts step method = if is_selected acts step method then Root else Plain
