-- What the changes of a step tell, by the versions that the live activations run: each with its method and the mark of
-- its version.
use Rattle.std.specs.Prelude.{ℕ, List, [], ◌∷◌, ◌++◌, map}
use Rattle.std.specs.Option.{option_map_or}
use Rattle.std.specs.Prelude.{slice_get}
use Rattle.jvm_model.specs.declared.event.Event.{Event}
use Rattle.jvm_model.specs.declared.event.EventKind.{EventKind}
use Rattle.jvm_model.specs.declared.event.EventKind.TheVariants as kind
use Rattle.jvm_model.specs.declared.event.Mark.{Mark}
use Rattle.jvm_model.specs.declared.event.Mark.TheVariants.{Off}
use Rattle.jvm_model.specs.Basis.Data.{Frame, Entry, Active, Initializing, Listing, Change, Loads, Began, Left, Unwound}
use Rattle.jvm_model.specs.Profiling.Activations.{Activation, Trace}
use Rattle.jvm_model.specs.Profiling.EventLists.{Marking, begin_events, end_events}

-- a live activation: its method, and the mark of the version that it runs
pub record Held : Type 0 where
  pub method : ℕ
  pub mark : Mark

-- those after a change, the current one first; `marks` is the mark of the version in which a method begins now
abbrev pub without_held : List Held → List Held
without_held [] = []
without_held (h ∷ more) = more

abbrev pub held_after : (ℕ → Mark) → List Held → Change → List Held
held_after marks live (Loads classes) = live
held_after marks live (Began m) = record { method = m; mark = marks m } ∷ live
held_after marks live Left = without_held live
held_after marks live Unwound = without_held live

-- what the change tells
abbrev pub end_told : EventKind → ℕ → List Held → List Event
end_told k step [] = []
end_told k step (h ∷ more) = end_events k step h.method h.mark

abbrev pub change_told : (ℕ → Mark) → ℕ → List Held → Change → List Event
change_told marks step live (Loads classes) = []
change_told marks step live (Began m) = begin_events step m (marks m)
change_told marks step live Left = end_told kind.Leave step live
change_told marks step live Unwound = end_told kind.Unwind step live

abbrev pub changes_told : (ℕ → Mark) → ℕ → List Held → List Change → List Event
changes_told marks step live [] = []
changes_told marks step live (c ∷ more) = change_told marks step live c ++ changes_told marks step (held_after marks live c) more

abbrev pub all_held : (ℕ → Mark) → List Held → List Change → List Held
all_held marks live [] = live
all_held marks live (c ∷ more) = all_held marks (held_after marks live c) more

-- ---- the live activations of a trace, with the marks that a marking gives them

abbrev pub held_of : Marking → Activation → Held
held_of marking a = record { method = a.method; mark = marking a.begin a.method }

abbrev pub nothing_held : Held
nothing_held = record { method = 0; mark = Off }

abbrev pub held_at : Marking → List Activation → ℕ → Held
held_at marking activations number = option_map_or (held_of marking) (slice_get activations number) nothing_held

abbrev pub held_in : Marking → Trace → List Held
held_in marking t = map (held_at marking t.activations) t.live

-- ---- the live activations of a state, by the marks of the versions

abbrev pub frame_held : (ℕ → Mark) → Frame → Held
frame_held mark_of f = record { method = f.method; mark = mark_of f.version }

abbrev pub helds : (ℕ → Mark) → List Entry → List Held
helds mark_of [] = []
helds mark_of (Active f ∷ below) = frame_held mark_of f ∷ helds mark_of below
helds mark_of (Initializing c part ∷ below) = helds mark_of below

-- the mark of the version in which a method begins
abbrev pub mark_now : (ℕ → Mark) → Listing → ℕ → Mark
mark_now mark_of t m = mark_of (t.current m)
