-- What a session keeps of the points, by what it sees: its own actions, which classes a step loads, and which events
-- are told. It sees no activation of a version without probes, and no activation's end but by an event.
use Rattle.std.specs.Prelude.{◌≡◌, refl, ℕ, zero, suc, not, fold, List, [], ◌++◌, if◌then◌else◌, ◌&&◌}
use Rattle.jvm_model.specs.declared.event.Act.{Act}
use Rattle.jvm_model.specs.declared.event.Event.{Event}
use Rattle.jvm_model.specs.Profiling.Activations.{Trace, current}
use Rattle.jvm_model.specs.Basis.Data.{World}
use Rattle.jvm_model.specs.Profiling.EventLists.{Marking, step_events}
use Rattle.jvm_model.specs.Profiling.Paths.{is_inside}
use Rattle.jvm_model.specs.Profiling.Projection.{path_at}
use Rattle.jvm_model.specs.Running.Run.{before, turn}
use Rattle.jvm_model.specs.Soundness.Calls.{loads_of}
use Rattle.context_tree.specs.Counts.{opens, path_after}
use Rattle.jvm_model.specs.Profiling.Points.{acts_at, acts_behind, methods_selected, is_empty, with_entered, Standing}

-- the selection, what is entered, the loaded classes, and the tree's open path
pub record Seen : Type 0 where
  pub selected : List ℕ
  pub entered : List ℕ
  pub loaded : List ℕ
  pub «open» : List ℕ

abbrev pub first_seen : World → Seen
first_seen w = record { selected = []; entered = []; loaded = (before w).shared.loaded; «open» = [] }

-- quiet where nothing is selected and no path is open
abbrev pub seen_end : Seen → Seen
seen_end s = if is_empty s.selected && not (is_inside s.open) then record s { entered = [] } else s

abbrev pub seen_act : Seen → Act → Seen
seen_act s act = seen_end (record s { selected = methods_selected act s.selected })

abbrev pub seen_acts : Seen → List Act → Seen
seen_acts s acts = fold seen_act s acts

abbrev pub seen_load : Seen → List ℕ → Seen
seen_load s classes = record s { loaded = s.loaded ++ classes }

-- a method is entered where its event opens a path of the tree
abbrev pub seen_event : Seen → Event → Seen
seen_event s e = record s { entered = if opens s.open e.kind then with_entered e.method s.entered else s.entered; «open» = path_after s.open e }

-- a step with these classes and events, and the actions behind it
abbrev pub seen_step : Seen → List ℕ → List Event → List Act → Seen
seen_step s classes events acts = seen_acts (seen_end (fold seen_event (seen_load s classes) events)) acts

-- before a step, under a marking
unfoldable pub seen_before : List Act → World → Marking → ℕ → Seen
seen_before acts w marking zero = seen_acts (first_seen w) (acts_at 0 acts)
seen_before acts w marking (suc n) = seen_step (seen_before acts w marking n) (loads_of (turn w n).changes) (step_events marking w n) (acts_behind n acts)

pub seen_before-zero : (acts : List Act) (w : World) (marking : Marking) → seen_before acts w marking 0 ≡ seen_acts (first_seen w) (acts_at 0 acts)
unfolding seen_before
seen_before-zero acts w marking = refl

pub seen_before-suc : (acts : List Act) (w : World) (marking : Marking) (n : ℕ)
    → seen_before acts w marking (suc n) ≡ seen_step (seen_before acts w marking n) (loads_of (turn w n).changes) (step_events marking w n) (acts_behind n acts)
unfolding seen_before
seen_before-suc acts w marking n = refl

-- ---- what is seen against what stands

-- the current activation's path
abbrev pub open_of : List Act → Trace → List ℕ
open_of acts t = path_at acts t.activations (current t.live)

-- what is seen is what stands, and the open path is the current activation's
pub record Matches (acts : List Act) (seen : Seen) (s : Standing) : Type 0 where
  pub selected : seen.selected ≡ s.selected
  pub entered : seen.entered ≡ s.entered
  pub loaded : seen.loaded ≡ s.loaded
  pub path : seen.open ≡ open_of acts s.trace
