-- What a session keeps beside its machine: what is selected, entered and loaded with the open path, and the swap list.
-- It changes by what the session sees: classes that a step has loaded, events, ends of steps, and its own actions.
use Rattle.std.specs.Prelude.{◌≡◌, refl, ℕ, zero, suc, not, fold, Bool, List, [], ◌∷◌, ◌++◌, map, if◌then◌else◌, ◌&&◌}
use Rattle.jvm_model.specs.declared.event.Act.{Act}
use Rattle.jvm_model.specs.declared.event.Event.{Event}
use Rattle.jvm_model.specs.declared.event.Mark.{Mark}
use Rattle.jvm_model.specs.declared.program.Program.{Program}
use Rattle.jvm_model.specs.Soundness.Calls.{loads_of}
use Rattle.jvm_model.specs.Basis.Data.{World}
use Rattle.jvm_model.specs.Profiling.EventLists.{Marking, step_events}
use Rattle.jvm_model.specs.Profiling.Paths.{is_inside}
use Rattle.jvm_model.specs.Profiling.Points.{Standing, acts_at, acts_behind, is_empty, marking_of}
use Rattle.jvm_model.specs.Profiling.Revealed.{Revealed, changed_of, mark_of, marks_of, stand_of}
use Rattle.jvm_model.specs.Running.Run.{turn}
use Rattle.jvm_model.specs.Profiling.Swaps.{Swapped}
use Rattle.context_tree.specs.Counts.{opens}
use Rattle.context_tree.specs.Seen.{Seen, first_seen, seen_act, seen_event, seen_load}
use Rattle.profile_session.specs.declared.swap.Swap.{Swap}
use Rattle.profile_session.specs.Images.{image_bytes, marks_for}

abbrev pub methods_revealed : Seen → Revealed
methods_revealed s = record { selected = s.selected; entered = s.entered; loaded = s.loaded }

abbrev pub stand : Seen → Standing
stand s = stand_of (methods_revealed s)

abbrev pub mark_seen : Program → Seen → ℕ → Mark
mark_seen p s method = mark_of p (methods_revealed s) method

abbrev pub marks_seen : Program → Seen → List Mark
marks_seen p s = marks_of p (methods_revealed s)

abbrev pub changed_classes : Program → Seen → Seen → List ℕ
changed_classes p before now = changed_of p (methods_revealed before) (methods_revealed now)

-- ---- swaps

-- an entry of the rule's list with its image's bytes
abbrev pub swap_of : Program → Swapped → Swap
swap_of p s = record { clock = s.clock; class = s.class; image = image_bytes p s.class s.marks }

-- these classes are swapped for what is revealed now
abbrev pub swap_now : Program → ℕ → Revealed → ℕ → Swap
swap_now p clock r class = swap_of p (record { clock = clock; class = class; marks = marks_for p r class })

abbrev pub swapped_now : Program → ℕ → Revealed → List ℕ → List Swap
swapped_now p clock r classes = map (swap_now p clock r) classes

-- what is seen, and the swaps so far
pub record Kept : Type 0 where
  pub seen : Seen
  pub swaps : List Swap

abbrev pub first_kept : World → Kept
first_kept w = record { seen = first_seen w; swaps = [] }

-- a point: the classes whose marks are others now are swapped
abbrev pub at_point : Program → ℕ → Kept → Seen → Kept
at_point p clock k now = record { seen = now; swaps = k.swaps ++ swapped_now p clock (methods_revealed now) (changed_classes p k.seen now) }

-- behind a load there is one where classes were loaded
abbrev pub kept_load : Program → ℕ → Kept → List ℕ → Kept
kept_load p clock k [] = k
kept_load p clock k (class ∷ more) = at_point p clock k (seen_load k.seen (class ∷ more))

-- behind an event where it opens a path
abbrev pub kept_event : Program → Kept → Event → Kept
kept_event p k e =
    if opens k.seen.open e.kind then at_point p e.clock k (seen_event k.seen e) else record k { seen = seen_event k.seen e }

-- nothing is selected and no path is open
abbrev pub is_idle : Seen → Bool
is_idle s = is_empty s.selected && not (is_inside s.open)

-- at the end of a step where entered is emptied
abbrev pub kept_end : Program → ℕ → Kept → Kept
kept_end p clock k = if is_idle k.seen then at_point p clock k (record k.seen { entered = [] }) else k

-- behind an action
abbrev pub kept_act : Program → Kept → Act → Kept
kept_act p k act = at_point p act.moment k (seen_act k.seen act)

abbrev pub kept_acts : Program → Kept → List Act → Kept
kept_acts p k acts = fold (kept_act p) k acts

-- behind all that a step tells
abbrev pub kept_told : Program → ℕ → Kept → List ℕ → List Event → Kept
kept_told p clock k classes events = fold (kept_event p) (kept_load p clock k classes) events

-- a step with these classes and events, and the actions behind it
abbrev pub kept_step : Program → ℕ → Kept → List ℕ → List Event → List Act → Kept
kept_step p clock k classes events acts = kept_acts p (kept_end p clock (kept_told p clock k classes events)) acts

-- before a step, under a marking
unfoldable pub kept_by : List Act → World → Marking → ℕ → Kept
kept_by acts w marking zero = kept_acts w.program (first_kept w) (acts_at 0 acts)
kept_by acts w marking (suc n) =
    kept_step w.program n (kept_by acts w marking n) (loads_of (turn w n).changes) (step_events marking w n) (acts_behind n acts)

pub kept_by-zero : (acts : List Act) (w : World) (marking : Marking) → kept_by acts w marking 0 ≡ kept_acts w.program (first_kept w) (acts_at 0 acts)
unfolding kept_by
kept_by-zero acts w marking = refl

pub kept_by-suc : (acts : List Act) (w : World) (marking : Marking) (n : ℕ)
    → kept_by acts w marking (suc n) ≡ kept_step w.program n (kept_by acts w marking n) (loads_of (turn w n).changes) (step_events marking w n) (acts_behind n acts)
unfolding kept_by
kept_by-suc acts w marking n = refl

-- what a session keeps before a step
abbrev pub kept_before : List Act → World → ℕ → Kept
kept_before acts w n = kept_by acts w (marking_of acts w) n

-- and behind all that the step tells
abbrev pub kept_behind : List Act → World → ℕ → Kept
kept_behind acts w n = kept_told w.program n (kept_before acts w n) (loads_of (turn w n).changes) (step_events (marking_of acts w) w n)
