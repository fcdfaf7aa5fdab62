-- Points: the moments of a profiled run at which marks are computed, and the marks there. What stands at them follows
-- from the actions, from the changes of each step, and from which activations are profiled; it knows nothing of
-- versions, probes and events.
use Rattle.std.specs.Prelude.{◌≡◌, refl, ℕ, zero, suc, Bool, true, false, not, List, [], ◌∷◌, ◌++◌, filter, slice_get, ◌==◌, ◌&&◌, if◌then◌else◌}
use Rattle.std.specs.List.{list_any}
use Rattle.std.specs.Option.{option_map_or}
use Rattle.jvm_model.specs.declared.event.Act.{Act}
use Rattle.jvm_model.specs.declared.event.Mark.{Mark}
use Rattle.jvm_model.specs.declared.event.Mark.TheVariants.{Off, Plain, Root}
use Rattle.jvm_model.specs.Basis.Data.{MethodPlace, Program, Change, Loads, Began, Left, Unwound, Local, Operation, Listing, World}
use Rattle.jvm_model.specs.Profiling.Activations.{Activation, Trace, no_trace, current, trace_changed}
use Rattle.jvm_model.specs.Profiling.EventLists.{Marking}
use Rattle.jvm_model.specs.Classes.Load.{is_among}
use Rattle.jvm_model.specs.Codes.Originals.{original}
use Rattle.jvm_model.specs.Profiling.Paths.{is_inside}
use Rattle.jvm_model.specs.Basis.Programs.{place_of_method}
use Rattle.jvm_model.specs.Profiling.Projection.{is_root, path_at}
use Rattle.jvm_model.specs.Running.Run.{before, turn_in}
use Rattle.jvm_model.specs.Profiling.Targets.{operations_of, targets_in}

-- What stands at a moment: the selected methods, the entered ones, the loaded classes, and the activations so far.
pub record Standing : Type 0 where
  pub selected : List ℕ
  pub entered : List ℕ
  pub loaded : List ℕ
  pub trace : Trace

-- before the actions of moment 0: the built-in classes are loaded
abbrev pub nothing : World → Standing
nothing w = record { selected = []; entered = []; loaded = (before w).shared.loaded; trace = no_trace }

-- ---- quiet points

-- an activation of this list is a root
abbrev pub has_root : List Act → List Activation → List ℕ → Bool
has_root acts activations live = list_any (λ number. option_map_or (is_root acts) (slice_get activations number) false) live

abbrev pub is_empty : List ℕ → Bool
is_empty [] = true
is_empty (x ∷ xs) = false

-- nothing is selected and no root activation is live
abbrev pub is_quiet : List Act → Standing → Bool
is_quiet acts s = is_empty s.selected && not (has_root acts s.trace.activations s.trace.live)

-- At the end of a step, and behind an action, entered is emptied where it is quiet.
abbrev pub standing_settled : List Act → Standing → Standing
standing_settled acts s = if is_quiet acts s then record s { entered = [] } else s

-- ---- actions

abbrev pub methods_selected : Act → List ℕ → List ℕ
methods_selected act selected =
    let others = filter (λ m. not (m == act.method)) selected in
    if act.select then act.method ∷ others else others

abbrev pub after_act : List Act → Standing → Act → Standing
after_act acts s act = standing_settled acts (record s { selected = methods_selected act s.selected })

abbrev pub after_acts : List Act → Standing → List Act → Standing
after_acts acts s [] = s
after_acts acts s (act ∷ more) = after_acts acts (after_act acts s act) more

-- the actions of a moment
abbrev pub acts_at : ℕ → List Act → List Act
acts_at moment acts = filter (λ (act : Act). act.moment == moment) acts

-- the actions behind a step: those of moment 0 came before the start
abbrev pub acts_behind : ℕ → List Act → List Act
acts_behind zero acts = []
acts_behind (suc n) acts = acts_at (suc n) acts

-- ---- changes

-- the current activation is profiled: a root is among it and those that it was invoked by
abbrev pub is_profiled : List Act → Trace → Bool
is_profiled acts t = is_inside (path_at acts t.activations (current t.live))

abbrev pub with_entered : ℕ → List ℕ → List ℕ
with_entered method entered = if is_among method entered then entered else method ∷ entered

-- the method of an activation that has begun is entered where that is profiled
abbrev pub entered_by : List Act → Trace → ℕ → List ℕ → List ℕ
entered_by acts t method entered = if is_profiled acts t then with_entered method entered else entered

abbrev pub after_change : List Act → ℕ → Standing → Change → Standing
after_change acts step s (Loads classes) = record s { loaded = s.loaded ++ classes }
after_change acts step s (Began method) =
    let t = trace_changed step s.trace (Began method) in record s { entered = entered_by acts t method s.entered; trace = t }
after_change acts step s Left = record s { trace = trace_changed step s.trace Left }
after_change acts step s Unwound = record s { trace = trace_changed step s.trace Unwound }

abbrev pub after_changes : List Act → ℕ → Standing → List Change → Standing
after_changes acts step s [] = s
after_changes acts step s (c ∷ more) = after_changes acts step (after_change acts step s c) more

-- a step's changes, its end, and the actions behind it
abbrev pub after_step : List Act → ℕ → Standing → List Change → Standing
after_step acts step s changes = after_acts acts (standing_settled acts (after_changes acts step s changes)) (acts_behind step acts)

-- what stands before a step over a listing: the start is step 0
unfoldable pub standing_in : List Act → World → Listing → ℕ → Standing
standing_in acts w t zero = after_acts acts (nothing w) (acts_at 0 acts)
standing_in acts w t (suc n) = after_step acts n (standing_in acts w t n) (turn_in w t n).changes

pub standing_in-zero : (acts : List Act) (w : World) (t : Listing) → standing_in acts w t 0 ≡ after_acts acts (nothing w) (acts_at 0 acts)
unfolding standing_in
standing_in-zero acts w t = refl

pub standing_in-suc : (acts : List Act) (w : World) (t : Listing) (n : ℕ)
    → standing_in acts w t (suc n) ≡ after_step acts n (standing_in acts w t n) (turn_in w t n).changes
unfolding standing_in
standing_in-suc acts w t n = refl

-- ---- marks

-- the class of the method is loaded
abbrev pub has_class : Program → List ℕ → ℕ → Bool
has_class p loaded method = option_map_or (λ (place : MethodPlace). is_among place.class loaded) (place_of_method p method) false

-- the method is a target of an entered one
abbrev pub is_target : Program → (ℕ → List (Operation Local)) → List ℕ → List ℕ → ℕ → Bool
is_target p code loaded entered method = list_any (λ caller. is_among method (targets_in p loaded (code caller))) entered

abbrev pub mark_in : Program → (ℕ → List (Operation Local)) → Standing → ℕ → Mark
mark_in p code s method =
    if has_class p s.loaded method then
    (if is_among method s.selected then Root else if is_target p code s.loaded s.entered method then Plain else Off)
    else Off

-- What stands where an activation begins in a step. An end is no point and changes no mark, and an activation begins
-- behind all else: so these are the marks of the last point before it.
abbrev pub before_begin : List Act → ℕ → Standing → List Change → Standing
before_begin acts step s [] = s
before_begin acts step s (Began method ∷ more) = s
before_begin acts step s (Loads classes ∷ more) = before_begin acts step (after_change acts step s (Loads classes)) more
before_begin acts step s (Left ∷ more) = before_begin acts step (after_change acts step s Left) more
before_begin acts step s (Unwound ∷ more) = before_begin acts step (after_change acts step s Unwound) more

-- the mark that a method has at the last point before an activation begins in a step
abbrev pub marking_in : List Act → World → Listing → (ℕ → List (Operation Local)) → Marking
marking_in acts w t code step method =
    mark_in w.program code (before_begin acts step (standing_in acts w t step) (turn_in w t step).changes) method

abbrev pub marking_of : List Act → World → Marking
marking_of acts w = marking_in acts w (original w.program) (operations_of w.program)
