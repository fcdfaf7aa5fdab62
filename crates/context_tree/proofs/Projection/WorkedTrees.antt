-- The trees of worked runs in which versions change: what is counted from the events of versions that have the marks of
-- the last points.
use Rattle.std.specs.Prelude.{◌≡◌, ℕ, List, [], ◌∷◌, refl}
use Rattle.std.specs.Int.{int_wrap}
use Rattle.jvm_model.specs.declared.event.Act.{Act}
use Rattle.jvm_model.specs.declared.event.EventKind.TheVariants as kind
use Rattle.jvm_model.specs.Profiling.Activations.{trace_in}
use Rattle.jvm_model.specs.Profiling.Paths.{Context}
use Rattle.jvm_model.specs.Profiling.Points.{standing_in}
use Rattle.jvm_model.specs.Running.Run.{turn_in}
use Rattle.jvm_model.proofs.Worked.WorkedInitializers.{both_set}
use Rattle.jvm_model.proofs.Worked.WorkedPoints.{deselect, event, events_by, p1, select, under_deselection}
use Rattle.jvm_model.proofs.Worked.WorkedPrograms.{Sketches, selecting}
use Rattle.jvm_model.proofs.Worked.WorkedRuns.{p3, recursive}
use Rattle.context_tree.specs.Counts.{contexts_counted}

-- the tree after so many steps, of which so many were the last to tell anything
abbrev tree_by : List Act → Sketches → ℕ → ℕ → List Context
tree_by acts s told steps = contexts_counted (events_by acts s told) steps

abbrev context : List ℕ → ℕ → ℕ → Context
context path calls own = record { path = path; calls = calls; own = own }

-- f is selected in time for its call, or too late, or while it is called
p1-in_time : tree_by (select 2 0 ∷ []) p1 7 9 ≡ context (0 ∷ []) 1 4 ∷ []
unfolding standing_in turn_in trace_in int_wrap
p1-in_time = refl

p1-late : tree_by (select 3 0 ∷ []) p1 7 9 ≡ []
unfolding standing_in turn_in trace_in int_wrap
p1-late = refl

p1-between : tree_by (select 2 0 ∷ deselect 3 0 ∷ []) p1 7 9 ≡ context (0 ∷ []) 1 4 ∷ []
unfolding standing_in turn_in trace_in int_wrap
p1-between = refl

-- r is deselected while it is live: the calls below it are profiled still
recursive-tree : tree_by under_deselection recursive 19 20 ≡ context (0 ∷ []) 1 7 ∷ context (0 ∷ 0 ∷ []) 1 7 ∷ context (0 ∷ 0 ∷ 0 ∷ []) 1 3 ∷ []
unfolding standing_in turn_in trace_in int_wrap
recursive-tree = refl

subroutine-tree : tree_by (select 0 0 ∷ deselect 5 0 ∷ []) p3 9 11 ≡ context (0 ∷ []) 1 6 ∷ []
unfolding standing_in turn_in trace_in int_wrap
subroutine-tree = refl

initializers-tree : tree_by (selecting 0) both_set 10 10 ≡ context (0 ∷ []) 1 4 ∷ context (0 ∷ 1 ∷ []) 1 3 ∷ context (0 ∷ 2 ∷ []) 1 3 ∷ []
unfolding standing_in turn_in trace_in
initializers-tree = refl

-- N.main, B's constructor, A's constructor within it, and B's v
overriding-tree : contexts_counted (
    event kind.Root 0 0 ∷ event kind.Enter 3 3 ∷ event kind.Enter 1 5 ∷ event kind.Leave 1 8 ∷ event kind.Leave 3 9
    ∷ event kind.Enter 4 10 ∷ event kind.Leave 4 12 ∷ event kind.Leave 0 14 ∷ []) 14
    ≡ context (0 ∷ []) 1 6 ∷ context (0 ∷ 3 ∷ []) 1 3 ∷ context (0 ∷ 3 ∷ 1 ∷ []) 1 3 ∷ context (0 ∷ 4 ∷ []) 1 2 ∷ []
overriding-tree = refl

-- invokespecial of a method of an array type
of_array-tree : contexts_counted (event kind.Root 1 0 ∷ event kind.Enter 0 3 ∷ event kind.Leave 0 5 ∷ event kind.Leave 1 7 ∷ []) 7
    ≡ context (1 ∷ []) 1 5 ∷ context (1 ∷ 0 ∷ []) 1 2 ∷ []
of_array-tree = refl
