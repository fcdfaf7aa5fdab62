-- The same contexts, counted from the whole list of events at once: which paths they open, and which path was the open
-- one in each step.
use Rattle.std.specs.Prelude.{ℕ, ◌-◌, ◌≤◌, Bool, true, false, List, [], ◌∷◌, ◌++◌, replicate, if◌then◌else◌}
use Rattle.jvm_model.specs.declared.event.Event.{Event}
use Rattle.jvm_model.specs.declared.event.EventKind.{EventKind}
use Rattle.jvm_model.specs.declared.event.EventKind.TheVariants.{Root, Enter, Leave, Unwind}
use Rattle.jvm_model.specs.Profiling.Paths.{Context, is_outside, is_inside, contexts_of}
use Rattle.context_tree.specs.Profiles.{parent_path}

-- the open path after an event
abbrev pub path_by : EventKind → ℕ → List ℕ → List ℕ
path_by Root method path = path ++ method ∷ []
path_by Enter method path = if is_outside path then path else path ++ method ∷ []
path_by Leave method path = parent_path path
path_by Unwind method path = parent_path path

abbrev pub path_after : List ℕ → Event → List ℕ
path_after path e = path_by e.kind e.method path

-- whether an event opens an entry
abbrev pub opens : List ℕ → EventKind → Bool
opens path Root = true
opens path Enter = is_inside path
opens path Leave = false
opens path Unwind = false

-- the paths that events open, one after another, from this open path on
abbrev pub paths_opened : List ℕ → List Event → List (List ℕ)
paths_opened path [] = []
paths_opened path (e ∷ events) =
    if opens path e.kind then path_after path e ∷ paths_opened (path_after path e) events else paths_opened (path_after path e) events

-- the open path of each step behind this clock, up to the last one
abbrev pub paths_stepped : List ℕ → ℕ → List Event → ℕ → List (List ℕ)
paths_stepped path clock [] last = replicate (last - clock) path
paths_stepped path clock (e ∷ events) last = replicate (e.clock - clock) path ++ paths_stepped (path_after path e) e.clock events last

-- the contexts of a list of events up to a clock
abbrev pub contexts_counted : List Event → ℕ → List Context
contexts_counted events last = contexts_of (paths_opened [] events) (paths_stepped [] 0 events last)

-- clocks do not fall
abbrev pub AreInOrder : ℕ → List Event → ℕ → Type 0
AreInOrder clock [] last = clock ≤ last
AreInOrder clock (e ∷ events) last = (clock ≤ e.clock) × AreInOrder e.clock events last
