-- The contexts counted from written-out events: those of the worked run, the steps in hand at an earlier end, and a
-- root within itself.
use Rattle.std.specs.Prelude.{◌≡◌, ℕ, List, [], ◌∷◌, take, refl}
use Rattle.jvm_model.specs.declared.event.Event.{Event}
use Rattle.jvm_model.specs.declared.event.EventKind.{EventKind}
use Rattle.jvm_model.specs.declared.event.EventKind.TheVariants.{Root, Enter, Leave, Unwind}
use Rattle.jvm_model.specs.Profiling.Paths.{Context}
use Rattle.context_tree.specs.Counts.{contexts_counted}

abbrev event : EventKind → ℕ → ℕ → Event
event kind method clock = record { kind = kind; method = method; clock = clock }

abbrev context : List ℕ → ℕ → ℕ → Context
context path calls own = record { path = path; calls = calls; own = own }

-- main is method 1 and invokes f, method 0, in the third step
abbrev f_as_root : List Event
f_as_root = event Enter 1 0 ∷ event Root 0 3 ∷ event Leave 0 7 ∷ event Leave 1 9 ∷ []

abbrev main_as_root : List Event
main_as_root = event Root 1 0 ∷ event Enter 0 3 ∷ event Leave 0 7 ∷ event Leave 1 9 ∷ []

pub f_alone : contexts_counted f_as_root 9 ≡ context (0 ∷ []) 1 4 ∷ []
f_alone = refl

pub f_in_main : contexts_counted main_as_root 9 ≡ context (1 ∷ []) 1 5 ∷ context (1 ∷ 0 ∷ []) 1 4 ∷ []
f_in_main = refl

pub f_when_called : contexts_counted (take 2 f_as_root) 3 ≡ context (0 ∷ []) 1 0 ∷ []
f_when_called = refl

-- the steps since the last event are counted too
pub f_before_its_return : contexts_counted (take 2 f_as_root) 6 ≡ context (0 ∷ []) 1 3 ∷ []
f_before_its_return = refl

-- a root that invokes itself is a path of two, and a second call of the outer one is the same path
pub root_in_itself : contexts_counted (event Root 5 0 ∷ event Root 5 2 ∷ event Unwind 5 3 ∷ event Leave 5 7 ∷ event Root 5 8 ∷ event Leave 5 9 ∷ []) 12
    ≡ context (5 ∷ []) 2 7 ∷ context (5 ∷ 5 ∷ []) 1 1 ∷ []
root_in_itself = refl
