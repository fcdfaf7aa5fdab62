-- The tree of a list of events with all that a small class can not show: a root within itself, and activations that an
-- exception ends. Its counts are taken by hand.
use Rattle.std.proofs.Common.{◌≡◌, ℕ, List, [], ◌∷◌, Some, None, refl, map}
use Rattle.std.specs.Prelude.{Option}
use Rattle.jvm_model.specs.declared.event.Event.{Event}
use Rattle.jvm_model.specs.declared.event.EventKind.{EventKind}
use Rattle.jvm_model.specs.declared.event.EventKind.TheVariants.{Root, Enter, Leave, Unwind}
use Rattle.context_tree.specs.declared.node.Node.{Node}
use Rattle.context_tree.specs.Profiles.{Profile, steps_credited, profile_of, nodes_of, child_at, totals_of}

abbrev event : EventKind → ℕ → ℕ → Event
event kind method clock = record { kind = kind; method = method; clock = clock }

abbrev events : List Event
events =
    event Root 0 0 ∷ event Enter 4 1 ∷ event Leave 4 2 ∷ event Root 0 3 ∷ event Enter 4 4 ∷ event Leave 4 7 ∷ event Leave 0 8
    ∷ event Enter 4 9 ∷ event Enter 3 10 ∷ event Unwind 3 14 ∷ event Unwind 4 15 ∷ event Leave 0 16
    ∷ event Enter 1 17 ∷ event Unwind 1 18 ∷ event Root 7 20 ∷ []

-- with the steps up to 22
abbrev tree : Profile
tree = steps_credited 22 (profile_of events)

abbrev node : ℕ → Option ℕ → ℕ → ℕ → Node
node method parent calls own = record { method = method; parent = parent; calls = calls; own = own }

-- contexts stand in order of first begin
nodes : nodes_of tree
    ≡ node 0 None 1 4 ∷ node 4 (Some 0) 2 3 ∷ node 0 (Some 0) 1 2 ∷ node 4 (Some 2) 1 3 ∷ node 3 (Some 1) 1 4 ∷ node 7 None 1 2 ∷ []
nodes = refl

outermost : map (λ place. child_at None place tree.contexts) (0 ∷ 1 ∷ 2 ∷ []) ≡ Some 0 ∷ Some 5 ∷ None ∷ []
outermost = refl

totals : totals_of tree ≡ 16 ∷ 7 ∷ 5 ∷ 3 ∷ 4 ∷ 2 ∷ []
totals = refl
