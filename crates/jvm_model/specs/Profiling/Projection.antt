-- The projection: a run's activations and steps, counted below the activations of selected methods. It knows nothing of
-- versions, probes and events.
use Rattle.std.specs.Prelude.{◌≡◌, refl, ℕ, zero, suc, ◌-◌, Bool, false, List, [], ◌∷◌, ◌++◌, map, fold, Option, None, is_some, nat_le, unwrap_or, slice_get, ◌==◌, ◌&&◌, if◌then◌else◌}
use Rattle.std.specs.Option.{option_and_then}
use Rattle.jvm_model.specs.declared.event.Act.{Act}
use Rattle.jvm_model.specs.Basis.Data.{World}
use Rattle.jvm_model.specs.Running.Run.{run}
use Rattle.jvm_model.specs.Profiling.Paths.{Context, contexts_of}
use Rattle.jvm_model.specs.Profiling.Activations.{Activation, current, trace}

-- ---- selections

-- what one action makes of a method's selection, where it came before step k; those of moment 0 come before the start
abbrev pub selection_acted : ℕ → ℕ → Bool → Act → Bool
selection_acted k method now act = if act.method == method && nat_le act.moment (k - 1) then act.select else now

-- whether the method is selected in step k, after all actions before it, in order
abbrev pub is_selected : List Act → ℕ → ℕ → Bool
is_selected acts k method = fold (selection_acted k method) false acts

-- a root activation is one whose method is selected when it begins
abbrev pub is_root : List Act → Activation → Bool
is_root acts a = is_selected acts a.begin a.method

-- ---- paths

-- the activations from the outermost ancestor down to this one, where the chains of those before it are known
abbrev pub chain_of : List (List Activation) → Activation → List Activation
chain_of chains a = unwrap_or (option_and_then (slice_get chains) a.parent) [] ++ a ∷ []

abbrev pub chains_after : List (List Activation) → List Activation → List (List Activation)
chains_after chains [] = chains
chains_after chains (a ∷ rest) = chains_after (chains ++ chain_of chains a ∷ []) rest

-- the chain of each activation
abbrev pub chains_of : List Activation → List (List Activation)
chains_of activations = chains_after [] activations

-- from the first root on
abbrev pub from_root : List Act → List Activation → List Activation
from_root acts [] = []
from_root acts (a ∷ rest) = if is_root acts a then a ∷ rest else from_root acts rest

-- the methods from the outermost root ancestor, or the activation itself, down to it; none where there is no root
abbrev pub path_of : List Act → List Activation → List ℕ
path_of acts chain = map (λ (a : Activation). a.method) (from_root acts chain)

-- the path of each activation, in order of begin
abbrev pub paths_of : List Act → List Activation → List (List ℕ)
paths_of acts activations = map (path_of acts) (chains_of activations)

-- the path of the activation with this number
abbrev pub path_at : List Act → List Activation → Option ℕ → List ℕ
path_at acts activations number = unwrap_or (option_and_then (slice_get (paths_of acts activations)) number) []

-- ---- steps

-- The activation whose instruction a step attempted: the current one before it, if the run had not ended by then.
abbrev pub who : World → ℕ → Option ℕ
who w zero = None
who w (suc n) = if is_some (run w n).ending then None else current (trace w n).live

-- the path in which each step from 1 on was made
unfoldable pub paths_made : List Act → World → ℕ → List (List ℕ)
paths_made acts w zero = []
paths_made acts w (suc n) = paths_made acts w n ++ path_at acts (trace w (suc n)).activations (who w (suc n)) ∷ []

pub paths_made-zero : (acts : List Act) (w : World) → paths_made acts w 0 ≡ []
unfolding paths_made
paths_made-zero acts w = refl

pub paths_made-suc : (acts : List Act) (w : World) (n : ℕ)
    → paths_made acts w (suc n) ≡ paths_made acts w n ++ path_at acts (trace w (suc n)).activations (who w (suc n)) ∷ []
unfolding paths_made
paths_made-suc acts w n = refl

-- ---- the tree

-- The contexts after so many steps, in order of first begin: for each path the profiled activations that began with it,
-- and the steps that they made.
abbrev pub projection : List Act → World → ℕ → List Context
projection acts w n = contexts_of (paths_of acts (trace w n).activations) (paths_made acts w n)
