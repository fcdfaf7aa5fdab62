-- How many paths are open.
use Rattle.std.proofs.Common.{◌≡◌, ℕ, ◌+◌, ◌-◌, ◌≤◌, Bool, true, false, List, [], ◌∷◌, ◌++◌, length, if◌then◌else◌, refl, arith}
use Rattle.jvm_model.specs.declared.event.Event.{Event}
use Rattle.jvm_model.specs.declared.event.EventKind.{EventKind}
use Rattle.jvm_model.specs.declared.event.EventKind.TheVariants.{Root, Enter, Leave, Unwind}
use Rattle.jvm_model.specs.Profiling.EventLists.{entries_by}
use Rattle.jvm_model.specs.Profiling.Paths.{is_outside}
use Rattle.context_tree.specs.Counts.{path_after, path_by}
use Rattle.context_tree.specs.Profiles.{parent_path}

pub parent_length : (path : List ℕ) → length (parent_path path) ≡ length path - 1
parent_length [] = refl
parent_length (m ∷ []) = refl
parent_length (m ∷ n ∷ rest) = let up = parent_length (n ∷ rest) in omega (arith, up)

one-more : (path : List ℕ) (method : ℕ) → length (path ++ method ∷ []) ≡ length path + 1
one-more [] method = refl
one-more (m ∷ path) method = let rest = one-more path method in omega (arith, rest)

-- an event opens one path at most
pub path-entry : (path : List ℕ) (e : Event) → length (path_after path e) ≤ length path + entries_by e.kind
path-entry path e = by e.kind where
  either : (b : Bool) → length (if b then path else path ++ e.method ∷ []) ≤ length path + 1
  either true = omega arith
  either false = let more = one-more path e.method in omega (arith, more)

  by : (k : EventKind) → length (path_by k e.method path) ≤ length path + entries_by k
  by Root = let more = one-more path e.method in omega (arith, more)
  by Enter = either (is_outside path)
  by Leave = let up = parent_length path in omega (arith, up)
  by Unwind = let up = parent_length path in omega (arith, up)
