-- Markings under which the events of a run tell its projection: a root's version tells a root, and no other's does; and
-- whatever is profiled is told.
use Rattle.std.specs.Prelude.{◌≡◌, ◌≢◌, ℕ, Bool, true, List, [], ◌∷◌, Some, slice_get}
use Rattle.jvm_model.specs.declared.event.Act.{Act}
use Rattle.jvm_model.specs.declared.event.Mark.{Mark}
use Rattle.jvm_model.specs.declared.event.Mark.TheVariants.{Off, Root}
use Rattle.jvm_model.specs.Profiling.Activations.{Activation, Trace, trace_changed}
use Rattle.jvm_model.specs.Basis.Data.{Change}
use Rattle.jvm_model.specs.Profiling.EventLists.{Marking}
use Rattle.jvm_model.specs.Profiling.Paths.{is_inside}
use Rattle.jvm_model.specs.Profiling.Projection.{is_root, path_at}

-- the mark of the version in which an activation began, where it is a root or not, and has this path
pub record Suits (root : Bool) (path : List ℕ) (mark : Mark) : Type 0 where
  pub roots : root ≡ true → mark ≡ Root
  pub only : mark ≡ Root → root ≡ true
  pub inside : is_inside path ≡ true → mark ≢ Off

-- each activation has begun in such a version
abbrev pub AreSuited : List Act → Marking → List Activation → Type 0
AreSuited acts marking activations = (number : ℕ) (a : Activation) → slice_get activations number ≡ Some a
    → Suits (is_root acts a) (path_at acts activations (Some number)) (marking a.begin a.method)

-- behind each of these changes of a step
abbrev pub StaySuited : List Act → Marking → ℕ → Trace → List Change → Type 0
StaySuited acts marking step t [] = AreSuited acts marking t.activations
StaySuited acts marking step t (c ∷ more) = AreSuited acts marking t.activations × StaySuited acts marking step (trace_changed step t c) more
