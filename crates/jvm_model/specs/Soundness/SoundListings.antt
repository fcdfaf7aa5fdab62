-- States of a run over any listing in which all that there is is of classes that are loaded (JVM Specification 5.3,
-- 5.4, 5.5).
use Rattle.std.specs.Prelude.{◌≡◌, ℕ, List, Some, None}
use Rattle.std.specs.List.{AllByRecursion}
use Rattle.jvm_model.specs.Basis.Data.{Entry, Active, Initializing, Instruction, Program, State, Listing}
use Rattle.jvm_model.specs.Running.Run.{main_class}
use Rattle.jvm_model.specs.Soundness.Sound.{CanAttempt, HasClass, IsLoaded, IsSoundShared}

-- `Runs` tells which versions a frame of a method can be in
abbrev pub IsSoundEntry : (ℕ → ℕ → Type 0) → Program → List ℕ → Entry → Type 0
IsSoundEntry Runs p loaded (Active f) = HasClass p loaded f.method × Runs f.version f.method
IsSoundEntry Runs p loaded (Initializing class part) = IsLoaded loaded class

-- Where loading the main class was refused the run has ended.
pub record IsSound (Runs : ℕ → ℕ → Type 0) (p : Program) (s : State) : Type 0 where
  pub shared : IsSoundShared p s.shared
  pub stack : AllByRecursion (IsSoundEntry Runs p s.shared.loaded) s.stack
  pub main : s.ending ≡ None → IsLoaded s.shared.loaded (main_class p)

-- What is asked of a listing: a method begins in a version of its own, and what stands in a version of a method can be
-- attempted where the method's class is loaded.
pub record IsSoundListing (Runs : ℕ → ℕ → Type 0) (p : Program) (t : Listing) : Type 0 where
  pub begins : (method : ℕ) → Runs (t.current method) method
  pub attempts : (loaded : List ℕ) (version method place : ℕ) (i : Instruction) → Runs version method → HasClass p loaded method
      → t.at version place ≡ Some i → CanAttempt p loaded i.operation

-- in original code the version of a method is the method
abbrev pub RunsOriginal : ℕ → ℕ → Type 0
RunsOriginal version method = version ≡ method
