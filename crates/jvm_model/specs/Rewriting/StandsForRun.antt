-- How a machine whose methods have several versions stands for the run of the original code. In between is the original
-- code with a number of a version written into each frame, which does nothing. So two frames of one method may run
-- different versions, and the version that a method begins in may change from step to step.
use Rattle.std.specs.Prelude.{◌≡◌, ℕ, List, [], ◌∷◌}
use Rattle.jvm_model.specs.Basis.Data.{Entry, Active, Initializing, State, Listing}
use Rattle.jvm_model.specs.Codes.Moved.{Moving, state_moved, IsMovedListing, IsPlaced, at_homes}

-- the original code under versions: the method that each version is of, and the version that a method begins in
abbrev pub listing_named : (ℕ → ℕ) → (ℕ → ℕ) → Listing → Listing
listing_named method_of current t = record {
  current = current;
  first = λ v. t.first (method_of v);
  at = λ v. t.at (method_of v);
  handlers = λ v. t.handlers (method_of v);
}

-- each frame in its method again
abbrev pub versions_forgotten : (ℕ → ℕ) → Moving
versions_forgotten method_of = record { version = method_of; home = λ v place. place }

-- the places of a version, by the offsets of its method
abbrev pub norm_by : (ℕ → ℕ) → (ℕ → ℕ → ℕ) → ℕ → ℕ → ℕ
norm_by method_of norm v = norm (method_of v)

-- Both states are one state with versions: the first with each frame at its home, the second without versions.
pub record StandsFor (norm : ℕ → ℕ → ℕ) (method_of : ℕ → ℕ) (homes : ℕ → ℕ → ℕ) (versioned original : State) : Type 0 where
  pub between : State
  pub versioned_is : versioned ≡ state_moved (at_homes homes) between
  pub original_is : original ≡ state_moved (versions_forgotten method_of) between
  pub at_places : IsPlaced (norm_by method_of norm) between

-- A listing of versions, each laid out by homes from the code of its method.
pub record IsOfVersions (norm : ℕ → ℕ → ℕ) (method_of current : ℕ → ℕ) (homes : ℕ → ℕ → ℕ) (t u : Listing) : Type 0 where
  pub begins : (k : ℕ) → t.current k ≡ method_of (current k)
  pub agrees : IsMovedListing (norm_by method_of norm) (at_homes homes) (listing_named method_of current t) u

-- the versions of the frames are of the same methods, with the same homes
abbrev pub KeepVersions : (old new : ℕ → ℕ) → (olds news : ℕ → ℕ → ℕ) → List Entry → Type 0
KeepVersions old new olds news [] = Unit {0}
KeepVersions old new olds news (Active f ∷ below) = (new f.version ≡ old f.version) × (news f.version ≡ olds f.version) × KeepVersions old new olds news below
KeepVersions old new olds news (Initializing c part ∷ below) = KeepVersions old new olds news below
