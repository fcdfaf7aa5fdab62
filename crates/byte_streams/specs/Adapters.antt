-- What the sources, sinks and files of the runtime keep, and what they do to a reader or a writer that knows its bytes.
use Rattle.std.specs.Prelude.{◌≡◌, ◌+◌, ◌≤◌, ℕ, Bool, List, length, take, Option, IfSome}
use Rattle.std.specs.Io.KnownBytes.{Appends, Consumes}

-- a reader or a writer, and the faults so far
pub record Counted (T : Type 0) : Type 0 where
  pub inner : T
  pub faults : ℕ

-- the first n of the bytes were the first that the reader had left
abbrev pub ReadsFirst : Option (List ℕ) → Option (List ℕ) → List ℕ → ℕ → Type 0
ReadsFirst old new bytes n = Consumes old new (take n bytes)

-- the bytes are all that the reader had left, or the first most + 1 of them
abbrev pub ReadsUpTo : Option (List ℕ) → ℕ → List ℕ → Type 0
ReadsUpTo left most bytes = IfSome left (λ all. bytes ≡ take (most + 1) all)

-- the writer got the first n of the bytes
abbrev pub WritesFirst : Option (List ℕ) → Option (List ℕ) → List ℕ → ℕ → Type 0
WritesFirst old new bytes n = Appends old new (take n bytes)

-- the writer got some of the bytes, from the first on
abbrev pub WritesPrefix : Option (List ℕ) → Option (List ℕ) → List ℕ → Type 0
WritesPrefix old new bytes = (n : ℕ) × (n ≤ length bytes) × WritesFirst old new bytes n

-- the faults so far, and the name of the last fetch that failed
pub record DiskView : Type 0 where
  pub faults : ℕ
  pub last_failed : List ℕ

-- the name of a file, whether it was made, and the faults so far
pub record LateView : Type 0 where
  pub name : List ℕ
  pub is_made : Bool
  pub faults : ℕ
