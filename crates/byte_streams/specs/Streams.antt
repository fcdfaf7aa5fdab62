-- What sources, sinks and files do to what they tell and to their count of faults.
use Rattle.std.specs.Prelude.{◌≡◌, ◌+◌, ◌-◌, ◌^◌, ◌≤◌, ℕ, min, List, length, take, Option, Some, None, Result, Ok, Err, OnOk, OnErr, IfErr, IfSome, IsSomeAnd, option_map, bytes_eq, find}
use Rattle.std.specs.Io.KnownBytes.{append_known, prepend_known}
use Rattle.byte_streams.specs.declared.error.FetchError.{FetchError}
use Rattle.byte_streams.specs.declared.error.FetchError.TheVariants.{Failed, NoMemory}

-- the greatest u64, at which a count of faults stays
abbrev pub greatest : ℕ
greatest = 2 ^ 64 - 1

-- the count rose, or it stands at the greatest u64
abbrev pub Rose : ℕ → ℕ → Type 0
Rose old new = min (old + 1) greatest ≤ new

-- the count never falls, an `Ok` leaves it, and a failure comes only where it rose
pub record HasCause {A E : Type 0} (old new : ℕ) (result : Result A E) : Type 0 where
  pub later : old ≤ new
  pub ok : OnOk result (new ≡ old)
  pub failed : OnErr result (Rose old new)

-- the first n of the bytes were the first that the source had left
abbrev pub TakesPrefix : Option (List ℕ) → Option (List ℕ) → List ℕ → ℕ → Type 0
TakesPrefix old new bytes n = old ≡ prepend_known (take n bytes) new

-- the sink took all of the bytes
abbrev pub PutsAll : Option (List ℕ) → Option (List ℕ) → List ℕ → Type 0
PutsAll old new bytes = new ≡ append_known old bytes

-- the sink took the first n of the bytes
abbrev pub PutsPrefix : Option (List ℕ) → Option (List ℕ) → List ℕ → Type 0
PutsPrefix old new bytes = (n : ℕ) × (n ≤ length bytes) × (new ≡ append_known old (take n bytes))

-- the names of files with their contents
abbrev pub Told : Type 0
Told = List (List ℕ × List ℕ)

-- the contents of the first file of that name
abbrev pub contents_at : Told → List ℕ → Option (List ℕ)
contents_at files name = option_map (λ file. file.1) (find (λ file. bytes_eq file.0 name) files)

-- these contents, or of longer ones the first most + 1 bytes
abbrev pub front_at : Told → List ℕ → ℕ → Option (List ℕ)
front_at files name most = option_map (take (most + 1)) (contents_at files name)

-- the bytes are those of the file, or the first most + 1 of them, where the files tell their contents
abbrev pub IsFetched : Option Told → List ℕ → ℕ → List ℕ → Type 0
IsFetched told name most bytes = IfSome told (λ files. front_at files name most ≡ Some bytes)

-- the files tell their contents, and have none of that name
abbrev pub IsAbsent : Option Told → List ℕ → Type 0
IsAbsent told name = IsSomeAnd told (λ files. contents_at files name ≡ None)

-- the bytes are all of the file, where the files tell their contents
abbrev pub IsToldAs : Option Told → List ℕ → List ℕ → Type 0
IsToldAs told name bytes = IfSome told (λ files. contents_at files name ≡ Some bytes)

-- the file is there and its contents have this, where the files tell their contents
abbrev pub HasTold : Option Told → List ℕ → (List ℕ → Type 0) → Type 0
HasTold told name P = IfSome told (λ files. IsSomeAnd (contents_at files name) P)

-- a fault comes only where the count rose, and want of memory leaves it
abbrev pub ErrorCause : ℕ → ℕ → FetchError → Type 0
ErrorCause old new Failed = Rose old new
ErrorCause old new NoMemory = new ≡ old

-- the count never falls, an `Ok` leaves it, and each error has its cause
pub record FetchCause {A : Type 0} (old new : ℕ) (result : Result A FetchError) : Type 0 where
  pub later : old ≤ new
  pub ok : OnOk result (new ≡ old)
  pub err : IfErr result (ErrorCause old new)

-- the name of the last fetch that failed, after a fetch of a name
abbrev pub failed_name : {A : Type 0} → List ℕ → List ℕ → Result A FetchError → List ℕ
failed_name old name (Ok bytes) = old
failed_name old name (Err NoMemory) = old
failed_name old name (Err Failed) = name

-- a fetch that failed left its name, and another left the old one
abbrev pub NamesLast : {A : Type 0} → List ℕ → List ℕ → List ℕ → Result A FetchError → Type 0
NamesLast old new name result = new ≡ failed_name old name result
