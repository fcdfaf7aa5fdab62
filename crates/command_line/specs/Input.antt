-- The input of a run: all that a source has left.
use Rattle.std.specs.Prelude.{◌≡◌, ◌<◌, ◌≤◌, ◌+◌, ℕ, List, length, Option, Result, Ok, Err, IfErr, IfSome, OnOk}
use Rattle.std.specs.Io.KnownBytes.{Consumes, IsAtEnd}
use Rattle.byte_streams.specs.Streams.{Rose}
use Rattle.command_line.specs.declared.input.InputError.{InputError}
use Rattle.command_line.specs.declared.input.InputError.TheVariants.{Failed, TooLong, NoMemory}

-- so many bytes input may have
abbrev pub most_input : ℕ
most_input = 16777216

-- and so many are taken at most: one more than that tells of too many
abbrev pub most_taken : ℕ
most_taken = most_input + 1

-- what is answered, by the bytes that the source had left, where it tells them
abbrev pub IsInput : Option (List ℕ) → Result (List ℕ) InputError → Type 0
IsInput left (Ok bytes) = (length bytes ≤ most_input) × IfSome left (λ all. bytes ≡ all)
IsInput left (Err TooLong) = IfSome left (λ all. most_input < length all)
IsInput left (Err Failed) = Unit {0}
IsInput left (Err NoMemory) = Unit {0}

-- One byte more than the limit was taken.
pub record TakesOneMore (old new : Option (List ℕ)) : Type 0 where
  pub bytes : List ℕ
  pub count : length bytes ≡ most_input + 1
  pub taken : Consumes old new bytes

-- What the source has left is what it had behind so many bytes at most.
pub record TakesAtMost (most : ℕ) (old new : Option (List ℕ)) : Type 0 where
  pub bytes : List ℕ
  pub few : length bytes ≤ most
  pub taken : Consumes old new bytes

-- how far the source was taken, by what it had left and has: to its end, to one byte more than the
-- limit, to a take that failed, or to what no memory was left for
abbrev pub TakesInput : Option (List ℕ) → Option (List ℕ) → Result (List ℕ) InputError → Type 0
TakesInput old new (Ok bytes) = Consumes old new bytes × IsAtEnd new
TakesInput old new (Err TooLong) = TakesOneMore old new
TakesInput old new (Err Failed) = TakesAtMost most_input old new
TakesInput old new (Err NoMemory) = TakesAtMost most_taken old new

-- only a failed take raises the count of faults
abbrev pub InputErrorCause : ℕ → ℕ → InputError → Type 0
InputErrorCause old new Failed = Rose old new
InputErrorCause old new TooLong = new ≡ old
InputErrorCause old new NoMemory = new ≡ old

-- the count of faults never falls, an `Ok` leaves it, and each error has its cause
pub record InputCause (old new : ℕ) (result : Result (List ℕ) InputError) : Type 0 where
  pub later : old ≤ new
  pub ok : OnOk result (new ≡ old)
  pub err : IfErr result (InputErrorCause old new)
