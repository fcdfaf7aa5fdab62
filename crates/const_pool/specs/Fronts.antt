-- Where a text stops being the front of a whole one.
use Rattle.std.specs.Prelude.{◌≡◌, ℕ, ◌+◌, ◌<◌, ◌≤◌, ◌^◌, List, [], ◌∷◌, ◌++◌, length, take, Option, Some, None, Result, Err}
use Rattle.std.specs.Option.{ok_or}
use Rattle.std.specs.List.{AllByRecursion}

-- some units make it whole
abbrev pub IsFront : (List ℕ → Type 0) → List ℕ → Type 0
IsFront IsWhole front = (more : List ℕ) × AllByRecursion (λ unit. unit < 2 ^ 16) more × IsWhole (front ++ more)

-- What stands before the place is a front of a whole text. With the unit at the place it is none; where there is no
-- unit at the place, the text ends there, and is not whole itself.
pub record IsStuckAt (IsWhole : List ℕ → Type 0) (units : List ℕ) (place : ℕ) : Type 0 where
  pub within : place ≤ length units
  pub front : IsFront IsWhole (take place units)
  pub further : place < length units → IsFront IsWhole (take (place + 1) units) → ⊥
  pub unfinished : place ≡ length units → IsWhole units → ⊥

-- what follows a step; where there is none, its place
abbrev pub after_step : {S A : Type 0} → ℕ → Option S → (S → Result A ℕ) → Result A ℕ
after_step at None rest = Err at
after_step at (Some next) rest = rest next

-- Reading unit by unit: each unit leads from a stage to the next, and the stage behind the last unit has the answer. An
-- Err is the place of the unit that leads nowhere, or where the text ends.
abbrev pub answer_from : {S A : Type 0} → (S → ℕ → Option S) → (S → Option A) → S → ℕ → List ℕ → Result A ℕ
answer_from step ending stage at [] = ok_or (ending stage) at
answer_from step ending stage at (unit ∷ units) = after_step at (step stage unit) (λ next. answer_from step ending next (at + 1) units)
