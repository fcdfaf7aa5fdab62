-- A source in memory that gives two bytes at a time, and whose second take fails.
use Rattle.std.proofs.Common.{◌≡◌, ℕ, Bool, true, false, List, [], ◌∷◌, refl}
use Rattle.byte_streams.specs.Calls.{first_calls, is_failing}
use Rattle.byte_streams.specs.Memory.{SourceView, take_count, after_take}

abbrev source : SourceView
source = record { left = 1 ∷ 2 ∷ 3 ∷ 4 ∷ 5 ∷ []; calls = first_calls (2 ∷ []) }

abbrev behind_one : SourceView
behind_one = after_take source 2

abbrev behind_two : SourceView
behind_two = after_take behind_one 2

abbrev behind_three : SourceView
behind_three = after_take behind_two 2

abbrev behind_four : SourceView
behind_four = after_take behind_three 2

-- which takes fail
failing : is_failing source.calls ∷ is_failing behind_one.calls ∷ is_failing behind_two.calls ∷ is_failing behind_three.calls ∷ is_failing behind_four.calls ∷ []
    ≡ false ∷ true ∷ false ∷ false ∷ false ∷ []
failing = refl

-- how many bytes the others give
given : take_count source 2 ∷ take_count behind_two 2 ∷ take_count behind_three 2 ∷ take_count behind_four 2 ∷ [] ≡ 2 ∷ 2 ∷ 1 ∷ 0 ∷ []
given = refl

-- what is left behind each
left : behind_one.left ∷ behind_two.left ∷ behind_three.left ∷ behind_four.left ∷ []
    ≡ (3 ∷ 4 ∷ 5 ∷ []) ∷ (3 ∷ 4 ∷ 5 ∷ []) ∷ (5 ∷ []) ∷ [] ∷ []
left = refl
