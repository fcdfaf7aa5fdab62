-- The words of a text, and what is found for each of them.
use Rattle.std.specs.Prelude.{ℕ, ◌==◌, not, List, [], ◌∷◌, length, Option, Some}
use Rattle.std.specs.List.{after_first, before_first, filter, slice_split}
use Rattle.std.specs.Option.{option_and_then, option_map}

-- ---- words

-- what stands before the first such byte, and behind it
abbrev pub front_of : ℕ → List ℕ → List ℕ
front_of byte text = before_first (λ b. b == byte) text

abbrev pub rest_after : ℕ → List ℕ → List ℕ
rest_after byte text = after_first (λ b. b == byte) text

-- an empty word says nothing
abbrev pub all_said : List (List ℕ) → List (List ℕ)
all_said words = filter (λ word. not (length word == 0)) words

abbrev pub word_said : List ℕ → List (List ℕ)
word_said word = all_said (word ∷ [])

-- the words of a text between such bytes
abbrev pub words_in : ℕ → List ℕ → List (List ℕ)
words_in byte text = all_said (slice_split (λ b. b == byte) text)

-- ---- what is found

-- what is found for each of these, if something is found for each
abbrev pub all_found : {A B : Type 0} → (A → Option B) → List A → Option (List B)
all_found find [] = Some []
all_found find (a ∷ more) = option_and_then (λ b. option_map (λ bs. b ∷ bs) (all_found find more)) (find a)
