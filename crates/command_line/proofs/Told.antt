-- The words that a process tells, taken one after the other up to where there is none.
use Rattle.std.proofs.Common.{◌≡◌, ◌∙◌, ℕ, suc, ◌<◌, ◌≤◌, ◌⊎◌, inl, inr, ap, ap₂, sym, arith, List, [], ◌∷◌, ◌++◌, length, take, Some, None, IfSome}
use Rattle.std.specs.Prelude.{slice_get, get_or}
use Rattle.std.proofs.Math.Seq.{take-suc}
use Rattle.std.proofs.lemmas.List.{length-append, take_all}
use Rattle.std.proofs.lemmas.Option.{none-some, slice_get_within, get_or_from_slice_get, slice_get_cases}
use Rattle.command_line.specs.Raw.{ToldWords, AreWords, IsWord}

-- these are the first words
abbrev pub AreFirst : ToldWords → List (List ℕ) → Type 0
AreFirst given found = IfSome given (λ words. found ≡ take (length found) words)

one_more : (words found : List (List ℕ)) (word : List ℕ) → found ≡ take (length found) words → slice_get words (length found) ≡ Some word →
    found ++ word ∷ [] ≡ take (length (found ++ word ∷ [])) words
one_more words found word first next =
    let longer : length (found ++ word ∷ []) ≡ suc (length found) = omega (arith, length-append found (word ∷ [])) in
    ap₂ (λ a b. a ++ b ∷ []) first (sym (get_or_from_slice_get words (length found) word word next))
    ∙ sym (take-suc words (length found) word (slice_get_within words (length found) word next))
    ∙ ap (λ n. take n words) (sym longer)

-- with the word behind them, too
pub first_more : (given : ToldWords) (found : List (List ℕ)) (word : List ℕ) → AreFirst given found → IsWord given (length found) (Some word) →
    AreFirst given (found ++ word ∷ [])
first_more None found word first next = tt
first_more (Some words) found word first next = one_more words found word first next

no_more : (words : List (List ℕ)) (n : ℕ) → slice_get words n ≡ None → length words ≤ n
no_more words n none = by_case (slice_get_cases words n).1
  where
    by_case : ((word : List ℕ) × (n < length words) × (slice_get words n ≡ Some word) × (get_or words n word ≡ word)) ⊎ ((length words ≤ n) × (slice_get words n ≡ None)) → length words ≤ n
    by_case (inl (word, within, found, same)) = absurd (none-some word (sym none ∙ found))
    by_case (inr (past, found)) = past

-- and with none behind them they are all
pub first_all : (given : ToldWords) (found : List (List ℕ)) → AreFirst given found → IsWord given (length found) None → AreWords given found
first_all None found first none = tt
first_all (Some words) found first none = first ∙ take_all (length found) words (no_more words (length found) none)
