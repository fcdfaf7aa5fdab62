-- Words one by one.
use Rattle.std.proofs.Common.{◌≡◌, ◌<◌, ℕ, suc, Bool, true, false, cond, not, List, [], ◌∷◌, ◌++◌, length, ◌+◌, refl, ap, ◌∙◌, sym, eqb, arith}
use Rattle.std.specs.List.{onto_first, position_or_len, slice_split}
use Rattle.std.proofs.lemmas.List.{append_assoc}
use Rattle.std.proofs.lemmas.List.Elements.{filter-append}
use Rattle.std.proofs.lemmas.List.Splits.{slice_split_first}
use Rattle.played_rows.specs.Words.{all_said, front_of, rest_after, word_said, words_in}

-- where no element passes, the list is the one part
one-part : (p : ℕ → Bool) (xs : List ℕ) → position_or_len p xs ≡ length xs → slice_split p xs ≡ xs ∷ []
one-part p [] e = refl
one-part p (x ∷ xs) e = by (one-part p xs) (p x) e
  where
    by : (position_or_len p xs ≡ length xs → slice_split p xs ≡ xs ∷ [])
        → (b : Bool) → cond (not b) (1 + position_or_len p xs) 0 ≡ suc (length xs)
        → cond b ([] ∷ slice_split p xs) (onto_first x (slice_split p xs)) ≡ (x ∷ xs) ∷ []
    by same true e = absurd cc
    by same false e = ap (onto_first x) (same (omega (arith, e)))

-- the first word, and those behind it
pub words-first : (byte : ℕ) (text : List ℕ) → position_or_len (λ b. eqb b byte) text < length text
    → words_in byte text ≡ word_said (front_of byte text) ++ words_in byte (rest_after byte text)
words-first byte text less =
    ap all_said (slice_split_first (λ b. eqb b byte) text 0 less)
    ∙ filter-append (λ word. not (eqb (length word) 0)) (front_of byte text ∷ []) (slice_split (λ b. eqb b byte) (rest_after byte text))

-- the last word
pub words-last : (byte : ℕ) (text : List ℕ) → position_or_len (λ b. eqb b byte) text ≡ length text
    → words_in byte text ≡ word_said text
words-last byte text e = ap all_said (one-part (λ b. eqb b byte) text e)

-- ---- as they are put

pub word-more : (byte : ℕ) (words new all : List (List ℕ)) (text front more : List ℕ) → front ≡ front_of byte text
    → more ≡ rest_after byte text → position_or_len (λ b. eqb b byte) text < length text
    → words ++ words_in byte text ≡ all → new ≡ words ++ word_said front → new ++ words_in byte more ≡ all
word-more byte words new all text front more first rest less before put =
    ap (λ ws. ws ++ words_in byte more) put
    ∙ (append_assoc words (word_said front) (words_in byte more)
    ∙ (ap (λ ws. words ++ ws) (ap (λ w. word_said w ++ words_in byte more) first
    ∙ (ap (λ t. word_said (front_of byte text) ++ words_in byte t) rest ∙ sym (words-first byte text less)))
    ∙ before))

pub word-last : (byte : ℕ) (words new all : List (List ℕ)) (text : List ℕ)
    → position_or_len (λ b. eqb b byte) text ≡ length text → words ++ words_in byte text ≡ all
    → new ≡ words ++ word_said text → new ≡ all
word-last byte words new all text none before put =
    put ∙ (ap (λ ws. words ++ ws) (sym (words-last byte text none)) ∙ before)
