-- What the top call owes to each row.
use Rattle.std.specs.Prelude.{◌≡◌, ◌⊎◌, ℕ, List, None, true}
use Rattle.jfluid_cli.specs.Words.{words_accepted}
use Rattle.jfluid_cli.specs.Top.{is_status}

-- the answer is a status, and where the words are not accepted it is their refusal, or want of memory
pub record IsAnswerTo (words : List (List ℕ)) (status : ℕ) : Type 0 where
  pub is_one : is_status status ≡ true
  pub refused : words_accepted words ≡ None → (status ≡ 2) ⊎ (status ≡ 9)
