-- Reading values that meet a test.
use Rattle.std.proofs.Common.{Bool, cond, List, Ok, Err, ℕ}
use Rattle.byte_formats.proofs.Conditions as conditions
use Rattle.code_model.specs.declared.error.CodeError.{CodeError}
use Rattle.code_model.specs.Formats.{Format, value_tested}
use Rattle.code_model.specs.Reading.{◌>>=◌, Read}
use Rattle.code_model.proofs.Reading.Items.{IsRead}

-- what was read, if it meets the test
abbrev pub kept : {A : Type 0} → (A → Bool) → CodeError → A × List ℕ → Read A
kept test why a = cond (test a.0) (Ok a) (Err why)

abbrev pub tested_at : {A : Type 0} → (List ℕ → Read A) → (A → Bool) → CodeError → List ℕ → Read A
tested_at p test why bytes = p bytes >>= kept test why

pub tested_is_read : {A : Type 0} (p : List ℕ → Read A) (P : Format A) (test : A → Bool) (why : CodeError)
    → IsRead p P → IsRead (tested_at p test why) (value_tested P test why)
tested_is_read p P test why law = conditions.tested_is_read (λ limit. p) P test (λ place x. why) law
