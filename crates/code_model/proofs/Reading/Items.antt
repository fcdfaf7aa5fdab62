-- What it is to read a format of instructions: nothing is asked of the bytes, and no fault is told by where they end.
use Rattle.std.proofs.Common.{ℕ, List}
use Rattle.byte_formats.proofs.Items as items
pub use Rattle.byte_formats.proofs.Items.{one_read}
use Rattle.code_model.specs.Formats.{Format}
use Rattle.code_model.specs.Reading.{Read}

abbrev pub AreAny : List ℕ → Type 0
AreAny bytes = Unit {0}

abbrev pub Takes : {A : Type 0} → Format A → List ℕ → A → List ℕ → Type 0
Takes = items.Takes AreAny

abbrev pub IsRead : {A : Type 0} → (List ℕ → Read A) → Format A → Type 0
IsRead item = items.IsRead AreAny (λ limit. item)
