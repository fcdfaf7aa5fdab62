-- The formats of an instruction's numbers and runs of bytes. Each fault of an instruction is told at
-- its opcode, whose offset is `at`. How formats are put together is in byte_formats.
use Rattle.std.specs.Prelude.{◌≡◌, ℕ, Bool, List, length}
use Rattle.std.specs.Int.{Width, byte_len, from_be_bytes}
use Rattle.byte_formats.specs.Formats as formats
pub use Rattle.byte_formats.specs.Formats.{value_made, fails, AreInTurn, FaultsBehind, in_turn, many, IsConverted, IsRefused, kept_where, either}
use Rattle.code_model.specs.declared.error.CodeError.{CodeError}
use Rattle.code_model.specs.declared.error.CodeError.TheVariants.{Cut}

abbrev pub Format : Type 0 → Type 1
Format = formats.Format CodeError

-- so many bytes are not there
abbrev pub IsCut : ℕ → ℕ → ℕ → List ℕ → CodeError → Type 0
IsCut at = formats.IsCut (λ place. Cut at)

-- a big-endian number
abbrev pub number : ℕ → Width → Format ℕ
number at w = record { Spells = λ text n. (length text ≡ byte_len w) × (from_be_bytes w text ≡ n); Faults = IsCut at (byte_len w) }

-- so many bytes, whichever they are
abbrev pub run : ℕ → ℕ → Format (List ℕ)
run at len = record { Spells = λ text bytes. (text ≡ bytes) × (length bytes ≡ len); Faults = IsCut at len }

-- a value that meets a test
abbrev pub value_tested : {A : Type 0} → Format A → (A → Bool) → CodeError → Format A
value_tested P test why = formats.value_tested P test (λ place x. why)
