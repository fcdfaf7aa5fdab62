-- The places of original code: starts of instructions, and where a code ends.
use Rattle.std.specs.Prelude.{◌≡◌, ◌⊎◌, ℕ, Bool, true, List, length, Some, slice_get, ◌==◌, ◌||◌}
use Rattle.std.specs.List.{AllByRecursion}
use Rattle.std.specs.Option.{option_map_or}
use Rattle.const_pool.specs.declared.class.CodeAttribute.{CodeAttribute}
use Rattle.const_pool.specs.declared.class.Handler.{Handler}
use Rattle.code_model.specs.declared.instr.Instr.{Instr}
use Rattle.code_model.specs.Instructions.{Reads}
use Rattle.jvm_model.specs.declared.program.Program.{Program}
use Rattle.jvm_model.specs.Codes.Lines.{targets_of}
use Rattle.jvm_model.specs.Codes.Places.{is_start_in, read_from}
use Rattle.jvm_model.specs.Basis.Programs.{code_of_method}

abbrev pub reading_of : CodeAttribute → List Instr
reading_of code = read_from (length code.code) code.code 0

abbrev pub is_place_of : CodeAttribute → ℕ → Bool
is_place_of code at = at == 0 || (is_start_in (reading_of code) at || at == length code.code)

-- of the method with this number; of what is no method with Code nothing is said
abbrev pub is_place_in : Program → ℕ → ℕ → Bool
is_place_in p method at = option_map_or (λ (code : CodeAttribute). is_place_of code at) (code_of_method p method) true

-- a place by the instructions themselves: the start of one of them, or the end of a code of so many bytes
abbrev pub IsStartOrEnd : List Instr → ℕ → ℕ → Type 0
IsStartOrEnd instrs len at = ((k : ℕ) × (i : Instr) × (slice_get instrs k ≡ Some i) × (i.at ≡ at)) ⊎ (at ≡ len)

abbrev pub HasPlaces : CodeAttribute → Handler → Type 0
HasPlaces code h = (is_place_of code h.start ≡ true) × (is_place_of code h.end ≡ true) × (is_place_of code h.handler ≡ true)

-- a code is read to its end, and leads to its own places alone
pub record IsClosedCode (code : CodeAttribute) : Type 0 where
  pub reads : Reads code.code 0 (reading_of code)
  pub targets : AllByRecursion (λ (i : Instr). AllByRecursion (λ t. is_place_of code t ≡ true) (targets_of i.arg)) (reading_of code)
  pub handlers : AllByRecursion (HasPlaces code) code.handlers

abbrev pub HasClosedCodes : Program → Type 0
HasClosedCodes p = (method : ℕ) (code : CodeAttribute) → code_of_method p method ≡ Some code → IsClosedCode code
