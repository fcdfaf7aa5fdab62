-- The instructions of a code: which one stands at an offset, which offsets have one, and the first fault of bytes that
-- are no code (JVM Specification 4.9.1, 6.5).
use Rattle.std.specs.Prelude.{◌≡◌, ◌≢◌, ◌↔◌, ℕ, ◌+◌, ◌<◌, List, [], ◌∷◌, ◌++◌, length, drop, Option, Some, None, Result, Ok, Err}
use Rattle.std.specs.List.{AllByRecursion}
use Rattle.code_model.specs.declared.instr.Instr.{Instr}
use Rattle.code_model.specs.declared.instr.Code.{Code}
use Rattle.code_model.specs.declared.error.CodeError.{CodeError}
use Rattle.code_model.specs.declared.error.CodeError.TheVariants.{BadOpcode, Cut, BadSwitch, NoMemory}
use Rattle.code_model.specs.Operands.{instruction}
use Rattle.code_model.specs.Reading.{Read, read_instruction}
use Rattle.code_model.specs.Layout.{size_at}

abbrev pub found_in : {A : Type 0} → Read A → Option A
found_in (Ok read) = Some read.0
found_in (Err fault) = None

-- the instruction that stands at an offset
unfoldable pub instruction_at : List ℕ → ℕ → Option Instr
instruction_at bytes at = found_in (read_instruction at (drop at bytes))

-- The bytes behind this offset begin with those of the instruction.
pub record StandsAt (bytes : List ℕ) (at : ℕ) (i : Instr) : Type 0 where
  pub front : List ℕ
  pub text : List ℕ
  pub rest : List ℕ
  pub parts : bytes ≡ front ++ (text ++ rest)
  pub place : length front ≡ at
  pub spelled : (instruction at).Spells text i

-- What stands at an offset is what the formats spell there.
abbrev pub StandAsSpelled : List ℕ → Type 0
StandAsSpelled bytes = (at : ℕ) (i : Instr) → instruction_at bytes at ≡ Some i ↔ StandsAt bytes at i

-- each of these instructions stands at its own offset
abbrev pub ArePlaced : List ℕ → List Instr → Type 0
ArePlaced bytes instrs = AllByRecursion (λ (i : Instr). instruction_at bytes i.at ≡ Some i) instrs

-- where the next instruction begins
abbrev pub end_of : Instr → ℕ
end_of i = i.at + size_at i.at i

-- From this offset on the bytes are these instructions: each begins where the one before ends, and the last ends where
-- the bytes do.
abbrev pub Reads : List ℕ → ℕ → List Instr → Type 0
Reads bytes at [] = at ≡ length bytes
Reads bytes at (i ∷ rest) = (instruction_at bytes at ≡ Some i) × Reads bytes (end_of i) rest

-- the code is the whole of the bytes
pub record IsReading (bytes : List ℕ) (code : Code) : Type 0 where
  pub instrs : Reads bytes 0 code.instrs
  pub len : code.len ≡ length bytes

-- ---- bytes that are no code

-- from this offset on the bytes are these instructions, the last of which ends at `stop`
abbrev pub ReadsTo : List ℕ → ℕ → List Instr → ℕ → Type 0
ReadsTo bytes at [] stop = at ≡ stop
ReadsTo bytes at (i ∷ rest) stop = (instruction_at bytes at ≡ Some i) × ReadsTo bytes (end_of i) rest stop

-- The bytes are instructions up to an offset, and those behind it begin with none: this is their fault.
pub record IsFirstFault (bytes : List ℕ) (fault : CodeError) : Type 0 where
  pub before : List Instr
  pub at : ℕ
  pub reads : ReadsTo bytes 0 before at
  pub more : at < length bytes
  pub faults : (instruction at).Faults (length bytes) (drop at bytes) fault

-- it is the first fault, unless memory ran out
abbrev pub IsToldFault : List ℕ → CodeError → Type 0
IsToldFault bytes fault = fault ≢ NoMemory → IsFirstFault bytes fault

-- ---- answers

-- the answer is this code, or memory ran out
abbrev pub IsDecodedAs : Result Code CodeError → Code → Type 0
IsDecodedAs (Ok decoded) code = decoded ≡ code
IsDecodedAs (Err NoMemory) code = Unit {0}
IsDecodedAs (Err (BadOpcode at)) code = ⊥
IsDecodedAs (Err (Cut at)) code = ⊥
IsDecodedAs (Err (BadSwitch at)) code = ⊥

-- the answer is this fault, or memory ran out
abbrev pub IsRefusedAs : Result Code CodeError → CodeError → Type 0
IsRefusedAs (Ok decoded) fault = ⊥
IsRefusedAs (Err NoMemory) fault = Unit {0}
IsRefusedAs (Err (BadOpcode at)) fault = BadOpcode at ≡ fault
IsRefusedAs (Err (Cut at)) fault = Cut at ≡ fault
IsRefusedAs (Err (BadSwitch at)) fault = BadSwitch at ≡ fault
