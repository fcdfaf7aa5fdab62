-- What stands at the homes of a version: the instruction that goes with each start of the original code, behind the
-- leave probe if one stands there, with the offset of the original.
use Rattle.std.specs.Prelude.{◌≡◌, ℕ, nat_lt, map, List, Option, Some, None, if◌then◌else◌}
use Rattle.std.specs.List.{AllByRecursion}
use Rattle.std.specs.Option.{option_and_then, option_map}
use Rattle.const_pool.specs.declared.class.ClassFile.{ClassFile}
use Rattle.code_model.specs.declared.laying.Homes.{Homes}
use Rattle.code_model.specs.declared.instr.Instr.{Instr}
use Rattle.code_model.specs.declared.laying.Laid.{Laid}
use Rattle.code_model.specs.Groups.{AreLaidIn}
use Rattle.code_model.specs.Instructions.{Reads}
use Rattle.code_model.specs.Layout.{found_beside, home_in, place_in}
use Rattle.jvm_model.specs.Basis.Data.{Instruction}
use Rattle.jvm_model.specs.Codes.Lines.{code_instruction, operation_of}
use Rattle.jvm_model.specs.Rewriting.Versions.{group_of}

abbrev pub with_own : ℕ → Instruction → Instruction
with_own at i = record i { own = at }

-- the original offset whose home is here
abbrev pub start_in : Homes → ℕ → Option ℕ
start_in homes home = found_beside homes.home homes.from home

-- what goes with an offset of the original code, which has so many bytes
abbrev pub instruction_for : ClassFile → List ℕ → Homes → ℕ → ℕ → Option Instruction
instruction_for image code homes len at =
    if nat_lt at len then option_and_then (λ place. option_map (with_own at) (code_instruction image code place)) (place_in homes at) else None

-- at a home; elsewhere nothing
abbrev pub homed_instruction : ClassFile → List ℕ → Homes → ℕ → ℕ → Option Instruction
homed_instruction image code homes len home = option_and_then (instruction_for image code homes len) (start_in homes home)

-- A code that was laid out: each of its instructions does in the image what it does in the class, and each home is that
-- of one offset.
pub record IsHomed (c image : ClassFile) (leave old : List ℕ) (instrs : List Instr) (laid : Laid) : Type 0 where
  pub reads : Reads old 0 instrs
  pub laid_out : AreLaidIn laid (map (group_of leave) instrs)
  pub back : (at home : ℕ) → home_in laid.homes at ≡ Some home → start_in laid.homes home ≡ Some at
  pub does : AllByRecursion (λ i. operation_of image i ≡ operation_of c i) instrs
