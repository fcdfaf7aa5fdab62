-- The places of a class's original code: the offsets at which instructions start (JVM Specification 4.7.3).
use Rattle.std.specs.Prelude.{ℕ, zero, suc, Bool, true, is_some, if◌then◌else◌, List, [], ◌∷◌, length, ◌==◌, ◌||◌}
use Rattle.std.specs.Option.{option_map_or}
use Rattle.std.specs.List.{list_any}
use Rattle.const_pool.specs.declared.class.ClassFile.{ClassFile}
use Rattle.const_pool.specs.declared.class.CodeAttribute.{CodeAttribute}
use Rattle.code_model.specs.declared.instr.Instr.{Instr}
use Rattle.code_model.specs.Instructions.{instruction_at, end_of}
use Rattle.jvm_model.specs.Basis.Methods.{method_code}

-- the instructions from an offset on, so many at most
abbrev pub read_from : ℕ → List ℕ → ℕ → List Instr
read_from zero bytes at = []
read_from (suc n) bytes at = option_map_or (λ (i : Instr). i ∷ read_from n bytes (end_of i)) (instruction_at bytes at) []

-- of a method of the class; no code has more instructions than bytes
abbrev pub method_reading : ClassFile → ℕ → List Instr
method_reading c method = option_map_or (λ (code : CodeAttribute). read_from (length code.code) code.code 0) (method_code c method) []

abbrev pub is_start_in : List Instr → ℕ → Bool
is_start_in instrs at = list_any (λ (i : Instr). i.at == at) instrs

-- Where a frame of the method can stand; each method begins at 0. Of a method that has no Code in the class nothing is
-- said.
abbrev pub is_place : ClassFile → ℕ → ℕ → Bool
is_place c method at = if is_some (method_code c method) then at == 0 || is_start_in (method_reading c method) at else true
