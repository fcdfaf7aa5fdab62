-- A program of a user's classes and the built-in ones, with codes that stay within themselves.
use Rattle.std.specs.Prelude.{◌≡◌, ℕ, Bool, true, false, List, ◌++◌, Some, is_some, length, ◌==◌, ◌||◌}
use Rattle.std.specs.List.{AllByRecursion}
use Rattle.const_pool.specs.declared.class.ClassFile.{ClassFile}
use Rattle.const_pool.specs.declared.class.CodeAttribute.{CodeAttribute}
use Rattle.const_pool.specs.declared.class.Handler.{Handler}
use Rattle.code_model.specs.declared.instr.Instr.{Instr}
use Rattle.code_model.specs.Instructions.{Reads}
use Rattle.base_classes.specs.BuiltInFiles.{built_in_files}
use Rattle.jvm_model.specs.Basis.Data.{MethodPlace, Program}
use Rattle.jvm_model.specs.Codes.Lines.{targets_of}
use Rattle.jvm_model.specs.Basis.Methods.{method_code}
use Rattle.jvm_model.specs.Codes.Places.{is_start_in, read_from}
use Rattle.jvm_model.specs.Basis.Programs.{class_at, has_built_in_name, methods_numbered, place_of_method}
use Rattle.jvm_model.specs.Soundness.Sound.{IsFit}

-- ---- a code (JVM Specification 4.9.1)

-- the instructions of a code, from its front on
abbrev pub instrs_of : CodeAttribute → List Instr
instrs_of code = read_from (length code.code) code.code 0

-- a start, or the code's end
abbrev pub is_stop : CodeAttribute → ℕ → Bool
is_stop code at = is_start_in (instrs_of code) at || (length code.code == at)

-- a range begins at a start and ends at one or at the code's end, and its handler begins at a start
abbrev pub FitsHandler : CodeAttribute → Handler → Type 0
FitsHandler code h = (is_start_in (instrs_of code) h.start ≡ true) × (is_stop code h.end ≡ true) × (is_start_in (instrs_of code) h.handler ≡ true)

-- It is instructions from its front to its end, which jump to starts of instructions, as its handlers do.
pub record HasSoundCode (code : CodeAttribute) : Type 0 where
  pub reads : Reads code.code 0 (instrs_of code)
  pub targets : AllByRecursion (λ (j : Instr). AllByRecursion (λ k. is_start_in (instrs_of code) k ≡ true) (targets_of j.arg)) (instrs_of code)
  pub handlers : AllByRecursion (FitsHandler code) code.handlers

-- of every method of the program
abbrev pub HasSoundCodes : Program → Type 0
HasSoundCodes p = (v : ℕ) (place : MethodPlace) (c : ClassFile) (code : CodeAttribute) → place_of_method p v ≡ Some place → class_at p place.class ≡ Some c
    → method_code c place.position ≡ Some code → HasSoundCode code

-- ---- a program

-- Its classes are its own, none of which has the name of a built-in one, and behind them the built-in ones; its methods
-- are numbered; its main method is one; and its codes are sound.
pub record IsWhole (p : Program) : Type 0 where
  pub fit : IsFit p
  pub own : List ClassFile
  pub classes : p.classes ≡ own ++ built_in_files
  pub methods : p.methods ≡ methods_numbered p.classes
  pub free : AllByRecursion (λ c. has_built_in_name c ≡ false) own
  pub main : is_some (place_of_method p p.main) ≡ true
  pub codes : HasSoundCodes p
