-- A sound program, as far as what runs it, rewrites it and tells of it has to know: what it is made of, and what the
-- rules of admission come to for its names and its codes.
use Rattle.std.specs.Prelude.{◌≡◌, ◌≤◌, ◌<◌, ℕ, true, false, List, ◌++◌, length, Option, Some, None, is_some, nat_lt, if◌then◌else◌}
use Rattle.std.specs.List.{AllByRecursion}
use Rattle.std.specs.Option.{option_and_then}
use Rattle.const_pool.specs.declared.class.ClassFile.{ClassFile}
use Rattle.const_pool.specs.declared.class.CodeAttribute.{CodeAttribute}
use Rattle.const_pool.specs.ClassFile.{IsClassFile}
use Rattle.code_model.specs.declared.instr.Instr.{Instr}
use Rattle.base_classes.specs.BuiltInFiles.{built_in_files}
use Rattle.jvm_model.specs.declared.event.Act.{Act}
use Rattle.jvm_model.specs.Basis.Data.{MethodPlace, Program}
use Rattle.jvm_model.specs.Codes.Lines.{operation_of}
use Rattle.jvm_model.specs.Basis.Methods.{method_code, method_named}
use Rattle.jvm_model.specs.Basis.Programs.{class_at, class_named, has_built_in_name, number_of_method, methods_numbered, place_of_method}
use Rattle.jvm_model.specs.Basis.MainMethod.{main_member, public_static}
use Rattle.jvm_model.specs.Soundness.Sound.{IsFit}
use Rattle.jvm_model.specs.Soundness.Whole.{HasSoundCodes, instrs_of}

-- ---- its main method

-- the position of a class's public static `main`
abbrev pub declared_main : ClassFile → Option ℕ
declared_main c = option_and_then (public_static c) (method_named c main_member)

-- the number of the one with Code in the class at this position
abbrev pub main_of_class : Program → ℕ → Option ℕ
main_of_class p class = option_and_then (λ c. option_and_then (number_of_method p class) (declared_main c)) (class_at p class)

-- the number of the main method, in the class of this name, which is one of so many in front of the built-in ones
abbrev pub main_in : Program → ℕ → List ℕ → Option ℕ
main_in p given name =
    option_and_then (λ class. if nat_lt class given then main_of_class p class else None) (class_named p name)

-- ---- its heap

-- the slots that a heap may have
abbrev pub IsHeapLimit : ℕ → Type 0
IsHeapLimit slots = (1024 ≤ slots) × (slots ≤ 67108864)

-- ---- its codes

-- each instruction does something that the rules of instructions know
abbrev pub HaveOperations : ClassFile → List Instr → Type 0
HaveOperations c instrs = AllByRecursion (λ i. is_some (operation_of c i) ≡ true) instrs

-- in every method of the program
abbrev pub HasOperations : Program → Type 0
HasOperations p = (method : ℕ) (place : MethodPlace) (c : ClassFile) (code : CodeAttribute) → place_of_method p method ≡ Some place → class_at p place.class ≡ Some c
    → method_code c place.position ≡ Some code → HaveOperations c (instrs_of code)

-- ---- the program

-- A program of these classes with the main method of the class of this name: at most 4,096 classes, none of which has
-- the name of a built-in one, and behind them the built-in ones, each a class file; its methods are those that have
-- Code, at most 32,768; its acts name methods of it; and its codes are sound.
pub record IsSoundProgram (own : List ClassFile) (name : List ℕ) (p : Program) : Type 0 where
  pub few_classes : length own ≤ 4096
  pub classes_are : p.classes ≡ own ++ built_in_files
  pub formed : AllByRecursion IsClassFile p.classes
  pub free : AllByRecursion (λ c. has_built_in_name c ≡ false) own
  pub methods : p.methods ≡ methods_numbered p.classes
  pub few : length p.methods ≤ 32768
  pub main_is : main_in p (length own) name ≡ Some p.main
  pub main : p.main < length p.methods
  pub acts : AllByRecursion (λ (act : Act). act.method < length p.methods) p.acts
  pub heap : IsHeapLimit p.heap
  pub fit : IsFit p
  pub codes : HasSoundCodes p
  pub operations : HasOperations p
