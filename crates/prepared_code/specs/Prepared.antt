-- What is kept of a program's original code: at each number and offset, what the definitions look up there.
use Rattle.std.specs.Prelude.{◌≡◌, ℕ, ◌<◌, ◌^◌, length, unwrap_or, List, [], ◌∷◌, if◌then◌else◌}
use Rattle.std.specs.Option.{option_map_or}
use Rattle.std.specs.Option.{IfSome}
use Rattle.std.specs.List.{AllByRecursion}
use Rattle.const_pool.specs.declared.class.ClassFile.{ClassFile}
use Rattle.const_pool.specs.declared.class.Member.{Member}
use Rattle.class_index.specs.Indices.{IsLinkable}
use Rattle.jvm_model.specs.declared.program.Program.{Program}
use Rattle.jvm_model.specs.Classes.Load.{load_of}
use Rattle.jvm_model.specs.Basis.Methods.{code_of}
use Rattle.jvm_model.specs.Basis.Programs.{class_at, has_built_in_name, name_at, name_of, methods_numbered}
use Rattle.jvm_model.specs.Running.Run.{main_class}
use Rattle.jvm_model.specs.Basis.SharedState.{built_in_from}
use Rattle.prepared_code.specs.Versions.{HasLines}
use Rattle.prepared_code.specs.Tables.{Versions}

-- ---- programs whose code can be prepared

-- the offsets in its code are u2s, as the format demands (JVM Specification 4.7.3)
abbrev pub HasShortCode : Member → Type 0
HasShortCode m = IfSome (code_of m) (λ code. length code.code < 2 ^ 16)

abbrev pub HasShortCodes : ClassFile → Type 0
HasShortCodes c = AllByRecursion HasShortCode c.methods

-- Loading the built-in classes among these by their names, one after the other (5.3).
abbrev pub with_built_in : Program → ClassFile → List ℕ → List ℕ
with_built_in p c loaded = if has_built_in_name c then (load_of p loaded (unwrap_or (name_of c) [])).loaded else loaded

-- the class at a position, where it is a built-in one
abbrev pub built_in_then : Program → ℕ → List ℕ → List ℕ
built_in_then p class loaded = option_map_or (λ c. with_built_in p c loaded) (class_at p class) loaded

abbrev pub load_built_in : Program → List ClassFile → List ℕ → List ℕ
load_built_in p [] loaded = loaded
load_built_in p (c ∷ rest) loaded = load_built_in p rest (with_built_in p c loaded)

-- Its classes can be linked, and its methods are those that have Code, which a u32 numbers. Each of the built-in
-- classes is loaded alone, since what it names above itself stands in front of it.
pub record FitsOriginals (p : Program) : Type 0 where
  pub linkable : IsLinkable p
  pub numbered : p.methods ≡ methods_numbered p.classes
  pub methods : length p.methods < 2 ^ 32
  pub codes : AllByRecursion HasShortCodes p.classes
  pub built_in : load_built_in p p.classes [] ≡ built_in_from 0 p.classes

-- the name of the main class; nothing where there is none
abbrev pub main_name : Program → List ℕ
main_name p = unwrap_or (name_at p (main_class p)) []

-- ---- what is kept

pub record IsPrepared (p : Program) (versions : Versions) : Type 0 where
  pub fits : FitsOriginals p
  pub few : length p.classes < 2 ^ 24
  pub numbered : length p.methods < 2 ^ 32
  pub lines : HasLines versions
  pub count : length versions.current ≡ length p.methods
