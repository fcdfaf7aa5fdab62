-- The class files of a generated program, and what a reader and admission ask of them.
use Rattle.std.specs.Prelude.{◌≡◌, ◌≢◌, ◌≤◌, ℕ, List, [], ◌∷◌, length, map, Some}
use Rattle.std.specs.List.{AllByRecursion, AllZip}
use Rattle.const_pool.specs.declared.pool.Const.{Const}
use Rattle.const_pool.specs.declared.pool.Const.TheVariants.{Class}
use Rattle.const_pool.specs.declared.class.ClassFile.{ClassFile}
use Rattle.const_pool.specs.ClassFile.{class_bytes}
use Rattle.const_pool.specs.References.{named_class, named_text}
use Rattle.const_pool.specs.BuiltIn.{probe_class, built_in_names}
use Rattle.program_gen.specs.declared.rows.ClassRow.{ClassRow}
use Rattle.program_gen.specs.Names.{class_text}
use Rattle.program_gen.specs.Programs.{program_rows}
use Rattle.program_gen.specs.Making.{class_file_of}

abbrev pub classes_generated : ℕ → ℕ → List ClassFile
classes_generated seed size = map class_file_of (program_rows seed size)

-- the most bytes of a class file that is read
abbrev pub most_bytes : ℕ
most_bytes = 4194304

abbrev pub IsShortFile : ClassFile → Type 0
IsShortFile c = length (class_bytes c) ≤ most_bytes

-- the most entries of a class's pool
abbrev pub most_entries : ℕ
most_entries = 400

-- it does not name the class of the probes
abbrev pub IsNoProbe : List Const → Const → Type 0
IsNoProbe pool (Class name) = named_text pool name ≢ Some probe_class
IsNoProbe pool _ = Unit {0}

-- There is room for more entries, and no entry names the class of the probes.
pub record HasOwnPool (c : ClassFile) : Type 0 where
  pub few : length c.pool ≤ most_entries
  pub own : AllByRecursion (IsNoProbe c.pool) c.pool

-- the class and its superclass have the names of the row
pub record IsNamedBy (row : ClassRow) (c : ClassFile) : Type 0 where
  pub name : named_class c.pool c.this_class ≡ Some (class_text row.name)
  pub above : named_class c.pool c.super_class ≡ Some (class_text row.superclass)

-- the names of the program's classes
abbrev pub names_of : List ClassRow → List (List ℕ)
names_of rows = map (λ (row : ClassRow). class_text row.name) rows

-- no name stands twice
abbrev pub AreDistinct : List (List ℕ) → Type 0
AreDistinct [] = Unit {0}
AreDistinct (name ∷ rest) = AllByRecursion (λ other. name ≢ other) rest × AreDistinct rest

-- it is none of the names that no class of a program may have
abbrev pub IsOwnName : List ℕ → Type 0
IsOwnName name = AllByRecursion (λ taken. name ≢ taken) (probe_class ∷ built_in_names)

-- The names of the classes differ from one another, and from those of the built-in classes and of the class of the
-- probes.
pub record HaveOwnNames (rows : List ClassRow) : Type 0 where
  pub distinct : AreDistinct (names_of rows)
  pub own : AllByRecursion IsOwnName (names_of rows)

abbrev pub AreNamed : List ClassRow → List ClassFile → Type 0
AreNamed rows classes = AllZip IsNamedBy rows classes
