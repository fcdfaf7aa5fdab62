-- What the linker has made of a program's names, and what it asks of a program.
use Rattle.std.specs.Prelude.{◌≡◌, ℕ, ◌≤◌, List, Option, length, filter_map, map}
use Rattle.std.specs.Option.{option_and_then}
use Rattle.const_pool.specs.References.{named_class}
use Rattle.const_pool.specs.declared.class.ClassFile.{ClassFile}
use Rattle.std.specs.List.{AllByRecursion}
use Rattle.const_pool.specs.ClassFile.{IsClassFile}
use Rattle.jvm_model.specs.declared.program.Program.{Program}
use Rattle.jvm_model.specs.Basis.Programs.{class_named}
use Rattle.class_index.specs.declared.table.MemberBuckets.{MemberBuckets}
use Rattle.class_index.specs.Buckets.{table_of}
use Rattle.class_index.specs.Names.{Entries, position_of}

-- its classes are class files: at most 4,096, and the built-in ones
pub record IsLinkable (p : Program) : Type 0 where
  pub formed : AllByRecursion IsClassFile p.classes
  pub count : length p.classes ≤ 4149

-- the table of names gives the positions of classes, and each class has a table of its members
pub record IsIndexed (p : Program) (entries : Entries) (tables : List MemberBuckets) : Type 0 where
  pub linkable : IsLinkable p
  pub members : tables ≡ map table_of p.classes
  pub named : (name : List ℕ) → position_of name entries ≡ class_named p name

-- the class that an entry of a class file's pool names
abbrev pub class_of_entry : Program → ClassFile → ℕ → Option ℕ
class_of_entry p c entry = option_and_then (class_named p) (named_class c.pool entry)

-- the direct superinterfaces of a class file
abbrev pub interfaces_in : Program → ClassFile → List ℕ
interfaces_in p c = filter_map (class_of_entry p c) c.interfaces
