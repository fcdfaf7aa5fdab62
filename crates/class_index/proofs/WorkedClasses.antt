-- Programs by hand, for worked look-ups: what a class file names, beside the class format.
use Rattle.std.specs.Prelude.{ℕ, ◌+◌, ◌*◌, List, [], ◌∷◌, ◌++◌, length, map, Option, Some, None, codes, unwrap_or, is_some, if◌then◌else◌}
use Rattle.const_pool.specs.declared.pool.Const.{Const}
use Rattle.const_pool.specs.declared.pool.Const.TheVariants.{Gap, Utf8, Class}
use Rattle.const_pool.specs.declared.class.ClassFile.{ClassFile}
use Rattle.const_pool.specs.declared.class.Member.{Member}
use Rattle.const_pool.specs.References.{NameAndType}
use Rattle.jvm_model.specs.declared.program.Program.{Program}

-- a field or a method
pub record Item : Type 0 where
  pub access : ℕ
  pub texts : NameAndType

-- a class: its flags, its name, its superclass's, its superinterfaces', its fields and methods
pub record Shape : Type 0 where
  pub access : ℕ
  pub name : List ℕ
  pub above : Option (List ℕ)
  pub interfaces : List (List ℕ)
  pub fields : List Item
  pub methods : List Item

-- a name and the class of that name take two indices
abbrev pub class_entries : ℕ → List (List ℕ) → List Const
class_entries at [] = []
class_entries at (name ∷ more) = Utf8 name ∷ Class at ∷ class_entries (at + 2) more

abbrev pub texts_from : List Item → List Const
texts_from [] = []
texts_from (i ∷ more) = Utf8 i.texts.name ∷ Utf8 i.texts.descriptor ∷ texts_from more

abbrev pub members_from : ℕ → List Item → List Member
members_from at [] = []
members_from at (i ∷ more) = record { access = i.access; name = at; descriptor = at + 1; attributes = [] } ∷ members_from (at + 2) more

abbrev pub indices_from : ℕ → List (List ℕ) → List ℕ
indices_from at [] = []
indices_from at (name ∷ more) = at ∷ indices_from (at + 2) more

abbrev pub texts_begin : Shape → ℕ
texts_begin s = 5 + 2 * length s.interfaces

abbrev pub file_of : Shape → ClassFile
file_of s = record {
  minor = 0;
  major = 49;
  pool = Gap ∷ class_entries 1 (s.name ∷ unwrap_or s.above s.name ∷ s.interfaces) ++ texts_from (s.fields ++ s.methods);
  access = s.access;
  this_class = 2;
  super_class = if is_some s.above then 4 else 0;
  interfaces = indices_from 6 s.interfaces;
  fields = members_from (texts_begin s) s.fields;
  methods = members_from (texts_begin s + 2 * length s.fields) s.methods;
  attributes = [];
}

abbrev pub program_of : List Shape → Program
program_of shapes = record { classes = map file_of shapes; methods = []; main = 0; acts = []; args = []; heap = 4096 }

-- ---- kinds of classes

abbrev pub object : List ℕ
object = codes "java/lang/Object"

abbrev pub root_class : Shape
root_class = record { access = 33; name = object; above = None; interfaces = []; fields = []; methods = [] }

abbrev pub class_shape : List ℕ → List ℕ → List (List ℕ) → Shape
class_shape name above interfaces = record { access = 33; name = name; above = Some above; interfaces = interfaces; fields = []; methods = [] }

abbrev pub interface_shape : List ℕ → List (List ℕ) → Shape
interface_shape name interfaces = record (class_shape name object interfaces) { access = 1537 }

abbrev pub texts : List ℕ → List ℕ → NameAndType
texts name descriptor = record { name = name; descriptor = descriptor }

abbrev pub item : ℕ → List ℕ → List ℕ → Item
item access name descriptor = record { access = access; texts = texts name descriptor }

abbrev pub with_methods : List Item → Shape → Shape
with_methods items s = record s { methods = items }

abbrev pub with_fields : List Item → Shape → Shape
with_fields items s = record s { fields = items }
