-- The class file that is made of a row. It is walked as it is written: each text, class and member gets its entry where
-- it is needed first, behind the entries of its parts, and one that is equal to an earlier one is not made again.
use Rattle.std.specs.Prelude.{ℕ, List, [], ◌∷◌, ◌++◌, length, Option, Some, None, codes, Bool, false, ◌&&◌, ◌==◌}
use Rattle.std.specs.Int.{w16, to_be_bytes}
use Rattle.std.specs.List.{position_from}
use Rattle.std.specs.Str.{bytes_eq}
use Rattle.const_pool.specs.declared.pool.Const.{Const}
use Rattle.const_pool.specs.declared.pool.Const.TheVariants.{Gap, Utf8, Class, Field, Method, NameType}
use Rattle.const_pool.specs.declared.class.ClassFile.{ClassFile}
use Rattle.const_pool.specs.declared.class.Member.{Member}
use Rattle.class_making.specs.Making.{EntryMade, CodeMade, MemberMade, MembersMade, code_alone, member_entry, short_of}
use Rattle.program_gen.specs.declared.rows.ClassName.{ClassName}
use Rattle.program_gen.specs.declared.rows.MemberName.{MemberName}
use Rattle.program_gen.specs.declared.rows.Instruction.{Instruction}
use Rattle.program_gen.specs.declared.rows.Instruction.TheVariants.{Plain, Byte, Short, OfClass, OfMember}
use Rattle.program_gen.specs.declared.rows.MethodRow.{MethodRow}
use Rattle.program_gen.specs.declared.rows.ClassRow.{ClassRow}
use Rattle.program_gen.specs.Names.{class_text, member_text, member_descriptor}

-- ---- entries

-- whether two entries are equal, as far as the kinds that are made here
abbrev pub is_text : List ℕ → Const → Bool
is_text text (Utf8 t) = bytes_eq text t
is_text text _ = false

abbrev pub is_class : ℕ → Const → Bool
is_class name (Class n) = name == n
is_class name _ = false

abbrev pub is_field : ℕ → ℕ → Const → Bool
is_field class member (Field c m) = (class == c) && (member == m)
is_field class member _ = false

abbrev pub is_method : ℕ → ℕ → Const → Bool
is_method class member (Method c m) = (class == c) && (member == m)
is_method class member _ = false

abbrev pub is_name_type : ℕ → ℕ → Const → Bool
is_name_type name descriptor (NameType n d) = (name == n) && (descriptor == d)
is_name_type name descriptor _ = false

abbrev pub is_same : Const → Const → Bool
is_same (Utf8 text) other = is_text text other
is_same (Class name) other = is_class name other
is_same (Field class member) other = is_field class member other
is_same (Method class member) other = is_method class member other
is_same (NameType name descriptor) other = is_name_type name descriptor other
is_same _ other = false

abbrev pub shared_at : List Const → Const → Option ℕ → EntryMade
shared_at pool entry (Some place) = record { pool = pool; index = short_of place }
shared_at pool entry None = record { pool = pool ++ entry ∷ []; index = short_of (length pool) }

unfoldable pub entry_shared : List Const → Const → EntryMade
entry_shared pool entry = shared_at pool entry (position_from (is_same entry) 0 pool)

unfoldable pub class_shared : List Const → ClassName → EntryMade
class_shared pool name = let t = entry_shared pool (Utf8 (class_text name)) in entry_shared t.pool (Class t.index)

unfoldable pub name_type_shared : List Const → MemberName → EntryMade
name_type_shared pool member =
    let n = entry_shared pool (Utf8 (member_text member)) in
    let d = entry_shared n.pool (Utf8 (member_descriptor member)) in
    entry_shared d.pool (NameType n.index d.index)

unfoldable pub member_shared : List Const → ℕ → ClassName → MemberName → EntryMade
member_shared pool op class member =
    let c = class_shared pool class in
    let m = name_type_shared c.pool member in
    entry_shared m.pool (member_entry op c.index m.index)

-- ---- code

unfoldable pub instruction_added : List Const → List ℕ → Instruction → CodeMade
instruction_added pool bytes (Plain op) = record { pool = pool; bytes = bytes ++ op ∷ [] }
instruction_added pool bytes (Byte op operand) = record { pool = pool; bytes = bytes ++ op ∷ operand ∷ [] }
instruction_added pool bytes (Short op operand) = record { pool = pool; bytes = bytes ++ op ∷ to_be_bytes w16 operand }
instruction_added pool bytes (OfClass op class) =
    let c = class_shared pool class in
    record { pool = c.pool; bytes = bytes ++ op ∷ to_be_bytes w16 c.index }
instruction_added pool bytes (OfMember op class member) =
    let m = member_shared pool op class member in
    record { pool = m.pool; bytes = bytes ++ op ∷ to_be_bytes w16 m.index }

unfoldable pub code_from : List Const → List ℕ → List Instruction → CodeMade
code_from pool bytes [] = record { pool = pool; bytes = bytes }
code_from pool bytes (i ∷ rest) = let made = instruction_added pool bytes i in code_from made.pool made.bytes rest

-- ---- methods

unfoldable pub method_added : List Const → MethodRow → MemberMade
method_added pool row =
    let n = entry_shared pool (Utf8 (member_text row.name)) in
    let d = entry_shared n.pool (Utf8 (member_descriptor row.name)) in
    let a = entry_shared d.pool (Utf8 (codes "Code")) in
    let c = code_from a.pool [] row.code in
    record {
      pool = c.pool;
      member = record {
        access = row.access;
        name = n.index;
        descriptor = d.index;
        attributes = code_alone a.index row.max_stack row.max_locals c.bytes;
      };
    }

unfoldable pub methods_from : List Const → List Member → List MethodRow → MembersMade
methods_from pool done [] = record { pool = pool; members = done }
methods_from pool done (row ∷ rest) = let made = method_added pool row in methods_from made.pool (done ++ made.member ∷ []) rest

-- ---- classes

-- public, with ACC_SUPER, in version 49.0
unfoldable pub class_file_of : ClassRow → ClassFile
class_file_of row =
    let t = class_shared (Gap ∷ []) row.name in
    let s = class_shared t.pool row.superclass in
    let m = methods_from s.pool [] row.methods in
    record {
      minor = 0;
      major = 49;
      pool = m.pool;
      access = 0x0021;
      this_class = t.index;
      super_class = s.index;
      interfaces = [];
      fields = [];
      methods = m.members;
      attributes = [];
    }
