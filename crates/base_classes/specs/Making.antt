-- The class file that is made of a declaration. Its pool has an entry for each use, in the order of the class file:
-- first the parts of an entry, then the entry.
use Rattle.std.specs.Prelude.{◌≡◌, ℕ, ◌-◌, ◌%◌, List, [], ◌∷◌, ◌++◌, length, Option, Some, None, Result, IfOk, codes, Bool, nat_lt, ◌&&◌}
use Rattle.std.specs.Int.{w16, to_be_bytes}
use Rattle.jf_bytes.specs.declared.error.NoMemory.{NoMemory}
use Rattle.const_pool.specs.declared.pool.Const.{Const}
use Rattle.const_pool.specs.declared.pool.Const.TheVariants.{Gap, Utf8, Class, Text, NameType}
use Rattle.const_pool.specs.declared.class.ClassFile.{ClassFile}
use Rattle.const_pool.specs.declared.class.Member.{Member}
use Rattle.const_pool.specs.declared.class.Attribute.{Attribute}
use Rattle.const_pool.specs.Pool.{has_gaps}
use Rattle.const_pool.specs.References.{Reference}
use Rattle.class_making.specs.Making.{EntryMade, CodeMade, MemberMade, MembersMade, code_alone, member_entry, short_of}
use Rattle.base_classes.specs.Declarations.{NamedInstruction, CodeDeclaration, MemberDeclaration, ClassDeclaration}
use Rattle.base_classes.specs.Declarations.NamedInstruction.{plain, jump, load_text, on_member}

-- ---- entries

unfoldable pub entry_added : List Const → Const → EntryMade
entry_added pool entry = record { pool = pool ++ entry ∷ []; index = short_of (length pool) }

-- an ASCII text
unfoldable pub text_added : List Const → List ℕ → EntryMade
text_added pool text = entry_added pool (Utf8 text)

unfoldable pub string_added : List Const → List ℕ → EntryMade
string_added pool text = let t = text_added pool text in entry_added t.pool (Text t.index)

unfoldable pub class_added : List Const → List ℕ → EntryMade
class_added pool name = let t = text_added pool name in entry_added t.pool (Class t.index)

unfoldable pub name_type_added : List Const → List ℕ → List ℕ → EntryMade
name_type_added pool name descriptor =
    let n = text_added pool name in
    let d = text_added n.pool descriptor in
    entry_added d.pool (NameType n.index d.index)

unfoldable pub reference_added : List Const → ℕ → Reference → EntryMade
reference_added pool op r =
    let c = class_added pool r.class in
    let m = name_type_added c.pool r.member.name r.member.descriptor in
    entry_added m.pool (member_entry op c.index m.index)

-- ---- code

unfoldable pub instruction_added : List Const → List ℕ → NamedInstruction → CodeMade
instruction_added pool bytes (plain op) = record { pool = pool; bytes = bytes ++ op ∷ [] }
instruction_added pool bytes (jump op target) = record { pool = pool; bytes = bytes ++ op ∷ to_be_bytes w16 (target - short_of (length bytes)) }
instruction_added pool bytes (load_text text) =
    let s = string_added pool text in
    record { pool = s.pool; bytes = bytes ++ 18 ∷ (s.index % 256) ∷ [] }
instruction_added pool bytes (on_member op r) =
    let m = reference_added pool op r in
    record { pool = m.pool; bytes = bytes ++ op ∷ to_be_bytes w16 m.index }

unfoldable pub code_from : List Const → List ℕ → List NamedInstruction → CodeMade
code_from pool bytes [] = record { pool = pool; bytes = bytes }
code_from pool bytes (i ∷ rest) = let made = instruction_added pool bytes i in code_from made.pool made.bytes rest

pub record AttributesMade : Type 0 where
  pub pool : List Const
  pub attributes : List Attribute

-- the call gave these attributes, and this is the pool behind it; or memory ran out
abbrev pub AddsAttributes : Result (List Attribute) NoMemory → List Const → AttributesMade → Type 0
AddsAttributes result pool made = IfOk result (λ attributes. (attributes ≡ made.attributes) × (pool ≡ made.pool))

unfoldable pub code_added : List Const → CodeDeclaration → AttributesMade
code_added pool code =
    let n = text_added pool (codes "Code") in
    let c = code_from n.pool [] code.instructions in
    record {
      pool = c.pool;
      attributes = code_alone n.index code.max_stack code.max_locals c.bytes;
    }

unfoldable pub attributes_added : List Const → Option CodeDeclaration → AttributesMade
attributes_added pool None = record { pool = pool; attributes = [] }
attributes_added pool (Some code) = code_added pool code

-- ---- members

unfoldable pub member_added : List Const → MemberDeclaration → MemberMade
member_added pool d =
    let n = text_added pool d.name in
    let t = text_added n.pool d.descriptor in
    let a = attributes_added t.pool d.code in
    record { pool = a.pool; member = record { access = d.access; name = n.index; descriptor = t.index; attributes = a.attributes } }

unfoldable pub members_from : List Const → List Member → List MemberDeclaration → MembersMade
members_from pool done [] = record { pool = pool; members = done }
members_from pool done (d ∷ rest) = let made = member_added pool d in members_from made.pool (done ++ made.member ∷ []) rest

-- ---- classes

unfoldable pub superclass_added : List Const → Option (List ℕ) → EntryMade
superclass_added pool None = record { pool = pool; index = 0 }
superclass_added pool (Some name) = class_added pool name

pub record InterfacesMade : Type 0 where
  pub pool : List Const
  pub indices : List ℕ

abbrev pub AddsIndices : Result (List ℕ) NoMemory → List Const → InterfacesMade → Type 0
AddsIndices result pool made = IfOk result (λ indices. (indices ≡ made.indices) × (pool ≡ made.pool))

unfoldable pub interfaces_from : List Const → List ℕ → List (List ℕ) → InterfacesMade
interfaces_from pool done [] = record { pool = pool; indices = done }
interfaces_from pool done (name ∷ rest) = let made = class_added pool name in interfaces_from made.pool (done ++ made.index ∷ []) rest

unfoldable pub class_file_of : ClassDeclaration → ClassFile
class_file_of d =
    let t = class_added (Gap ∷ []) d.name in
    let s = superclass_added t.pool d.superclass in
    let i = interfaces_from s.pool [] d.interfaces in
    let f = members_from i.pool [] d.fields in
    let m = members_from f.pool [] d.methods in
    record {
      minor = 0;
      major = 49;
      pool = m.pool;
      access = d.access;
      this_class = t.index;
      super_class = s.index;
      interfaces = i.indices;
      fields = f.members;
      methods = m.members;
      attributes = [];
    }

-- the entries are a pool
unfoldable pub has_pool : ClassDeclaration → Bool
has_pool d = let pool = (class_file_of d).pool in has_gaps pool && nat_lt (length pool) 65536
