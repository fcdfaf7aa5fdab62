-- What a generated class has of its row: its methods, and the instructions of each, by the texts that its indices name.
use Rattle.std.specs.Prelude.{◌≡◌, ℕ, ◌<◌, ◌^◌, List, [], ◌∷◌, Option, Some, codes, ◌==◌, if◌then◌else◌}
use Rattle.std.specs.Int.{w16, to_be_bytes}
use Rattle.std.specs.List.{AllZip, flat_map}
use Rattle.const_pool.specs.declared.pool.Const.{Const}
use Rattle.const_pool.specs.declared.class.ClassFile.{ClassFile}
use Rattle.const_pool.specs.declared.class.Member.{Member}
use Rattle.const_pool.specs.declared.class.Attribute.TheVariants.{Code}
use Rattle.const_pool.specs.References.{Reference, name_type_of, named_class, named_field, named_method, named_text}
use Rattle.program_gen.specs.declared.rows.ClassName.{ClassName}
use Rattle.program_gen.specs.declared.rows.MemberName.{MemberName}
use Rattle.program_gen.specs.declared.rows.Instruction.{Instruction}
use Rattle.program_gen.specs.declared.rows.Instruction.TheVariants.{Plain, Byte, Short, OfClass, OfMember}
use Rattle.program_gen.specs.declared.rows.MethodRow.{MethodRow}
use Rattle.program_gen.specs.declared.rows.ClassRow.{ClassRow}
use Rattle.program_gen.specs.Names.{class_text, member_text, member_descriptor}

-- ---- members

-- the method has the flags, the name and the descriptor of the row
pub record IsMethodOf (pool : List Const) (row : MethodRow) (m : Member) : Type 0 where
  pub access : m.access ≡ row.access
  pub name : named_text pool m.name ≡ Some (member_text row.name)
  pub descriptor : named_text pool m.descriptor ≡ Some (member_descriptor row.name)

-- The class is public, of version 49.0, has no interfaces, no fields and no attributes, and it has the methods of the
-- row, in order.
pub record HasMembersOf (row : ClassRow) (c : ClassFile) : Type 0 where
  pub minor : c.minor ≡ 0
  pub major : c.major ≡ 49
  pub access : c.access ≡ 0x0021
  pub interfaces : c.interfaces ≡ []
  pub fields : c.fields ≡ []
  pub methods : AllZip (IsMethodOf c.pool) row.methods c.methods
  pub attributes : c.attributes ≡ []

-- ---- instructions

-- a member as a class file names it
abbrev pub reference_of : ClassName → MemberName → Reference
reference_of class member = record { class = class_text class; member = name_type_of (member_text member) (member_descriptor member) }

-- getstatic takes a Fieldref, and the others a Methodref (6.5)
abbrev pub named_by : ℕ → List Const → ℕ → Option Reference
named_by op pool index = if op == 178 then named_field pool index else named_method pool index

-- an opcode with an index of two bytes that names this
pub record HasIndex {A : Type 0} (named : ℕ → Option A) (op : ℕ) (what : A) (bytes : List ℕ) : Type 0 where
  pub index : ℕ
  pub small : index < 2 ^ 16
  pub spelled : bytes ≡ op ∷ to_be_bytes w16 index
  pub names : named index ≡ Some what

-- these bytes are the instruction
abbrev pub IsSpelled : List Const → Instruction → List ℕ → Type 0
IsSpelled pool (Plain op) bytes = bytes ≡ op ∷ []
IsSpelled pool (Byte op operand) bytes = bytes ≡ op ∷ operand ∷ []
IsSpelled pool (Short op operand) bytes = bytes ≡ op ∷ to_be_bytes w16 operand
IsSpelled pool (OfClass op class) bytes = HasIndex (named_class pool) op (class_text class) bytes
IsSpelled pool (OfMember op class member) bytes = HasIndex (named_by op pool) op (reference_of class member) bytes

-- these bytes are the instructions, one behind the other
pub record IsCodeOf (pool : List Const) (instructions : List Instruction) (bytes : List ℕ) : Type 0 where
  pub parts : List (List ℕ)
  pub each : AllZip (IsSpelled pool) instructions parts
  pub joined : bytes ≡ flat_map (λ part. part) parts

-- The one attribute of the method is a Code with the instructions and the limits of the row, without handlers and
-- attributes.
pub record HasCodeOf (pool : List Const) (row : MethodRow) (m : Member) : Type 0 where
  pub name : ℕ
  pub named : named_text pool name ≡ Some (codes "Code")
  pub bytes : List ℕ
  pub is : m.attributes ≡ Code name (record { max_stack = row.max_stack; max_locals = row.max_locals; code = bytes; handlers = []; attributes = [] }) ∷ []
  pub code : IsCodeOf pool row.code bytes

abbrev pub HasCodesOf : ClassRow → ClassFile → Type 0
HasCodesOf row c = AllZip (HasCodeOf c.pool) row.methods c.methods

-- ---- of a program's classes

abbrev pub HaveMembers : List ClassRow → List ClassFile → Type 0
HaveMembers rows classes = AllZip HasMembersOf rows classes

abbrev pub HaveCodes : List ClassRow → List ClassFile → Type 0
HaveCodes rows classes = AllZip HasCodesOf rows classes
