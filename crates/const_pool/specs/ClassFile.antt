-- The class file format: which bytes spell which class (JVM Specification 4). Bytes spell at most one class, and
-- a class has one spelling.
use Rattle.std.specs.Prelude.{◌≡◌, ◌≢◌, ℕ, ◌<◌, ◌≤◌, ◌^◌, ◌⊎◌, List, ◌++◌, length, Some, codes}
use Rattle.std.specs.List.{flat_map, AllByRecursion}
use Rattle.const_pool.specs.declared.pool.Const.{Const}
use Rattle.const_pool.specs.declared.class.ClassFile.{ClassFile}
use Rattle.const_pool.specs.declared.class.Member.{Member}
use Rattle.const_pool.specs.declared.class.Raw.{Raw}
use Rattle.const_pool.specs.declared.class.Handler.{Handler}
use Rattle.const_pool.specs.declared.class.CodeAttribute.{CodeAttribute}
use Rattle.const_pool.specs.declared.class.Attribute.{Attribute}
use Rattle.const_pool.specs.declared.class.Attribute.TheVariants.{ConstantValue, Code, Other}
use Rattle.const_pool.specs.Pool.{u2, u4, IsPool, pool_bytes, Names, is_utf8, is_class, is_constant}
use Rattle.const_pool.specs.References.{named_text}

-- ---- how a class is spelled, in the order of the format

-- a u2 count, and then each item
abbrev pub items_counted : {A : Type 0} → (A → List ℕ) → List A → List ℕ
items_counted item items = u2 (length items) ++ flat_map item items

-- attribute_info (4.7): a name, a u4 length, the contents
abbrev pub attribute_with : ℕ → List ℕ → List ℕ
attribute_with name contents = u2 name ++ (u4 (length contents) ++ contents)

abbrev pub raw_bytes : Raw → List ℕ
raw_bytes raw = attribute_with raw.name raw.bytes

-- an entry of an exception table (4.7.3)
abbrev pub handler_bytes : Handler → List ℕ
handler_bytes h = u2 h.start ++ (u2 h.end ++ (u2 h.handler ++ u2 h.catch_class))

-- the contents of a Code attribute (4.7.3)
abbrev pub code_bytes : CodeAttribute → List ℕ
code_bytes c = u2 c.max_stack ++ (u2 c.max_locals ++ (u4 (length c.code) ++ (c.code ++ (items_counted handler_bytes c.handlers ++ items_counted raw_bytes c.attributes))))

abbrev pub attribute_bytes : Attribute → List ℕ
attribute_bytes (ConstantValue name index) = attribute_with name (u2 index)
attribute_bytes (Code name code) = attribute_with name (code_bytes code)
attribute_bytes (Other raw) = raw_bytes raw

-- field_info and method_info (4.5, 4.6)
abbrev pub member_bytes : Member → List ℕ
member_bytes m = u2 m.access ++ (u2 m.name ++ (u2 m.descriptor ++ items_counted attribute_bytes m.attributes))

-- ClassFile (4.1), from the magic number on
abbrev pub class_bytes : ClassFile → List ℕ
class_bytes c =
    u4 0xCAFEBABE ++ (u2 c.minor ++ (u2 c.major ++ (pool_bytes c.pool
    ++ (u2 c.access ++ (u2 c.this_class ++ (u2 c.super_class
    ++ (items_counted u2 c.interfaces ++ (items_counted member_bytes c.fields ++ (items_counted member_bytes c.methods ++ items_counted attribute_bytes c.attributes)))))))))

-- ---- what a class may be: numbers in the range of their fields, and indices that name entries of the needed kind

abbrev pub IsU2 : ℕ → Type 0
IsU2 n = n < 2 ^ 16

abbrev pub IsByte : ℕ → Type 0
IsByte n = n < 2 ^ 8

-- how many there are is a u2
abbrev pub FitsCount : {A : Type 0} → List A → Type 0
FitsCount items = length items < 2 ^ 16

pub record IsRaw (pool : List Const) (raw : Raw) : Type 0 where
  pub name : IsU2 raw.name
  pub named : Names is_utf8 pool raw.name
  pub length : length raw.bytes < 2 ^ 32
  pub bytes : AllByRecursion IsByte raw.bytes

-- catch_type may be 0
pub record IsHandler (pool : List Const) (h : Handler) : Type 0 where
  pub start : IsU2 h.start
  pub «end» : IsU2 h.end
  pub handler : IsU2 h.handler
  pub catch : IsU2 h.catch_class
  pub class : (h.catch_class ≡ 0) ⊎ Names is_class pool h.catch_class

-- code_length is 1 to 65535 (4.7.3, 4.9.1)
pub record IsCode (pool : List Const) (c : CodeAttribute) : Type 0 where
  pub max_stack : IsU2 c.max_stack
  pub max_locals : IsU2 c.max_locals
  pub some : 0 < length c.code
  pub short : length c.code < 2 ^ 16
  pub code : AllByRecursion IsByte c.code
  pub handler_count : FitsCount c.handlers
  pub handlers : AllByRecursion (IsHandler pool) c.handlers
  pub attribute_count : FitsCount c.attributes
  pub attributes : AllByRecursion (IsRaw pool) c.attributes
  pub whole : length (code_bytes c) < 2 ^ 32

abbrev pub code_name : List ℕ
code_name = codes "Code"

abbrev pub constant_value_name : List ℕ
constant_value_name = codes "ConstantValue"

-- an attribute of a field: ConstantValue is parsed, every other is kept as bytes (4.7.2)
abbrev pub IsFieldAttribute : List Const → Attribute → Type 0
IsFieldAttribute pool (ConstantValue name index) = IsU2 name × (named_text pool name ≡ Some constant_value_name) × IsU2 index × Names is_constant pool index
IsFieldAttribute pool (Code name code) = ⊥
IsFieldAttribute pool (Other raw) = IsRaw pool raw × (named_text pool raw.name ≢ Some constant_value_name)

-- an attribute of a method: Code is parsed (4.7.3)
abbrev pub IsMethodAttribute : List Const → Attribute → Type 0
IsMethodAttribute pool (ConstantValue name index) = ⊥
IsMethodAttribute pool (Code name code) = IsU2 name × (named_text pool name ≡ Some code_name) × IsCode pool code
IsMethodAttribute pool (Other raw) = IsRaw pool raw × (named_text pool raw.name ≢ Some code_name)

-- an attribute of the class is kept as bytes
abbrev pub IsClassAttribute : List Const → Attribute → Type 0
IsClassAttribute pool (ConstantValue name index) = ⊥
IsClassAttribute pool (Code name code) = ⊥
IsClassAttribute pool (Other raw) = IsRaw pool raw

-- a field or a method, by what its attributes may be
pub record IsMember (IsAttribute : List Const → Attribute → Type 0) (pool : List Const) (m : Member) : Type 0 where
  pub access : IsU2 m.access
  pub name : IsU2 m.name
  pub named : Names is_utf8 pool m.name
  pub descriptor : IsU2 m.descriptor
  pub described : Names is_utf8 pool m.descriptor
  pub count : FitsCount m.attributes
  pub attributes : AllByRecursion (IsAttribute pool) m.attributes

-- the majors that this product reads
pub record IsVersion (minor major : ℕ) : Type 0 where
  pub fits : IsU2 minor
  pub least : 45 ≤ major
  pub most : major ≤ 50

-- super_class may be 0
pub record IsClassFile (c : ClassFile) : Type 0 where
  pub version : IsVersion c.minor c.major
  pub pool : IsPool c.pool
  pub access : IsU2 c.access
  pub this_index : IsU2 c.this_class
  pub this_class : Names is_class c.pool c.this_class
  pub super_index : IsU2 c.super_class
  pub super_class : (c.super_class ≡ 0) ⊎ Names is_class c.pool c.super_class
  pub interface_count : FitsCount c.interfaces
  pub interfaces : AllByRecursion (λ i. IsU2 i × Names is_class c.pool i) c.interfaces
  pub field_count : FitsCount c.fields
  pub fields : AllByRecursion (IsMember IsFieldAttribute c.pool) c.fields
  pub method_count : FitsCount c.methods
  pub methods : AllByRecursion (IsMember IsMethodAttribute c.pool) c.methods
  pub attribute_count : FitsCount c.attributes
  pub attributes : AllByRecursion (IsClassAttribute c.pool) c.attributes

-- The bytes spell the class.
pub record Spells (bytes : List ℕ) (c : ClassFile) : Type 0 where
  pub spelled : bytes ≡ class_bytes c
  pub formed : IsClassFile c
