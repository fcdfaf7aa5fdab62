-- The class file format (JVM Specification 4) as a reader meets it: item by item in its order, each with the fault that
-- comes where it is not well formed.
use Rattle.std.specs.Prelude.{ℕ, zero, suc, ◌+◌, ◌-◌, Bool, true, false, not, ◌&&◌, ◌||◌, List, [], ◌∷◌, Option, Some, None, nat_lt, nat_le, is_none, unwrap_or, slice_get, ◌==◌, if◌then◌else◌}
use Rattle.std.specs.Int.{w8, w16, w32, w64, cast_signed}
use Rattle.std.specs.Option.{option_map_or}
use Rattle.std.specs.Str.{bytes_eq}
use Rattle.const_pool.specs.declared.pool.Const.{Const}
use Rattle.const_pool.specs.declared.pool.Const.TheVariants.{Gap, Utf8, Integer, Float, Long, Double, Class, Text, Field, Method, InterfaceMethod, NameType}
use Rattle.const_pool.specs.declared.class.ClassFile.{ClassFile}
use Rattle.const_pool.specs.declared.class.Member.{Member}
use Rattle.const_pool.specs.declared.class.Raw.{Raw}
use Rattle.const_pool.specs.declared.class.Handler.{Handler}
use Rattle.const_pool.specs.declared.class.CodeAttribute.{CodeAttribute}
use Rattle.const_pool.specs.declared.class.Attribute.{Attribute}
use Rattle.const_pool.specs.declared.class.Attribute.TheVariants.{ConstantValue, Code, Other}
use Rattle.const_pool.specs.Pool.{is_utf8, is_class, is_name_type, is_constant, is_wide}
use Rattle.const_pool.specs.References.{named_text}
use Rattle.const_pool.specs.ClassFile.{code_name, constant_value_name}
use Rattle.class_reader.specs.declared.tags.Tag.{Tag}
use Rattle.class_reader.specs.declared.tags.Tag.TheVariants as tag
use Rattle.class_reader.specs.declared.error.ReadError.TheVariants.{BadMagic, BadVersion, BadTag, BadIndex, BadRef, BadLength}
use Rattle.class_reader.specs.Formats.{Format, number, run, text, value_made, in_turn, many, value_converted, value_tested, either, bytes_sized, contents_enclosed}

abbrev pub u2 : Format ℕ
u2 = number w16

-- a u2 count, and so many
abbrev pub items_counted : {A : Type 0} → Format A → Format (List A)
items_counted P = in_turn u2 (many P)

-- ---- the constant pool (4.4)

-- table 4.4-A; there are no tags 15, 16 and 18 in the versions that are read
abbrev pub tag_of : ℕ → Option Tag
tag_of n =
    if n == 1 then Some tag.Utf8
    else if n == 3 then Some tag.Integer
    else if n == 4 then Some tag.Float
    else if n == 5 then Some tag.Long
    else if n == 6 then Some tag.Double
    else if n == 7 then Some tag.Class
    else if n == 8 then Some tag.Text
    else if n == 9 then Some tag.Field
    else if n == 10 then Some tag.Method
    else if n == 11 then Some tag.InterfaceMethod
    else if n == 12 then Some tag.NameType
    else None

-- two indices
abbrev pub pair : (ℕ → ℕ → Const) → Format Const
pair make = in_turn u2 (λ a. in_turn u2 (λ b. value_made (make a b)))

-- what follows a tag (4.4.1 to 4.4.7)
abbrev pub contents : Tag → Format Const
contents tag.Utf8 = in_turn u2 (λ len. in_turn (text len) (λ units. value_made (Utf8 units)))
contents tag.Integer = in_turn (number w32) (λ n. value_made (Integer (cast_signed w32 n)))
contents tag.Float = in_turn (number w32) (λ n. value_made (Float n))
contents tag.Long = in_turn (number w64) (λ n. value_made (Long (cast_signed w64 n)))
contents tag.Double = in_turn (number w64) (λ n. value_made (Double n))
contents tag.Class = in_turn u2 (λ i. value_made (Class i))
contents tag.Text = in_turn u2 (λ i. value_made (Text i))
contents tag.Field = pair Field
contents tag.Method = pair Method
contents tag.InterfaceMethod = pair InterfaceMethod
contents tag.NameType = pair NameType

abbrev pub entry : Format Const
entry = in_turn (value_converted (number w8) tag_of (λ at n. BadTag at)) contents

-- The entries of so many indices. A Long or a Double takes two, and a gap stands at the second; the last index has room
-- for none.
abbrev pub entries : ℕ → Format (List Const)
entries zero = value_made []
entries (suc zero) = in_turn entry (λ c. value_made (c ∷ []))
entries (suc (suc n)) = in_turn entry (λ c. either (is_wide c) (in_turn (entries n) (λ cs. value_made (c ∷ Gap ∷ cs))) (in_turn (entries (suc n)) (λ cs. value_made (c ∷ cs))))

-- the index names an entry of this kind
abbrev pub names : (Const → Bool) → List Const → ℕ → Bool
names kind pool i = option_map_or kind (slice_get pool i) false

-- the indices in an entry name entries of the needed kinds
abbrev pub fits_in : List Const → Const → Bool
fits_in pool (Class i) = names is_utf8 pool i
fits_in pool (Text i) = names is_utf8 pool i
fits_in pool (Field c n) = names is_class pool c && names is_name_type pool n
fits_in pool (Method c n) = names is_class pool c && names is_name_type pool n
fits_in pool (InterfaceMethod c n) = names is_class pool c && names is_name_type pool n
fits_in pool (NameType n d) = names is_utf8 pool n && names is_utf8 pool d
fits_in pool _ = true

-- The lowest entry with an index that is out of range or names another kind, or that takes two indices and stands last;
-- the entries from index i on are those of the second list.
abbrev pub lowest_bad_from : List Const → ℕ → List Const → Option ℕ
lowest_bad_from pool i [] = None
lowest_bad_from pool i (c ∷ rest) = if not (fits_in pool c) || (is_wide c && is_empty rest) then Some i else lowest_bad_from pool (i + 1) rest
  where
    is_empty : List Const → Bool
    is_empty [] = true
    is_empty (c ∷ rest) = false

abbrev pub lowest_bad : List Const → Option ℕ
lowest_bad pool = lowest_bad_from pool 0 pool

-- the count, which is not 0, and the entries from index 1 on; index 0 is a gap
abbrev pub pool_count : Format ℕ
pool_count = value_tested u2 (λ count. not (count == 0)) (λ at count. BadIndex 0)

abbrev pub all_entries : Format (List Const)
all_entries = in_turn pool_count (λ count. in_turn (entries (count - 1)) (λ cs. value_made (Gap ∷ cs)))

abbrev pub constant_pool : Format (List Const)
constant_pool = value_tested all_entries (λ pool. is_none (lowest_bad pool)) (λ at pool. BadIndex (unwrap_or (lowest_bad pool) 0))

-- ---- indices behind the pool

-- an index that names an entry of this kind
abbrev pub ref : (Const → Bool) → List Const → Format ℕ
ref kind pool = value_tested u2 (names kind pool) (λ at i. BadRef at)

-- the same, or 0
abbrev pub optional_ref : (Const → Bool) → List Const → Format ℕ
optional_ref kind pool = value_tested u2 (λ i. (i == 0) || names kind pool i) (λ at i. BadRef at)

-- ---- attributes (4.7)

-- the index names this text
abbrev pub names_text : List Const → ℕ → List ℕ → Bool
names_text pool i t = option_map_or (λ units. bytes_eq units t) (named_text pool i) false

-- an attribute that is kept as bytes, behind its name
abbrev pub raw_contents : ℕ → Format Raw
raw_contents name = in_turn bytes_sized (λ bytes. value_made (record { name = name; bytes = bytes }))

abbrev pub raw : List Const → Format Raw
raw pool = in_turn (ref is_utf8 pool) raw_contents

abbrev pub other : ℕ → Format Attribute
other name = in_turn (raw_contents name) (λ r. value_made (Other r))

-- an entry of an exception table (4.7.3)
abbrev pub handler : List Const → Format Handler
handler pool = in_turn u2 (λ start. in_turn u2 (λ stop. in_turn u2 (λ target. in_turn (optional_ref is_class pool) (λ catch. value_made (record { start = start; «end» = stop; handler = target; catch_class = catch })))))

-- a code_length is 1 to 65535
abbrev pub code_length : Format ℕ
code_length = value_tested (number w32) (λ len. nat_lt 0 len && nat_lt len 65536) (λ at len. BadLength at)

-- the contents of a Code attribute (4.7.3)
abbrev pub code : List Const → Format CodeAttribute
code pool =
    in_turn u2 (λ stack. in_turn u2 (λ locals. in_turn (in_turn code_length run) (λ bytes. in_turn (items_counted (handler pool)) (λ handlers. in_turn (items_counted (raw pool)) (λ raws.
    value_made (record { max_stack = stack; max_locals = locals; code = bytes; handlers = handlers; attributes = raws }))))))

-- an attribute of a field: ConstantValue is parsed (4.7.2)
abbrev pub field_attribute : List Const → Format Attribute
field_attribute pool = in_turn (ref is_utf8 pool) (λ name. either (names_text pool name constant_value_name) (in_turn (contents_enclosed (ref is_constant pool)) (λ i. value_made (ConstantValue name i))) (other name))

-- an attribute of a method: Code is parsed (4.7.3)
abbrev pub method_attribute : List Const → Format Attribute
method_attribute pool = in_turn (ref is_utf8 pool) (λ name. either (names_text pool name code_name) (in_turn (contents_enclosed (code pool)) (λ c. value_made (Code name c))) (other name))

-- an attribute of the class
abbrev pub class_attribute : List Const → Format Attribute
class_attribute pool = in_turn (ref is_utf8 pool) other

-- ---- members and the class (4.1, 4.5, 4.6)

-- a field or a method, by the format of its attributes
abbrev pub member : Format Attribute → List Const → Format Member
member attribute pool =
    in_turn u2 (λ access. in_turn (ref is_utf8 pool) (λ name. in_turn (ref is_utf8 pool) (λ descriptor. in_turn (items_counted attribute) (λ attributes.
    value_made (record { access = access; name = name; descriptor = descriptor; attributes = attributes })))))

abbrev pub magic : Format ℕ
magic = value_tested (number w32) (λ n. n == 0xCAFEBABE) (λ at n. BadMagic)

-- the majors that this product reads
abbrev pub major_version : Format ℕ
major_version = value_tested u2 (λ major. nat_le 45 major && nat_le major 50) (λ at major. BadVersion major)

-- what stands behind the constant pool
pub record Body : Type 0 where
  pub access : ℕ
  pub this_class : ℕ
  pub super_class : ℕ
  pub interfaces : List ℕ
  pub fields : List Member
  pub methods : List Member
  pub attributes : List Attribute

abbrev pub body : List Const → Format Body
body pool =
    in_turn u2 (λ access. in_turn (ref is_class pool) (λ this. in_turn (optional_ref is_class pool) (λ super. in_turn (items_counted (ref is_class pool)) (λ interfaces.
    in_turn (items_counted (member (field_attribute pool) pool)) (λ fields. in_turn (items_counted (member (method_attribute pool) pool)) (λ methods. in_turn (items_counted (class_attribute pool)) (λ attributes.
    value_made (record { access = access; this_class = this; super_class = super; interfaces = interfaces; fields = fields; methods = methods; attributes = attributes }))))))))

abbrev pub class_with : ℕ → ℕ → List Const → Body → ClassFile
class_with minor major pool b = record { minor = minor; major = major; pool = pool; access = b.access; this_class = b.this_class; super_class = b.super_class; interfaces = b.interfaces; fields = b.fields; methods = b.methods; attributes = b.attributes }

-- ClassFile (4.1), from the magic number on
unfoldable pub class : Format ClassFile
class = in_turn magic (λ n. in_turn u2 (λ minor. in_turn major_version (λ major. in_turn constant_pool (λ pool. in_turn (body pool) (λ b. value_made (class_with minor major pool b))))))
