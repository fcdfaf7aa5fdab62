-- Reading a class file from left to right: the item at the front of the bytes and the bytes after it, or the first
-- fault. Only functions of this crate cite it; what the readers owe their callers is in Files.
use Rattle.std.specs.Prelude.{ℕ, zero, suc, ◌+◌, ◌-◌, Bool, not, ◌&&◌, ◌||◌, List, [], ◌∷◌, ◌++◌, length, drop, Option, Some, None, Result, Ok, Err, nat_lt, nat_le, ◌==◌, if◌then◌else◌}
use Rattle.std.specs.Int.{Width, w8, w16, w32, w64, byte_len, from_be_bytes, cast_signed}
use Rattle.const_pool.specs.declared.pool.Const.{Const}
use Rattle.const_pool.specs.declared.pool.Const.TheVariants.{Gap, Utf8, Integer, Float, Long, Double, Class, Text, Field, Method, InterfaceMethod, NameType}
use Rattle.const_pool.specs.declared.class.ClassFile.{ClassFile}
use Rattle.const_pool.specs.declared.class.Member.{Member}
use Rattle.const_pool.specs.declared.class.Raw.{Raw}
use Rattle.const_pool.specs.declared.class.Handler.{Handler}
use Rattle.const_pool.specs.declared.class.CodeAttribute.{CodeAttribute}
use Rattle.const_pool.specs.declared.class.Attribute.{Attribute}
use Rattle.const_pool.specs.declared.class.Attribute.TheVariants.{ConstantValue, Code, Other}
use Rattle.const_pool.specs.Pool.{is_utf8, is_class, is_constant, is_wide}
use Rattle.const_pool.specs.ClassFile.{code_name, constant_value_name}
use Rattle.byte_formats.specs.Reading as reading
pub use Rattle.byte_formats.specs.Reading.{◌>>=◌, with_rest, with_front}
unfoldable pub use Rattle.byte_formats.specs.Reading.{many_at}
use Rattle.class_reader.specs.declared.tags.Tag.{Tag}
use Rattle.class_reader.specs.declared.tags.Tag.TheVariants as tag
use Rattle.class_reader.specs.declared.error.ReadError.{ReadError}
use Rattle.class_reader.specs.declared.error.ReadError.TheVariants.{TooLong, Truncated, BadMagic, BadVersion, BadTag, BadUtf8, BadIndex, BadRef, BadLength, Trailing, NoMemory}
use Rattle.class_reader.specs.Decoding.{text_decoded}
use Rattle.class_reader.specs.Formats.{place}
use Rattle.class_reader.specs.Files.{most_bytes}
use Rattle.class_reader.specs.ClassFormat.{tag_of, names, names_text, lowest_bad, Body, class_with}

-- what was read from the front of the bytes, and the bytes after it
abbrev pub Read : Type 0 → Type 0
Read = reading.Read ReadError

-- What a function returned, seen by view, is what reading gives, unless memory ran out.
abbrev pub Gives : {X Y : Type 0} → (X → Y) → Result X ReadError → Result Y ReadError → Type 0
Gives = reading.Gives NoMemory

-- ---- numbers, runs of bytes, and items one after the other

unfoldable pub number_at : Width → ℕ → List ℕ → Read ℕ
number_at w limit bytes = reading.made_of_front (Truncated (place limit bytes)) (byte_len w) (from_be_bytes w) bytes

unfoldable pub run_at : ℕ → ℕ → List ℕ → Read (List ℕ)
run_at len limit bytes = reading.made_of_front (Truncated (place limit bytes)) len (λ run. run) bytes

-- a text that was decoded, or the place of its first bad byte
abbrev pub text_from : ℕ → List ℕ → List ℕ → Result (List ℕ) ℕ → Read (List ℕ)
text_from limit bytes rest (Ok units) = Ok (units, rest)
text_from limit bytes rest (Err at) = Err (BadUtf8 (place limit (drop at bytes)))

unfoldable pub text_at : ℕ → ℕ → List ℕ → Read (List ℕ)
text_at len limit bytes = do
  t ← run_at len limit bytes
  text_from limit bytes t.1 (text_decoded t.0)

-- a number that meets a test, which is read before it
unfoldable pub tested_at : Width → (ℕ → Bool) → (ℕ → ℕ → ReadError) → ℕ → List ℕ → Read ℕ
tested_at w test why limit bytes = do
  n ← number_at w limit bytes
  if test n.0 then Ok n else Err (why (place limit bytes) n.0)

-- items behind a u2 that counts them
unfoldable pub counted_at : {A : Type 0} → (ℕ → List ℕ → Read A) → ℕ → List ℕ → Read (List A)
counted_at item limit bytes = do
  count ← number_at w16 limit bytes
  many_at (item limit) count.0 count.1

-- a u4 length, and so many bytes
unfoldable pub sized_at : ℕ → List ℕ → Read (List ℕ)
sized_at limit bytes = do
  len ← number_at w32 limit bytes
  run_at len.0 limit len.1

-- What was read of contents must be the whole of them. Where they end early or go on, their length is at fault.
abbrev pub fault_within : ℕ → ReadError → ReadError
fault_within at (Truncated short) = BadLength at
fault_within at fault = fault

abbrev pub whole_of : {A : Type 0} → ℕ → Read A → Result A ReadError
whole_of at (Ok x) = if length x.1 == 0 then Ok x.0 else Err (BadLength at)
whole_of at (Err fault) = Err (fault_within at fault)

unfoldable pub enclosed_at : {A : Type 0} → (ℕ → List ℕ → Read A) → ℕ → List ℕ → Read A
enclosed_at item limit bytes = do
  contents ← sized_at limit bytes
  x ← whole_of (place limit bytes) (item (place limit contents.1) contents.0)
  Ok (x, contents.1)

-- ---- the constant pool

abbrev pub known_tag : ℕ → ℕ → List ℕ → Option Tag → Read Tag
known_tag limit n bytes (Some t) = Ok (t, bytes)
known_tag limit n bytes None = Err (BadTag n)

unfoldable pub tag_at : ℕ → List ℕ → Read Tag
tag_at limit bytes = do
  n ← number_at w8 limit bytes
  known_tag limit (place limit bytes) n.1 (tag_of n.0)

unfoldable pub pair_at : (ℕ → ℕ → Const) → ℕ → List ℕ → Read Const
pair_at make limit bytes = do
  first ← number_at w16 limit bytes
  second ← number_at w16 limit first.1
  Ok (make first.0 second.0, second.1)

-- an entry of one number
unfoldable pub single_at : Width → (ℕ → Const) → ℕ → List ℕ → Read Const
single_at w make limit bytes = do
  n ← number_at w limit bytes
  Ok (make n.0, n.1)

unfoldable pub utf8_at : ℕ → List ℕ → Read Const
utf8_at limit bytes = do
  len ← number_at w16 limit bytes
  units ← text_at len.0 limit len.1
  Ok (Utf8 units.0, units.1)

-- what follows a tag
unfoldable pub contents_at : Tag → ℕ → List ℕ → Read Const
contents_at tag.Utf8 limit bytes = utf8_at limit bytes
contents_at tag.Integer limit bytes = single_at w32 (λ n. Integer (cast_signed w32 n)) limit bytes
contents_at tag.Float limit bytes = single_at w32 Float limit bytes
contents_at tag.Long limit bytes = single_at w64 (λ n. Long (cast_signed w64 n)) limit bytes
contents_at tag.Double limit bytes = single_at w64 Double limit bytes
contents_at tag.Class limit bytes = single_at w16 Class limit bytes
contents_at tag.Text limit bytes = single_at w16 Text limit bytes
contents_at tag.Field limit bytes = pair_at Field limit bytes
contents_at tag.Method limit bytes = pair_at Method limit bytes
contents_at tag.InterfaceMethod limit bytes = pair_at InterfaceMethod limit bytes
contents_at tag.NameType limit bytes = pair_at NameType limit bytes

unfoldable pub entry_at : ℕ → List ℕ → Read Const
entry_at limit bytes = do
  t ← tag_at limit bytes
  contents_at t.0 limit t.1

-- an entry, with a gap behind it where it takes two indices and the second is there
abbrev pub entry_gapped : Const → Bool → List Const
entry_gapped c has_room = if is_wide c && has_room then c ∷ Gap ∷ [] else c ∷ []

-- the entries with one more, where the pool has so many indices
abbrev pub with_entry : List Const → Const → ℕ → List Const
with_entry entries c count = entries ++ entry_gapped c (nat_lt (length entries + 1) count)

-- the entries of so many indices
unfoldable pub entries_at : ℕ → ℕ → List ℕ → Read (List Const)
entries_at zero limit bytes = Ok ([], bytes)
entries_at (suc zero) limit bytes = do
  c ← entry_at limit bytes
  Ok (c.0 ∷ [], c.1)
entries_at (suc (suc n)) limit bytes = do
  c ← entry_at limit bytes
  if is_wide c.0 then (entries_at n limit c.1 >>= λ cs. Ok (c.0 ∷ Gap ∷ cs.0, cs.1)) else (entries_at (suc n) limit c.1 >>= λ cs. Ok (c.0 ∷ cs.0, cs.1))

-- a gap, and the entries from index 1 to the count, exclusive
abbrev pub entries_below : ℕ → ℕ → List ℕ → Read (List Const)
entries_below count limit bytes = with_front (Gap ∷ []) (entries_at (count - 1) limit bytes)

-- a constant_pool_count, which is not 0
abbrev pub pool_count_at : ℕ → List ℕ → Read ℕ
pool_count_at = tested_at w16 (λ n. not (n == 0)) (λ at n. BadIndex 0)

-- the count, a gap and the entries
unfoldable pub all_entries_at : ℕ → List ℕ → Read (List Const)
all_entries_at limit bytes = do
  count ← pool_count_at limit bytes
  cs ← entries_at (count.0 - 1) limit count.1
  Ok (Gap ∷ cs.0, cs.1)

abbrev pub sound_pool : List ℕ → List Const → Option ℕ → Read (List Const)
sound_pool rest pool None = Ok (pool, rest)
sound_pool rest pool (Some i) = Err (BadIndex i)

unfoldable pub pool_at : ℕ → List ℕ → Read (List Const)
pool_at limit bytes = do
  pool ← all_entries_at limit bytes
  sound_pool pool.1 pool.0 (lowest_bad pool.0)

-- ---- attributes

abbrev pub ref_at : (Const → Bool) → List Const → ℕ → List ℕ → Read ℕ
ref_at kind pool = tested_at w16 (names kind pool) (λ at i. BadRef at)

abbrev pub optional_ref_at : (Const → Bool) → List Const → ℕ → List ℕ → Read ℕ
optional_ref_at kind pool = tested_at w16 (λ i. (i == 0) || names kind pool i) (λ at i. BadRef at)

unfoldable pub raw_contents_at : ℕ → ℕ → List ℕ → Read Raw
raw_contents_at name limit bytes = do
  contents ← sized_at limit bytes
  Ok (record { name = name; bytes = contents.0 }, contents.1)

unfoldable pub raw_at : List Const → ℕ → List ℕ → Read Raw
raw_at pool limit bytes = do
  name ← ref_at is_utf8 pool limit bytes
  raw_contents_at name.0 limit name.1

unfoldable pub other_at : ℕ → ℕ → List ℕ → Read Attribute
other_at name limit bytes = do
  raw ← raw_contents_at name limit bytes
  Ok (Other raw.0, raw.1)

unfoldable pub handler_at : List Const → ℕ → List ℕ → Read Handler
handler_at pool limit bytes = do
  start ← number_at w16 limit bytes
  stop ← number_at w16 limit start.1
  target ← number_at w16 limit stop.1
  catch ← optional_ref_at is_class pool limit target.1
  Ok (record { start = start.0; «end» = stop.0; handler = target.0; catch_class = catch.0 }, catch.1)

-- a code_length, which is 1 to 65535
abbrev pub code_length_at : ℕ → List ℕ → Read ℕ
code_length_at = tested_at w32 (λ n. nat_lt 0 n && nat_lt n 65536) (λ at n. BadLength at)

-- a code_length and so many bytes
unfoldable pub code_bytes_at : ℕ → List ℕ → Read (List ℕ)
code_bytes_at limit bytes = do
  len ← code_length_at limit bytes
  run_at len.0 limit len.1

unfoldable pub code_at : List Const → ℕ → List ℕ → Read CodeAttribute
code_at pool limit bytes = do
  stack ← number_at w16 limit bytes
  locals ← number_at w16 limit stack.1
  code ← code_bytes_at limit locals.1
  handlers ← counted_at (handler_at pool) limit code.1
  raws ← counted_at (raw_at pool) limit handlers.1
  Ok (record { max_stack = stack.0; max_locals = locals.0; code = code.0; handlers = handlers.0; attributes = raws.0 }, raws.1)

-- the index in a ConstantValue, which is all of its contents
abbrev pub constant_index_at : List Const → ℕ → List ℕ → Read ℕ
constant_index_at pool = enclosed_at (ref_at is_constant pool)

unfoldable pub constant_value_at : List Const → ℕ → ℕ → List ℕ → Read Attribute
constant_value_at pool name limit bytes = do
  index ← constant_index_at pool limit bytes
  Ok (ConstantValue name index.0, index.1)

unfoldable pub code_attribute_at : List Const → ℕ → ℕ → List ℕ → Read Attribute
code_attribute_at pool name limit bytes = do
  code ← enclosed_at (code_at pool) limit bytes
  Ok (Code name code.0, code.1)

unfoldable pub field_attribute_at : List Const → ℕ → List ℕ → Read Attribute
field_attribute_at pool limit bytes = do
  name ← ref_at is_utf8 pool limit bytes
  if names_text pool name.0 constant_value_name then constant_value_at pool name.0 limit name.1 else other_at name.0 limit name.1

unfoldable pub method_attribute_at : List Const → ℕ → List ℕ → Read Attribute
method_attribute_at pool limit bytes = do
  name ← ref_at is_utf8 pool limit bytes
  if names_text pool name.0 code_name then code_attribute_at pool name.0 limit name.1 else other_at name.0 limit name.1

unfoldable pub class_attribute_at : List Const → ℕ → List ℕ → Read Attribute
class_attribute_at pool limit bytes = do
  name ← ref_at is_utf8 pool limit bytes
  other_at name.0 limit name.1

-- ---- members and the class

unfoldable pub member_at : (ℕ → List ℕ → Read Attribute) → List Const → ℕ → List ℕ → Read Member
member_at attribute pool limit bytes = do
  access ← number_at w16 limit bytes
  name ← ref_at is_utf8 pool limit access.1
  descriptor ← ref_at is_utf8 pool limit name.1
  attributes ← counted_at attribute limit descriptor.1
  Ok (record { access = access.0; name = name.0; descriptor = descriptor.0; attributes = attributes.0 }, attributes.1)

unfoldable pub magic_at : ℕ → List ℕ → Read ℕ
magic_at limit bytes = tested_at w32 (λ n. n == 0xCAFEBABE) (λ at n. BadMagic) limit bytes

unfoldable pub major_at : ℕ → List ℕ → Read ℕ
major_at limit bytes = tested_at w16 (λ n. nat_le 45 n && nat_le n 50) (λ at n. BadVersion n) limit bytes

unfoldable pub body_at : List Const → ℕ → List ℕ → Read Body
body_at pool limit bytes = do
  access ← number_at w16 limit bytes
  this ← ref_at is_class pool limit access.1
  super ← optional_ref_at is_class pool limit this.1
  interfaces ← counted_at (ref_at is_class pool) limit super.1
  fields ← counted_at (member_at (field_attribute_at pool) pool) limit interfaces.1
  methods ← counted_at (member_at (method_attribute_at pool) pool) limit fields.1
  attributes ← counted_at (class_attribute_at pool) limit methods.1
  Ok (record { access = access.0; this_class = this.0; super_class = super.0; interfaces = interfaces.0; fields = fields.0; methods = methods.0; attributes = attributes.0 }, attributes.1)

unfoldable pub class_at : ℕ → List ℕ → Read ClassFile
class_at limit bytes = do
  magic ← magic_at limit bytes
  minor ← number_at w16 limit magic.1
  major ← major_at limit minor.1
  pool ← pool_at limit major.1
  body ← body_at pool.0 limit pool.1
  Ok (class_with minor.0 major.0 pool.0 body.0, body.1)

-- ---- files

-- what was read must be all of the bytes
abbrev pub all_of : ℕ → Read ClassFile → Result ClassFile ReadError
all_of limit (Ok c) = if length c.1 == 0 then Ok c.0 else Err (Trailing (place limit c.1))
all_of limit (Err e) = Err e

unfoldable pub image_of : List ℕ → Result ClassFile ReadError
image_of bytes = all_of (length bytes) (class_at (length bytes) bytes)

unfoldable pub file_of : List ℕ → Result ClassFile ReadError
file_of bytes = if nat_lt most_bytes (length bytes) then Err TooLong else image_of bytes
