-- A class file in three parts (JVM Specification 4.1), and what is written for a text and for an index of the pool.
use Rattle.std.specs.Prelude.{ℕ, List, [], ◌++◌, length}
use Rattle.std.specs.Option.{option_map_or}
use Rattle.jf_bytes.specs.ModifiedUtf8.{modified_utf8}
use Rattle.const_pool.specs.declared.pool.Const.{Const}
use Rattle.const_pool.specs.declared.class.ClassFile.{ClassFile}
use Rattle.const_pool.specs.Pool.{u2, u4, entry_at, entry_bytes, pool_bytes}
use Rattle.const_pool.specs.ClassFile.{items_counted, attribute_bytes, member_bytes}

-- the magic number, the version and the constant pool
abbrev pub head_bytes : ClassFile → List ℕ
head_bytes c = u4 0xCAFEBABE ++ (u2 c.minor ++ (u2 c.major ++ pool_bytes c.pool))

-- the access flags, the class itself and its superclass
abbrev pub itself_bytes : ClassFile → List ℕ
itself_bytes c = u2 c.access ++ (u2 c.this_class ++ u2 c.super_class)

-- what the class has
abbrev pub body_bytes : ClassFile → List ℕ
body_bytes c = items_counted u2 c.interfaces ++ (items_counted member_bytes c.fields ++ (items_counted member_bytes c.methods ++ items_counted attribute_bytes c.attributes))

-- the length of a text, and the text (4.4.7)
abbrev pub text_bytes : List ℕ → List ℕ
text_bytes text = u2 (length (modified_utf8 text)) ++ modified_utf8 text

-- the entry at an index, where it names one
abbrev pub bytes_at : List Const → ℕ → List ℕ
bytes_at pool index = option_map_or entry_bytes (entry_at pool index) []
