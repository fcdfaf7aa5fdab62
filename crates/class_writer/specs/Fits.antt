-- What a count and a length ask of what stands behind them: that they fit the widths of their fields (JVM Specification
-- 4.1, 4.4.7, 4.7, 4.7.3).
use Rattle.std.specs.Prelude.{◌<◌, ◌^◌, length, All}
use Rattle.jf_bytes.specs.ModifiedUtf8.{modified_utf8}
use Rattle.const_pool.specs.declared.pool.Const.{Const}
use Rattle.const_pool.specs.declared.pool.Const.TheVariants.{Utf8}
use Rattle.const_pool.specs.declared.class.Raw.{Raw}
use Rattle.const_pool.specs.declared.class.CodeAttribute.{CodeAttribute}
use Rattle.const_pool.specs.declared.class.Attribute.{Attribute}
use Rattle.const_pool.specs.declared.class.Attribute.TheVariants.{ConstantValue, Code, Other}
use Rattle.const_pool.specs.declared.class.Member.{Member}
use Rattle.const_pool.specs.declared.class.ClassFile.{ClassFile}
use Rattle.const_pool.specs.ClassFile.{FitsCount, code_bytes}

-- the length of a text is a u2
abbrev pub FitsEntry : Const → Type 0
FitsEntry (Utf8 t) = length (modified_utf8 t) < 2 ^ 16
FitsEntry _ = Unit {0}

-- the length of an attribute is a u4
abbrev pub FitsRaw : Raw → Type 0
FitsRaw raw = length raw.bytes < 2 ^ 32

pub record FitsCode (c : CodeAttribute) : Type 0 where
  pub handler_count : FitsCount c.handlers
  pub attribute_count : FitsCount c.attributes
  pub attributes : All FitsRaw c.attributes
  pub whole : length (code_bytes c) < 2 ^ 32

abbrev pub FitsAttribute : Attribute → Type 0
FitsAttribute (ConstantValue name index) = Unit {0}
FitsAttribute (Code name code) = FitsCode code
FitsAttribute (Other raw) = FitsRaw raw

pub record FitsMember (m : Member) : Type 0 where
  pub count : FitsCount m.attributes
  pub attributes : All FitsAttribute m.attributes

pub record FitsClass (c : ClassFile) : Type 0 where
  pub pool : All FitsEntry c.pool
  pub interface_count : FitsCount c.interfaces
  pub field_count : FitsCount c.fields
  pub fields : All FitsMember c.fields
  pub method_count : FitsCount c.methods
  pub methods : All FitsMember c.methods
  pub attribute_count : FitsCount c.attributes
  pub attributes : All FitsAttribute c.attributes
