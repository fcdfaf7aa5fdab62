-- The methods of a class, by their numbers (JVM Specification 4.6, 4.7.3).
use Rattle.std.specs.Prelude.{ℕ, ◌+◌, Bool, not, bit_and, ◌==◌, List, [], ◌∷◌, Option, Some, None, slice_get, ◌&&◌, if◌then◌else◌}
use Rattle.std.specs.Option.{option_and_then, option_map}
use Rattle.const_pool.specs.declared.pool.Const.{Const}
use Rattle.const_pool.specs.declared.class.ClassFile.{ClassFile}
use Rattle.const_pool.specs.declared.class.Member.{Member}
use Rattle.const_pool.specs.declared.class.CodeAttribute.{CodeAttribute}
use Rattle.const_pool.specs.declared.class.Attribute.{Attribute}
use Rattle.const_pool.specs.declared.class.Attribute.TheVariants.{Code}
use Rattle.const_pool.specs.declared.descriptor.Kind.{Kind}
use Rattle.const_pool.specs.declared.descriptor.Shape.{Shape}
use Rattle.const_pool.specs.References.{NameAndType, named_text, same_text_at}
use Rattle.jvm_model.specs.Basis.Descriptors.{shape_of}

-- ---- access flags (4.1, 4.5, 4.6)

abbrev pub has_flag : ℕ → ℕ → Bool
has_flag flag access = not (bit_and access flag == 0)

-- ---- methods

-- the Code among a method's attributes
abbrev pub code_among : List Attribute → Option CodeAttribute
code_among [] = None
code_among (Code name code ∷ rest) = Some code
code_among (_ ∷ rest) = code_among rest

abbrev pub code_of : Member → Option CodeAttribute
code_of m = code_among m.attributes

abbrev pub method_code : ClassFile → ℕ → Option CodeAttribute
method_code c method = option_and_then code_of (slice_get c.methods method)

-- what a method takes and gives
abbrev pub member_shape : List Const → Member → Option Shape
member_shape pool m = option_and_then shape_of (named_text pool m.descriptor)

abbrev pub method_shape : ClassFile → ℕ → Option Shape
method_shape c method = option_and_then (member_shape c.pool) (slice_get c.methods method)

-- the kinds of its parameters
abbrev pub method_params : ClassFile → ℕ → Option (List Kind)
method_params c method = option_map (λ shape. shape.params) (method_shape c method)

-- a method has this name and this descriptor
abbrev pub is_member : List Const → NameAndType → Member → Bool
is_member pool wanted m = same_text_at pool m.name wanted.name && same_text_at pool m.descriptor wanted.descriptor

-- the first method of that name and descriptor, counted from this number (5.4.3.3)
abbrev pub method_from : List Const → NameAndType → ℕ → List Member → Option ℕ
method_from pool wanted n [] = None
method_from pool wanted n (m ∷ rest) = if is_member pool wanted m then Some n else method_from pool wanted (n + 1) rest

abbrev pub method_named : ClassFile → NameAndType → Option ℕ
method_named c wanted = method_from c.pool wanted 0 c.methods
