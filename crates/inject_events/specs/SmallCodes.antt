-- Classes whose codes are so short that each can be rewritten, whatever stands in them (JVM Specification 4.7.3): told
-- by lengths alone.
use Rattle.std.specs.Prelude.{◌+◌, Bool, true, List, length, nat_le, nat_lt, ◌&&◌}
use Rattle.std.specs.List.{flat_map, list_all}
use Rattle.std.specs.Option.{option_map_or}
use Rattle.const_pool.specs.declared.class.ClassFile.{ClassFile}
use Rattle.const_pool.specs.declared.class.CodeAttribute.{CodeAttribute}
use Rattle.const_pool.specs.declared.class.Member.{Member}
use Rattle.const_pool.specs.declared.pool.Const.{Const}
use Rattle.const_pool.specs.ClassFile.{raw_bytes}
use Rattle.jvm_model.specs.Basis.Methods.{code_of}

-- one more operand and one more handler can be counted; a version of the code is shorter than a branch reaches; the
-- attributes spell fewer frames than a table can have
abbrev pub is_small_code : CodeAttribute → Bool
is_small_code code =
    nat_lt code.max_stack 65535 && (nat_lt (length code.handlers) 65535
    && (nat_le (length code.code) 4096 && nat_le (length (flat_map raw_bytes code.attributes)) 16384))

abbrev pub has_small_body : Member → Bool
has_small_body m = option_map_or is_small_code (code_of m) true

-- the tail can be counted too
abbrev pub has_room : List Const → Bool
has_room pool = nat_le (length pool + 18) 65535

abbrev pub has_small_codes : ClassFile → Bool
has_small_codes c = has_room c.pool && list_all has_small_body c.methods
