-- The main method of a class (12.1.4 of the Java language; JVM Specification 5.2): its name and descriptor, and the
-- access flags that it has (4.6).
use Rattle.std.specs.Prelude.{ℕ, Bool, false, Option, Some, None, slice_get, ◌&&◌, if◌then◌else◌}
use Rattle.std.specs.Option.{option_map_or}
use Rattle.const_pool.specs.declared.class.ClassFile.{ClassFile}
use Rattle.const_pool.specs.References.{NameAndType}
use Rattle.jvm_model.specs.Basis.Descriptors.{main_name, main_descriptor}
use Rattle.jvm_model.specs.Basis.Methods.{has_flag}

abbrev pub main_member : NameAndType
main_member = record { name = main_name; descriptor = main_descriptor }

abbrev pub is_public_static : ℕ → Bool
is_public_static access = has_flag 1 access && has_flag 8 access

-- the method, if it is public and static
abbrev pub public_static : ClassFile → ℕ → Option ℕ
public_static c k = if option_map_or (λ m. is_public_static m.access) (slice_get c.methods k) false then Some k else None
