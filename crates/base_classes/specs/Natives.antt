-- The native methods of the built-in classes. The number of each is its place among them.
use Rattle.std.specs.Prelude.{ℕ, ◌+◌, Bool, List, [], ◌∷◌, Option, map, filter, length, bit_and, not, ◌==◌, ◌&&◌}
use Rattle.std.specs.List.{flat_map, position_from}
use Rattle.std.specs.Str.{bytes_eq}
use Rattle.const_pool.specs.References.{Reference}
use Rattle.base_classes.specs.Declarations.{MemberDeclaration, ClassDeclaration}
use Rattle.base_classes.specs.BuiltInClasses.{built_in_classes}

-- ACC_NATIVE (JVM Specification 4.6)
abbrev pub is_native : MemberDeclaration → Bool
is_native m = not (bit_and m.access 0x0100 == 0)

abbrev pub method_named : List ℕ → List ℕ → List ℕ → Reference
method_named class name descriptor = record { class = class; member = record { name = name; descriptor = descriptor } }

abbrev pub natives_of : ClassDeclaration → List Reference
natives_of d = map (λ m. method_named d.name m.name m.descriptor) (filter is_native d.methods)

unfoldable pub native_methods : List Reference
native_methods = flat_map natives_of built_in_classes

-- whether the member has this name and this descriptor
abbrev pub is_member : List ℕ → List ℕ → MemberDeclaration → Bool
is_member name descriptor m = bytes_eq name m.name && bytes_eq descriptor m.descriptor

-- whether this is the reference that is sought
abbrev pub is_reference : Reference → Reference → Bool
is_reference sought r =
    bytes_eq sought.class r.class && (bytes_eq sought.member.name r.member.name && bytes_eq sought.member.descriptor r.member.descriptor)

-- the number of a native method: its first place among them
abbrev pub native_number : Reference → Option ℕ
native_number r = position_from (is_reference r) 0 native_methods

-- for each class, how many native methods stand before its own, where so many stand before the first
abbrev pub starts_from : ℕ → List ClassDeclaration → List ℕ
starts_from n [] = []
starts_from n (d ∷ ds) = n ∷ starts_from (n + length (natives_of d)) ds

unfoldable pub native_starts : List ℕ
native_starts = starts_from 0 built_in_classes
