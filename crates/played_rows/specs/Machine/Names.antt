-- Which methods of a program the words of a row name.
use Rattle.std.specs.Prelude.{◌≡◌, ℕ, Bool, false, List, Option, None, position, slice_get, ◌&&◌, ◌⊎◌}
use Rattle.std.specs.Option.{option_and_then, option_map, option_map_or}
use Rattle.const_pool.specs.declared.class.ClassFile.{ClassFile}
use Rattle.const_pool.specs.declared.class.Member.{Member}
use Rattle.const_pool.specs.References.{name_type_of}
use Rattle.plan_text.specs.declared.plan.RootName.{RootName}
use Rattle.jf_bytes.specs.Unicode.{utf16_of}
use Rattle.plan_text.specs.Roots.{IsRoot, IsNoRoot, root_in}
use Rattle.jvm_model.specs.declared.program.Program.{Program}
use Rattle.jvm_model.specs.declared.program.MethodPlace.{MethodPlace}
use Rattle.jvm_model.specs.Basis.Methods.{is_member}
use Rattle.jvm_model.specs.Basis.Programs.{class_at, has_name}
use Rattle.played_rows.specs.Names.{in_32_bits}
use Rattle.jvm_model.specs.Basis.Descriptors.{shape_of}

-- the method at a position of a class has the name and the descriptor of a root
abbrev pub has_member : RootName → ClassFile → ℕ → Bool
has_member root c at =
    option_map_or (λ (m : Member). is_member c.pool (name_type_of root.name root.descriptor) m) (slice_get c.methods at) false

-- it is the method that a root names
abbrev pub is_root : Program → RootName → MethodPlace → Bool
is_root p root place =
    option_map_or (λ (c : ClassFile). has_name root.class c && has_member root c place.position) (class_at p place.class) false

-- the number of the first method that a root names
abbrev pub method_of_root : Program → RootName → Option ℕ
method_of_root p root = in_32_bits (position (is_root p root) p.methods)

-- the word is a root, and this is the number of its method; or it is none
abbrev pub IsMethodOf : Program → List ℕ → Option ℕ → Type 0
IsMethodOf p word found =
    ((root : RootName) × IsRoot word root × (found ≡ method_of_root p root)) ⊎ (IsNoRoot word × (found ≡ None))

-- ---- by words

-- the root that a word is, if it is one
abbrev pub root_called : List ℕ → Option RootName
root_called word = option_and_then (λ root. option_map (λ shape. root) (shape_of root.descriptor)) (root_in (utf16_of word))

-- the number of the method that a word names: class, dot, name, descriptor
abbrev pub method_called : Program → List ℕ → Option ℕ
method_called p word = option_and_then (method_of_root p) (root_called word)
