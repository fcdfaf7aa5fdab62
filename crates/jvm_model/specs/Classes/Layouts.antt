-- The instance fields of an object, in the order of its slots (JVM Specification 2.7, 4.5).
use Rattle.std.specs.Prelude.{ℕ, zero, suc, List, [], ◌∷◌, ◌++◌, length, filter, map, flat_map, unwrap_or, not, ◌==◌, if◌then◌else◌}
use Rattle.std.specs.Option.{option_map_or}
use Rattle.const_pool.specs.declared.class.ClassFile.{ClassFile}
use Rattle.const_pool.specs.declared.class.Member.{Member}
use Rattle.const_pool.specs.declared.descriptor.Kind.{Kind}
use Rattle.const_pool.specs.declared.descriptor.Kind.TheVariants.{Int, Long, Ref, Byte, Bool, Char, Short, Float, Double}
use Rattle.const_pool.specs.References.{named_text}
use Rattle.jvm_model.specs.declared.program.Program.{Program}
use Rattle.jvm_model.specs.Basis.Programs.{class_at}
use Rattle.jvm_model.specs.Classes.Lookup.{superclass_of}
use Rattle.jvm_model.specs.Basis.Methods.{has_flag}

-- what a field of this descriptor holds, which its first unit tells (4.3.2)
abbrev pub held_by : List ℕ → Kind
held_by [] = Ref
held_by (unit ∷ rest) =
    if unit == 66 then Byte else
    if unit == 67 then Char else
    if unit == 68 then Double else
    if unit == 70 then Float else
    if unit == 73 then Int else
    if unit == 74 then Long else
    if unit == 83 then Short else
    if unit == 90 then Bool else Ref

abbrev pub field_kind : ClassFile → Member → Kind
field_kind c m = held_by (unwrap_or (named_text c.pool m.descriptor) [])

-- its own, without the static ones
abbrev pub own_kinds : ClassFile → List Kind
own_kinds c = map (field_kind c) (filter (λ (m : Member). not (has_flag 8 m.access)) c.fields)

-- those of its superclass first; the walk is bounded as in Lookup
abbrev pub layout_within : Program → ℕ → ℕ → List Kind
layout_within p zero class = []
layout_within p (suc n) class = flat_map (layout_within p n) (superclass_of p class) ++ option_map_or own_kinds (class_at p class) []

abbrev pub layout : Program → ℕ → List Kind
layout p class = layout_within p (length p.classes) class
