-- java/lang/Enum: what its native methods do. The receiver is the argument at place 0; its fields are its name and its
-- ordinal.
use Rattle.std.specs.Prelude.{ℕ, ◌==◌, List, if◌then◌else◌}
use Rattle.std.specs.Option.{option_map_or}
use Rattle.std.specs.Int.{w32}
use Rattle.int_ops.specs.Arithmetic.{wrapped_difference}
use Rattle.heap_objects.specs.declared.datum.Datum.{Datum}
use Rattle.heap_objects.specs.declared.datum.Datum.TheVariants.{Int, Ref}
use Rattle.heap_objects.specs.Heaps.{HeapView}
use Rattle.native_effects.specs.declared.effects.effect.NativeEffect.{NativeEffect}
use Rattle.native_effects.specs.declared.effects.effect.NativeEffect.TheVariants.{SetsFields}
use Rattle.native_ops.specs.declared.methods.method.EnumMethod.{EnumMethod}
use Rattle.native_ops.specs.declared.methods.method.EnumMethod.TheVariants.{Init, Name, Ordinal, TextOf, Equals, HashCode, CompareTo, CompareToObject}
use Rattle.native_effects.specs.Inputs.Numbers.{class_cast_exception, enum_kind}
use Rattle.native_effects.specs.Inputs.Arguments.{int_in, reference_in}
use Rattle.native_effects.specs.Inputs.Objects.{kind_or_none, int_field, reference_field, number_as_int}
use Rattle.native_effects.specs.Inputs.KindsViews.{KindsView, is_instance}
use Rattle.native_effects.specs.Effects.Answers.{gives_int, gives_boolean, gives_reference, throws, unless_null}

-- The class that declares a constant, by the kind of its class: that class where it extends java/lang/Enum directly,
-- else its superclass.
abbrev pub declaring_class : KindsView → ℕ → ℕ
declaring_class kinds kind = option_map_or (λ above. if above == enum_kind then kind else above) (kinds.above kind) 0

-- the difference of the ordinals, where one class declares both
abbrev pub compare_constants : KindsView → ℕ → ℕ → HeapView → NativeEffect
compare_constants kinds object other h =
    if declaring_class kinds (kind_or_none object h) == declaring_class kinds (kind_or_none other h)
    then gives_int (wrapped_difference w32 (int_field object 1 h) (int_field other 1 h))
    else throws class_cast_exception

abbrev pub compare_to_constant : KindsView → ℕ → ℕ → HeapView → NativeEffect
compare_to_constant kinds object other h = unless_null other (compare_constants kinds object other h)

abbrev pub compare_to_any : KindsView → ℕ → ℕ → HeapView → NativeEffect
compare_to_any kinds object other h =
    unless_null other (if is_instance kinds enum_kind other h
    then compare_constants kinds object other h
    else throws class_cast_exception)

abbrev pub enum_effect : EnumMethod → KindsView → List Datum → HeapView → NativeEffect
enum_effect Init kinds args h = SetsFields (reference_in args 0) (Ref (reference_in args 1)) (Int (int_in args 2))
enum_effect Name kinds args h = gives_reference (reference_field (reference_in args 0) 0 h)
enum_effect TextOf kinds args h = gives_reference (reference_field (reference_in args 0) 0 h)
enum_effect Ordinal kinds args h = gives_int (int_field (reference_in args 0) 1 h)
enum_effect Equals kinds args h = gives_boolean (reference_in args 0 == reference_in args 1)
enum_effect HashCode kinds args h = gives_int (number_as_int (reference_in args 0))
enum_effect CompareTo kinds args h = compare_to_constant kinds (reference_in args 0) (reference_in args 1) h
enum_effect CompareToObject kinds args h = compare_to_any kinds (reference_in args 0) (reference_in args 1) h
