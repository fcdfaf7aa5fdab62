-- java/lang/Throwable and the classes below it: what their native methods do. The receiver is the argument at place 0;
-- its first fields are its message and its cause. A constructor sets both: what it is not given becomes null.
use Rattle.std.specs.Prelude.{ℕ, List, if◌then◌else◌}
use Rattle.heap_objects.specs.declared.datum.Datum.{Datum}
use Rattle.heap_objects.specs.declared.datum.Datum.TheVariants.{Ref}
use Rattle.heap_objects.specs.Heaps.{HeapView}
use Rattle.native_effects.specs.declared.effects.effect.NativeEffect.{NativeEffect}
use Rattle.native_effects.specs.declared.effects.effect.NativeEffect.TheVariants.{SetsFields}
use Rattle.native_ops.specs.declared.methods.method.ThrowableMethod.{ThrowableMethod}
use Rattle.native_ops.specs.declared.methods.method.ThrowableMethod.TheVariants.{Init, InitMessage, InitMessageCause, InitCause, InitDetail, GetMessage, GetCause}
use Rattle.native_effects.specs.Inputs.Numbers.{string_kind}
use Rattle.native_effects.specs.Inputs.Arguments.{reference_in}
use Rattle.native_effects.specs.Inputs.Objects.{has_kind, reference_field}
use Rattle.native_effects.specs.Effects.Answers.{gives_reference}

abbrev pub sets_both : ℕ → ℕ → ℕ → NativeEffect
sets_both object message cause = SetsFields object (Ref message) (Ref cause)

-- the detail of an AssertionError, which is its message where it is a String
abbrev pub message_of_detail : ℕ → HeapView → ℕ
message_of_detail detail h = if has_kind string_kind detail h then detail else 0

abbrev pub throwable_effect : ThrowableMethod → List Datum → HeapView → NativeEffect
throwable_effect Init args h = sets_both (reference_in args 0) 0 0
throwable_effect InitMessage args h = sets_both (reference_in args 0) (reference_in args 1) 0
throwable_effect InitMessageCause args h = sets_both (reference_in args 0) (reference_in args 1) (reference_in args 2)
throwable_effect InitCause args h = sets_both (reference_in args 0) 0 (reference_in args 1)
throwable_effect InitDetail args h = sets_both (reference_in args 0) (message_of_detail (reference_in args 1) h) 0
throwable_effect GetMessage args h = gives_reference (reference_field (reference_in args 0) 0 h)
throwable_effect GetCause args h = gives_reference (reference_field (reference_in args 0) 1 h)
