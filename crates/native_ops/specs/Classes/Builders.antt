-- java/lang/StringBuilder and java/lang/StringBuffer: what their native methods do, each by its arguments and the heap.
-- The receiver is the argument at place 0.
use Rattle.std.specs.Prelude.{ℕ, ◌+◌, ◌++◌, ℤ, pos, negsuc, List, [], Some, None, length, take, drop, if◌then◌else◌}
use Rattle.std.specs.Option.{option_map_or}
use Rattle.heap_objects.specs.declared.datum.Datum.{Datum}
use Rattle.heap_objects.specs.declared.datum.Datum.TheVariants.{Ref}
use Rattle.heap_objects.specs.Heaps.{HeapView}
use Rattle.native_effects.specs.declared.effects.effect.NativeEffect.{NativeEffect}
use Rattle.native_effects.specs.declared.effects.effect.NativeEffect.TheVariants.{MakesText, Appends, Replaces, PutsUnit, Resizes}
use Rattle.native_effects.specs.declared.inputs.printable.Printable.{Printable}
use Rattle.native_ops.specs.declared.methods.method.BuilderMethod.{BuilderMethod}
use Rattle.native_ops.specs.declared.methods.method.BuilderMethod.TheVariants.{Init, InitCapacity, InitText, Append, Length, CharAt, SetCharAt, SetLength, DeleteCharAt, ToText}
use Rattle.native_effects.specs.Inputs.Numbers.{negative_array_size_exception, null_pointer_exception, string_index_out_of_bounds_exception}
use Rattle.native_effects.specs.Inputs.Arguments.{int_in, reference_in, char_in}
use Rattle.native_effects.specs.Inputs.Objects.{text_at, size_at, number_as_int}
use Rattle.native_effects.specs.Effects.Answers.{gives_int, throws}
use Rattle.native_effects.specs.Inputs.Places.{place_in}
use Rattle.native_effects.specs.Inputs.Shown.{argument_shown, is_null_array}
use Rattle.native_ops.specs.Classes.Strings.{init_text, char_at}

-- a capacity is no part of a text
abbrev pub init_capacity : ℕ → ℤ → NativeEffect
init_capacity object (pos n) = Replaces object [] None
init_capacity object (negsuc n) = throws negative_array_size_exception

abbrev pub append : Printable → List Datum → HeapView → NativeEffect
append what args h =
    if is_null_array what 1 args
    then throws null_pointer_exception
    else Appends (reference_in args 0) (argument_shown what 1 args h)

abbrev pub set_char_at : ℕ → ℤ → ℕ → HeapView → NativeEffect
set_char_at object place unit h =
    option_map_or (λ at. PutsUnit object at unit) (place_in place (length (text_at object h)))
    (throws string_index_out_of_bounds_exception)

abbrev pub set_length : ℕ → ℤ → NativeEffect
set_length object (pos n) = Resizes object n
set_length object (negsuc n) = throws string_index_out_of_bounds_exception

-- the units without the one at a place
abbrev pub without : ℕ → List ℕ → List ℕ
without place units = take place units ++ drop (place + 1) units

abbrev pub delete_char_at : ℕ → ℤ → HeapView → NativeEffect
delete_char_at object place h =
    option_map_or (λ i. Replaces object (without i (text_at object h)) (Some (Ref object))) (place_in place (length (text_at object h)))
    (throws string_index_out_of_bounds_exception)

abbrev pub builder_effect : BuilderMethod → List Datum → HeapView → NativeEffect
builder_effect Init args h = Replaces (reference_in args 0) [] None
builder_effect InitCapacity args h = init_capacity (reference_in args 0) (int_in args 1)
builder_effect InitText args h = init_text (reference_in args 0) (reference_in args 1) h
builder_effect (Append what) args h = append what args h
builder_effect Length args h = gives_int (number_as_int (size_at (reference_in args 0) h))
builder_effect CharAt args h = char_at (reference_in args 0) (int_in args 1) h
builder_effect SetCharAt args h = set_char_at (reference_in args 0) (int_in args 1) (char_in args 2) h
builder_effect SetLength args h = set_length (reference_in args 0) (int_in args 1)
builder_effect DeleteCharAt args h = delete_char_at (reference_in args 0) (int_in args 1) h
builder_effect ToText args h = MakesText (text_at (reference_in args 0) h)
