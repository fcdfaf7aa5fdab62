-- java/io/InputStream and java/io/PrintStream: what their native methods do.
use Rattle.std.specs.Prelude.{ℕ, ◌++◌, List, [], ◌∷◌, if◌then◌else◌}
use Rattle.heap_objects.specs.declared.datum.Datum.{Datum}
use Rattle.heap_objects.specs.Heaps.{HeapView}
use Rattle.native_effects.specs.declared.effects.effect.NativeEffect.{NativeEffect}
use Rattle.native_effects.specs.declared.effects.effect.NativeEffect.TheVariants.{Prints, Reads}
use Rattle.native_effects.specs.declared.inputs.printable.Printable.{Printable}
use Rattle.native_ops.specs.declared.methods.method.InputMethod.{InputMethod}
use Rattle.native_ops.specs.declared.methods.method.InputMethod.TheVariants.{Read, Close}
use Rattle.native_ops.specs.declared.methods.method.PrintMethod.{PrintMethod}
use Rattle.native_ops.specs.declared.methods.method.PrintMethod.TheVariants.{Print, Println, EndLine, Flush}
use Rattle.native_effects.specs.Inputs.Numbers.{null_pointer_exception}
use Rattle.native_effects.specs.Effects.Answers.{gives_nothing, throws}
use Rattle.native_effects.specs.Inputs.Shown.{argument_shown, is_null_array}

abbrev pub input_effect : InputMethod → NativeEffect
input_effect Read = Reads
input_effect Close = gives_nothing

-- a line ends with byte 10
abbrev pub line_end : List ℕ
line_end = 10 ∷ []

abbrev pub prints : Printable → List ℕ → List Datum → HeapView → NativeEffect
prints what behind args h =
    if is_null_array what 1 args then throws null_pointer_exception else Prints (argument_shown what 1 args h ++ behind)

abbrev pub print_effect : PrintMethod → List Datum → HeapView → NativeEffect
print_effect (Print what) args h = prints what [] args h
print_effect (Println what) args h = prints what line_end args h
print_effect EndLine args h = Prints line_end
print_effect Flush args h = gives_nothing
