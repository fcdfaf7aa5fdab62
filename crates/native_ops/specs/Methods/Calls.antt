-- What a call of a native method does: the rule of the method by its number, where the arguments fit.
use Rattle.std.specs.Prelude.{◌≡◌, ℕ, Bool, true, false, List, slice_get, if◌then◌else◌}
use Rattle.std.specs.Option.{option_map_or}
use Rattle.heap_objects.specs.declared.datum.Datum.{Datum}
use Rattle.heap_objects.specs.Changes.{changed_if}
use Rattle.heap_objects.specs.Heaps.{HeapView}
use Rattle.native_effects.specs.declared.effects.answer.Answer.{Answer}
use Rattle.native_effects.specs.declared.effects.answer.Answer.TheVariants as answer
use Rattle.native_effects.specs.declared.effects.answer.Native.{Native}
use Rattle.native_effects.specs.declared.effects.answer.Native.TheVariants as native
use Rattle.native_effects.specs.declared.effects.effect.NativeEffect.{NativeEffect}
use Rattle.native_effects.specs.declared.effects.effect.NativeEffect.TheVariants.{Answers}
use Rattle.native_ops.specs.declared.methods.rows.Row.{Row}
use Rattle.native_ops.specs.declared.methods.method.Method.{Method}
use Rattle.native_ops.specs.declared.methods.method.Method.TheVariants as method
use Rattle.native_effects.specs.Inputs.KindsViews.{KindsView}
use Rattle.native_effects.specs.Inputs.MadeViews.{MadeView}
use Rattle.native_ops.specs.Classes.Roots.{object_effect, class_effect}
use Rattle.native_ops.specs.Classes.Strings.{string_effect}
use Rattle.native_ops.specs.Classes.Builders.{builder_effect}
use Rattle.native_ops.specs.Classes.Streams.{input_effect, print_effect}
use Rattle.native_ops.specs.Classes.Copying.{system_effect}
use Rattle.native_ops.specs.Classes.Integers.{integer_effect}
use Rattle.native_ops.specs.Classes.Longs.{long_effect}
use Rattle.native_ops.specs.Classes.Characters.{character_effect, boolean_effect, math_effect}
use Rattle.native_ops.specs.Classes.Enums.{enum_effect}
use Rattle.native_ops.specs.Classes.Throwables.{throwable_effect}
use Rattle.native_ops.specs.Methods.Signatures.{parameters_of, fit}
use Rattle.native_ops.specs.Methods.Rows.{rows}
use Rattle.native_effects.specs.Effects.Worlds.{World, answer_of, after}

abbrev pub method_effect : Method → KindsView → List Datum → HeapView → MadeView → NativeEffect
method_effect (method.Object m) kinds args h made = object_effect m kinds args h
method_effect (method.Class m) kinds args h made = class_effect m kinds args made
method_effect (method.Text m) kinds args h made = string_effect m args h
method_effect (method.Builder m) kinds args h made = builder_effect m args h
method_effect (method.Input m) kinds args h made = input_effect m
method_effect (method.Output m) kinds args h made = print_effect m args h
method_effect (method.System m) kinds args h made = system_effect m kinds args h
method_effect (method.Integer m) kinds args h made = integer_effect m kinds args h
method_effect (method.Long m) kinds args h made = long_effect m kinds args h
method_effect (method.Character m) kinds args h made = character_effect m kinds args h
method_effect (method.Boolean m) kinds args h made = boolean_effect m kinds args h
method_effect (method.Math m) kinds args h made = math_effect m args
method_effect (method.Enum m) kinds args h made = enum_effect m kinds args h
method_effect (method.Throwable m) kinds args h made = throwable_effect m args h

-- arguments that do not fit are told, and nothing is done
abbrev pub row_effect : Row → KindsView → List Datum → HeapView → MadeView → NativeEffect
row_effect row kinds args h made =
    if fit row.receiver (parameters_of row.parameters) kinds args h
    then method_effect row.method kinds args h made
    else Answers answer.Bad

abbrev pub effect_of : ℕ → KindsView → List Datum → World → NativeEffect
effect_of number kinds args w =
    option_map_or (λ row. row_effect row kinds args w.heap w.made) (slice_get rows number) (Answers answer.Bad)

abbrev pub native_of_answer : Answer → Native
native_of_answer (answer.Value value) = native.Value value
native_of_answer (answer.Throws class) = native.Throws class
native_of_answer (answer.Exit status) = native.Exit status
native_of_answer answer.Bad = native.Bad

-- memory was enough
abbrev pub is_done : Native → Bool
is_done (native.Value value) = true
is_done (native.Throws class) = true
is_done (native.Exit status) = true
is_done native.Bad = true
is_done native.NoMemory = false

-- ---- a call

-- what a call answers where memory is enough, and what it leaves
abbrev pub answer_by : ℕ → KindsView → List Datum → World → Answer
answer_by number kinds args w = answer_of (effect_of number kinds args w) w

abbrev pub world_by : ℕ → KindsView → List Datum → World → World
world_by number kinds args w = after (effect_of number kinds args w) w

-- what a call leaves that is done, and one that is not, which changes nothing
abbrev pub left_by : Bool → ℕ → KindsView → List Datum → World → World
left_by done number kinds args w = changed_if done (world_by number kinds args) w

-- this is answered, but where memory was wanting
abbrev pub IsAnswer : Native → Answer → Type 0
IsAnswer native answer = is_done native ≡ true → native ≡ native_of_answer answer
