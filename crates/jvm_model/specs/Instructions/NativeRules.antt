-- The native methods of the built-in classes (JVM Specification 2.11.8, 5.5, 6.5): what native_ops says of them, over
-- the classes that are loaded, the heap, what was made once, and the input. No rule sees a frame.
use Rattle.std.specs.Prelude.{ℕ, ◌%◌, Bool, true, false, List, slice_get, Option, Some, None, ◌==◌, ◌&&◌, if◌then◌else◌}
use Rattle.std.specs.Option.{option_and_then, option_map, option_map_or}
use Rattle.const_pool.specs.BuiltIn.{built_in_names}
use Rattle.const_pool.specs.References.{Reference}
use Rattle.base_classes.specs.Natives.{native_number}
use Rattle.native_effects.specs.declared.effects.answer.Answer.{Answer}
use Rattle.native_effects.specs.declared.effects.answer.Answer.TheVariants as answer
use Rattle.native_ops.specs.Methods.Calls.{answer_by, world_by}
use Rattle.native_effects.specs.Inputs.KindsViews.{KindsView}
use Rattle.native_effects.specs.Inputs.Numbers.{out_of_memory_error}
use Rattle.native_effects.specs.Effects.Worlds as natives
use Rattle.jvm_model.specs.Basis.Data.{Datum, Locals, Operands, Program, Shared, World, Next, Outcome, GoesOn, Throws, Raises, Exits, Breaks, Done}
use Rattle.jvm_model.specs.Basis.KindNumbers.{base_of_class, class_of_base, first_array, kind_parts}
use Rattle.jvm_model.specs.Classes.Kinds.{is_subkind}
use Rattle.jvm_model.specs.Classes.Load.{is_among}
use Rattle.jvm_model.specs.Instructions.ObjectRules.{done}
use Rattle.jvm_model.specs.Basis.Programs.{name_at, super_of}
use Rattle.jvm_model.specs.Basis.Values.{as_value, with_value}

-- ---- the classes of a run, by their kinds

-- the class of a kind, where it is loaded
abbrev pub loaded_class : Program → List ℕ → ℕ → Option ℕ
loaded_class p loaded kind = option_and_then (λ class. if is_among class loaded then Some class else None) (class_of_base p kind)

-- the class of the kind is loaded, or that of an array's elements, or these are primitive
abbrev pub is_known : Program → List ℕ → ℕ → Bool
is_known p loaded kind = option_map_or (λ class. is_among class loaded) (class_of_base p (kind % first_array)) true

abbrev pub kinds_in : Program → List ℕ → KindsView
kinds_in p loaded = record {
  name = λ kind. option_and_then (name_at p) (loaded_class p loaded kind);
  above = λ kind. option_map (base_of_class p) (option_and_then (super_of p) (loaded_class p loaded kind));
  subtype = λ lower upper. is_known p loaded lower && is_known p loaded upper && is_subkind p (kind_parts lower) (kind_parts upper);
}

-- ---- what a native method answers

-- An allocation that passes the limit throws object 1, also where a native method asked for it. Every other exception
-- is made.
abbrev pub thrown_by : ℕ → Outcome
thrown_by class =
    if class == out_of_memory_error then Throws 1
    else option_map_or (λ name. Raises name None) (slice_get built_in_names class) (Breaks false)

-- the frame goes on with these locals, and with the value on top of these operands
abbrev pub outcome_of : Answer → Locals → Operands → Outcome
outcome_of (answer.Value d) l below = GoesOn l (with_value (option_map as_value d) below) Next
outcome_of (answer.Throws class) l below = thrown_by class
outcome_of (answer.Exit status) l below = Exits status
outcome_of answer.Bad l below = Breaks false

-- ---- a call

-- what a native method sees of a state
abbrev pub seen_by_natives : World → Shared → natives.World
seen_by_natives w s = natives.world s.heap s.made w.input s.read

-- what is shared behind it
abbrev pub left_by_native : natives.World → Shared → Shared
left_by_native left s = record s { heap = left.heap; made = left.made; read = left.read }

-- the native method with this number, on the arguments, a receiver first
abbrev pub runs_number : World → ℕ → List Datum → Shared → Locals → Operands → Done
runs_number w number args s l below =
    let kinds = kinds_in w.program s.loaded in
    let left = world_by number kinds args (seen_by_natives w s) in
    record {
      shared = left_by_native left s;
      wrote = left.wrote;
      outcome = outcome_of (answer_by number kinds args (seen_by_natives w s)) l below;
    }

-- the native method of this class, name and descriptor
abbrev pub runs_native : World → Option Reference → List Datum → Shared → Locals → Operands → Done
runs_native w r args s l below =
    option_map_or (λ number. runs_number w number args s l below) (option_and_then native_number r) (done s (Breaks false))
