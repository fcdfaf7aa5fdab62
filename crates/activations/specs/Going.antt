-- How a frame goes on behind a line, over the frames alone.
use Rattle.std.specs.Prelude.{ℕ, [], ◌∷◌, Option, Some, None}
use Rattle.std.specs.Option.{option_map}
use Rattle.heap_objects.specs.declared.datum.Datum.{Datum}
use Rattle.const_pool.specs.declared.descriptor.Kind.{Kind}
use Rattle.frame_stack.specs.FrameLists.{FramesView}
use Rattle.jvm_model.specs.Basis.Data.{Operands}
use Rattle.jvm_model.specs.Basis.Values.{as_value, datum_of, with_value}
use Rattle.jvm_basic.specs.declared.effect.Effect.{Effect}
use Rattle.jvm_basic.specs.declared.effect.Effect.TheVariants.{Bad}
use Rattle.jvm_basic.specs.Outcomes.{Rule, GoesOn, effect_of, after}

-- a caller with its callee's result
abbrev pub takes_result : Option Datum → ℕ → Rule
takes_result d next l o = GoesOn l (with_value (option_map as_value d) o) next

-- nothing goes on where there is no place
abbrev pub resume_effect : Option Datum → Option ℕ → FramesView → Effect
resume_effect d None s = Bad
resume_effect d (Some next) s = effect_of (takes_result d next) s

abbrev pub resume_frames : Option Datum → Option ℕ → FramesView → FramesView
resume_frames d None s = s
resume_frames d (Some next) s = after (takes_result d next) s

-- the datum on top
abbrev pub top_datum : Kind → Operands → Option Datum
top_datum k [] = None
top_datum k (v ∷ below) = datum_of k v
