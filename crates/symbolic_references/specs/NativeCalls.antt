-- What a call of a native method answers, and what it leaves of a runtime.
use Rattle.std.specs.Prelude.{ℕ, List, ◌++◌}
use Rattle.heap_objects.specs.declared.datum.Datum.{Datum}
use Rattle.native_effects.specs.declared.effects.answer.Answer.{Answer}
use Rattle.native_effects.specs.declared.effects.answer.Native.{Native}
use Rattle.native_ops.specs.Methods.Calls.{answer_by, is_done, left_by}
use Rattle.native_effects.specs.Effects.Worlds as natives
use Rattle.jvm_model.specs.Instructions.NativeRules.{kinds_in, seen_by_natives}
use Rattle.symbolic_references.specs.Runtimes.{RuntimeView}

-- what the method of this number answers to these arguments, where memory is enough
abbrev pub native_answer : RuntimeView → ℕ → List Datum → Answer
native_answer v number args = answer_by number (kinds_in v.world.program v.shared.loaded) args (seen_by_natives v.world v.shared)

-- what it leaves, by what was answered
abbrev pub native_left : RuntimeView → ℕ → List Datum → Native → natives.World
native_left v number args native = left_by (is_done native) number (kinds_in v.world.program v.shared.loaded) args (seen_by_natives v.world v.shared)

abbrev pub with_left : natives.World → RuntimeView → RuntimeView
with_left left v = record v {
  shared = record v.shared { heap = left.heap; made = left.made; read = left.read };
  output = v.output ++ left.wrote;
}
