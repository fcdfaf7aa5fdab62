-- The length of an array is a step of the run of which nothing is told.
use Rattle.std.proofs.Common.{◌≡◌, Bool, true, false, List, [], ◌∷◌, length, Some, refl, sym, ap, subst, ◌∙◌}
use Rattle.std.proofs.lemmas.Option.{none-some, same_Some}
use Rattle.const_pool.specs.declared.descriptor.Kind.TheVariants as kind
use Rattle.frame_stack.specs.FrameLists.{PlacedFrame}
use Rattle.jvm_model.specs.declared.instruction.Operation.TheVariants as operation
use Rattle.prepared_lines.specs.declared.line.Line.{Line}
use Rattle.prepared_code.specs.declared.initializations.Initialization.{Initialization}
use Rattle.prepared_code.specs.declared.parts.Here.{Here}
use Rattle.prepared_code.specs.declared.parts.Parts.{Parts}
use Rattle.instructions.specs.Elements.{IsMeasured}
use Rattle.interpreter.specs.Moves.Passing.{Passes, steps_if}
use Rattle.prepared_code.specs.Ready.{CanRun}
use Rattle.prepared_code.specs.Runs.{IsAtInstruction}
use Rattle.prepared_code.specs.States.{here_of}
use Rattle.prepared_code.specs.Versions.{Setup, line_at}
use Rattle.instructions.proofs.Attempts.ElementSteps.{StandsAt, length-alone}
use Rattle.interpreter.proofs.Silent.SilentSteps.{passes-alone, passes_none}

module _ (w : Setup) (run : CanRun w) (ms : List Initialization) (here : Here) (line : Line) (old new : Parts) where
  stands-here : (fs : List PlacedFrame) → here_of fs ≡ Some here → line_at w.versions here.version here.place ≡ Some line → StandsAt w fs line
  stands-here [] is found = absurd (none-some here is)
  stands-here (f ∷ fs) is found = ap (λ (h : Here). line_at w.versions h.version h.place) (same_Some _ here is) ∙ found

  pub length-passes : (b : Bool) → here_of old.frames.frames ≡ Some here → line_at w.versions here.version here.place ≡ Some line → line.operation ≡ operation.Arraylength
      → IsAtInstruction (length old.frames.frames) ms old → (b ≡ true → IsMeasured line old new) → (b ≡ false → new ≡ old) → Passes w ms old (steps_if b) new
  length-passes true is found measures at_instruction gone kept =
      passes-alone w ms old new 1 (length-alone w run line kind.Int old new (stands-here old.frames.frames is found) measures (gone refl)) at_instruction
  length-passes false is found measures at_instruction gone kept = subst (λ (p : Parts). Passes w ms old 0 p) (sym (kept refl)) (passes_none w ms old at_instruction)
