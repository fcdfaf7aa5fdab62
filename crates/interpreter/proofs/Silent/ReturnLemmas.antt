-- What the code of a return finds is what its law asks.
use Rattle.std.proofs.Common.{◌≡◌, ℕ, ◌+◌, ◌-◌, Bool, true, false, List, [], ◌∷◌, length, Option, Some, None, refl, sym, ap, subst, ◌∙◌, arith}
use Rattle.std.specs.Prelude.{nat_le}
use Rattle.std.specs.Option.{IfSome, option_map}
use Rattle.std.proofs.lemmas.Bool.{false≢true, le-leb}
use Rattle.std.proofs.lemmas.Option.{none-some, same_Some}
use Rattle.heap_objects.specs.declared.datum.Datum.{Datum}
use Rattle.heap_objects.specs.declared.Value.{Value}
use Rattle.heap_objects.specs.Changes.{changed_if}
use Rattle.const_pool.specs.declared.descriptor.Kind.{Kind}
use Rattle.frame_stack.specs.FrameLists.{AreSound, FramesView, PlacedFrame, top_operands}
use Rattle.frame_stack.specs.FrameLists.{caller_of, can_give, result_given, with_given, with_result}
use Rattle.frame_stack.specs.Widths.{height_of, width}
use Rattle.method_versions.specs.Tables.{is_superseded_in}
use Rattle.jvm_model.specs.declared.due.Due.TheVariants.{Nothing}
use Rattle.jvm_model.specs.declared.event.Mark.TheVariants.{Off}
use Rattle.jvm_model.specs.declared.instruction.Operation.TheVariants as operation
use Rattle.jvm_model.specs.Basis.Data.{Operands, Returns}
use Rattle.jvm_model.specs.Instructions.LocalRules.{returns}
use Rattle.jvm_model.specs.Basis.Values.{as_value, with_value}
use Rattle.prepared_lines.specs.declared.line.LocalAction.TheVariants as local_action
use Rattle.prepared_lines.specs.declared.line.Line.{Line}
use Rattle.prepared_code.specs.declared.initializations.Initialization.{Initialization}
use Rattle.prepared_code.specs.declared.parts.Here.{Here}
use Rattle.prepared_code.specs.declared.parts.Parts.{Parts}
use Rattle.prepared_code.specs.Initializations.{initialization_on, state_of}
use Rattle.interpreter.specs.Moves.Passing.{Passes, caller_line, fits_given, gone_back, on_frames, steps_if}
use Rattle.prepared_code.specs.Ready.{CanRun}
use Rattle.interpreter.specs.Moves.Quickly.{GoesBack, TriesIf}
use Rattle.prepared_code.specs.Runs.{IsAtInstruction}
use Rattle.prepared_code.specs.States.{here_of}
use Rattle.prepared_code.specs.Tables.{Versions}
use Rattle.prepared_code.specs.Versions.{Setup, line_at, mark_of, next_in}
use Rattle.interpreter.proofs.Moves.QuickSteps.{has-here, leaves-quickly}
use Rattle.interpreter.proofs.Silent.PassingReturns.{GivesBack, fewer, has-caller, return-attempted, return-passes}
use Rattle.interpreter.proofs.Silent.SilentSteps.{passes_none}

-- where the caller stands
pub loaded-caller : (v : Versions) (fs : List PlacedFrame) (version place : ℕ) (line : Line) → caller_of fs ≡ Some (version, place) → line_at v version place ≡ Some line
    → caller_line v fs ≡ Some line
loaded-caller v [] version place line is found = absurd (none-some (version, place) is)
loaded-caller v (f ∷ []) version place line is found = absurd (none-some (version, place) is)
loaded-caller v (f ∷ g ∷ fs) version place line is found =
    let same : (g.version, g.place) ≡ (version, place) = same_Some (g.version, g.place) (version, place) is in
    ap (λ (at : ℕ × ℕ). line_at v at.0 at.1) same ∙ found

pub goes-there : (v : Versions) (ms : List Initialization) (fs : List PlacedFrame) (line : Line) (o : Option ℕ) → o ≡ next_in line → caller_line v fs ≡ Some line
    → initialization_on (length fs - 1) ms ≡ None → IfSome o (λ next. GoesBack v ms fs next)
goes-there v ms fs line None is stands executing = tt
goes-there v ms fs line (Some next) is stands executing = record { caller = line; stands = stands; goes_on = sym is; executing = executing }

-- the caller's operands are within its limit with the value, where they are without
fits-by : (v : Option Value) (fs : List PlacedFrame) → AreSound fs → can_give v fs ≡ true → fits_given v fs ≡ true
fits-by v [] sound can = absurd (false≢true (by v can)) where
  by : (v : Option Value) → can_give v [] ≡ true → false ≡ true
  by None e = e
  by (Some x) e = e
fits-by v (f ∷ []) sound can = absurd (false≢true (by v can)) where
  by : (v : Option Value) → can_give v (f ∷ []) ≡ true → false ≡ true
  by None e = e
  by (Some x) e = e
fits-by None (f ∷ g ∷ fs) sound can = le-leb (height_of g.operands) g.max_stack sound.1.0.operands
fits-by (Some x) (f ∷ g ∷ fs) sound can =
    let same : width x + height_of g.operands ≡ height_of g.operands + width x = omega arith in
    ap (λ n. nat_le n g.max_stack) same ∙ can

same-result : (v : Option Value) (o : Operands) → with_result v o ≡ with_value v o
same-result None o = refl
same-result (Some x) o = refl

same-back : (v : Option Value) (next : ℕ) (fs : List PlacedFrame) → fits_given v fs ≡ true → result_given v next fs ≡ gone_back v next fs
same-back v next [] fits = absurd (false≢true fits)
same-back v next (f ∷ []) fits = absurd (false≢true fits)
same-back v next (f ∷ g ∷ fs) fits = ap (λ o. record g { place = next; operands = o } ∷ fs) (same-result v g.operands)

-- ---- the step

module _ (w : Setup) (run : CanRun w) (ms : List Initialization) (here : Here) (line : Line) (k : Option Kind) (old : Parts) (stands : here_of old.frames.frames ≡ Some here)
    (found : line_at w.versions here.version here.place ≡ Some line) (ends : line.operation ≡ operation.Within (local_action.Return k)) (at_instruction : IsAtInstruction (length old.frames.frames) ms old)
    (d : Option Datum) (next : ℕ) (v : Option Value) (frames : FramesView) (sound : AreSound old.frames.frames)
    (current : is_superseded_in w.versions.slots w.versions.current here.version ≡ false)
    (result : returns k (top_operands old.frames.frames) ≡ Returns d) (value : v ≡ option_map as_value d) where
  gives : (to : GoesBack w.versions ms old.frames.frames next) → true ≡ can_give v old.frames.frames → GivesBack w ms here k old.frames.frames d next
  gives to can = record {
    result = result;
    caller = to.caller;
    stands = to.stands;
    goes_on = to.goes_on;
    holds = ap (λ x. fits_given x old.frames.frames) (sym value) ∙ fits-by v old.frames.frames sound (sym can);
    executing = to.executing;
    current = current;
  }

  back-there : true ≡ can_give v old.frames.frames → frames ≡ with_given v next old.frames → frames.frames ≡ gone_back (option_map as_value d) next old.frames.frames
  back-there can are =
      ap (λ (f : FramesView). f.frames) are
      ∙ (same-back v next old.frames.frames (fits-by v old.frames.frames sound (sym can)) ∙ ap (λ x. gone_back x next old.frames.frames) value)

  pub gives-passes : (b : Bool) → GoesBack w.versions ms old.frames.frames next → mark_of w.versions here.version ≡ Off → b ≡ can_give v old.frames.frames
      → frames ≡ changed_if b (with_given v next) old.frames → Passes w ms old (steps_if b) (on_frames frames old)
  gives-passes true to off can are = return-passes w run ms here line k old stands found ends at_instruction d next (gives to can) frames (back-there can are) off
  gives-passes false to off can are = subst (λ (f : FramesView). Passes w ms old 0 (on_frames f old)) (sym are) (passes_none w ms old at_instruction)

  -- of which its probe has told
  pub gives-tries : (b : Bool) → GoesBack w.versions ms old.frames.frames next → b ≡ can_give v old.frames.frames → frames ≡ changed_if b (with_given v next) old.frames
      → TriesIf b w ms true old Nothing (on_frames frames old)
  gives-tries true to can are =
      let is = gives to can in
      let there = back-there can are in
      leaves-quickly w run ms old (on_frames frames old) (has-here here old.frames.frames stands) at_instruction
      (return-attempted w run ms here line k old stands found ends at_instruction d next is frames there)
      (fewer w run ms here line k old stands found ends at_instruction d next is frames there)
      (has-caller w run ms here line k old stands found ends at_instruction d next is frames there)
  gives-tries false to can are = ap (λ (f : FramesView). state_of ms (on_frames f old)) are

  -- and the run is at an instruction behind it
  pub gives-at_instruction : (b : Bool) → b ≡ true → GoesBack w.versions ms old.frames.frames next → b ≡ can_give v old.frames.frames → frames ≡ changed_if b (with_given v next) old.frames
      → IsAtInstruction (length frames.frames) ms (on_frames frames old)
  gives-at_instruction true given to can are = (return-attempted w run ms here line k old stands found ends at_instruction d next (gives to can) frames (back-there can are)).at_instruction
  gives-at_instruction false given to can are = absurd (false≢true given)
