-- What a step loads first, by the line at which the current frame stands.
use Rattle.std.proofs.Common.{◌≡◌, ℕ, Bool, true, false, List, [], ◌∷◌, ◌++◌, length, map, Option, Some, None, refl, sym, ap, subst, ◌∙◌}
use Rattle.std.proofs.lemmas.Bool.{false≢true}
use Rattle.std.proofs.lemmas.Option.{same_Some, none-some}
use Rattle.std.specs.Option.{option_map, IfSome}
use Rattle.std.specs.Prelude.{◌==◌, is_some, IfNone}
use Rattle.frame_stack.specs.FrameLists.{PlacedFrame, top_operands}
use Rattle.jvm_model.specs.declared.state.State.{State}
use Rattle.jvm_model.specs.declared.instruction.SymbolicReference.{SymbolicReference}
use Rattle.jvm_model.specs.declared.instruction.Operation.{Operation}
use Rattle.jvm_model.specs.declared.instruction.Operation.TheVariants as operation
use Rattle.jvm_model.specs.Instructions.Does.{loads}
use Rattle.jvm_model.specs.Instructions.SymbolicReference.{newly_loaded}
use Rattle.jvm_model.specs.Turns.Rest.{classes_loaded_at, loads_on}
use Rattle.jvm_model.specs.Running.Run.{with_classes_loaded}
use Rattle.member_selection.specs.declared.outcome.Outcome.{Outcome as CodeOutcome}
use Rattle.member_selection.specs.Answers.{done_on}
use Rattle.member_selection.specs.Attempts.{attempts, is_loaded, loaded_for}
use Rattle.member_selection.specs.Outcomes.{outcome_by_rule, outcome_in_frame}
use Rattle.symbolic_references.specs.Runtimes.{RuntimeView, after}
use Rattle.symbolic_references.specs.Runtimes as runtimes
use Rattle.prepared_lines.specs.declared.line.LocalAction.{LocalAction}
use Rattle.prepared_lines.specs.declared.line.LocalAction.TheVariants as local_action
use Rattle.prepared_lines.specs.declared.line.Line.{Line}
use Rattle.prepared_code.specs.declared.initializations.Initialization.{Initialization}
use Rattle.prepared_code.specs.declared.parts.Here.{Here}
use Rattle.prepared_code.specs.declared.parts.Parts.{Parts}
use Rattle.instructions.specs.Acts.{is_named, named_in}
use Rattle.prepared_code.specs.Lines.{IfNamed}
use Rattle.prepared_code.specs.Initializations.{initialization_on, stack_of, state_of}
use Rattle.prepared_code.specs.States.{active, frame_in, here_of}
use Rattle.activations.specs.Turning.{loads_in, loads_none}
use Rattle.prepared_code.specs.Versions.{Setup, instruction_in, line_at, operation_as, listing_of}
use Rattle.instructions.proofs.Initializing.Beneath.{nothing-there}
use Rattle.instructions.proofs.Attempts.LineActs.{with-loaded}
use Rattle.activations.proofs.TurnsCarried.{top-frame}
use Rattle.instructions.proofs.Attempts.NamedAttempts.{Names, held, names-there}

-- by a line of the current frame
abbrev loads_of : Setup → State → List PlacedFrame → Option Line → List ℕ
loads_of w s [] lo = []
loads_of w s (f ∷ fs) lo = classes_loaded_at w.world s (frame_in f) (option_map instruction_in lo)

-- a line that names nothing loads nothing
unnamed-loads : (w : Setup) (s : State) (fs : List PlacedFrame) (lo : Option Line) → named_in lo ≡ false → loads_of w s fs lo ≡ []
unnamed-loads w s [] lo is = refl
unnamed-loads w s (f ∷ fs) None is = refl
unnamed-loads w s (f ∷ fs) (Some line) is = by line.operation is where
  by : (a : Operation LocalAction) → is_named a ≡ false → loads w.world (operation_as line a) s.shared f.operands ≡ []
  by (operation.Named n) is = absurd (false≢true (sym is))
  by (operation.Within local_action.Basic) is = refl
  by (operation.Within (local_action.Return k)) is = refl
  by operation.Athrow is = refl
  by operation.Monitor is = refl
  by operation.Arraylength is = refl
  by (operation.Newarray kind) is = refl
  by (operation.LoadElement k) is = refl
  by (operation.StoreElement k) is = refl
  by (operation.LdcString units) is = refl

module _ (w : Setup) (ms : List Initialization) (p : Parts) (going : p.ending ≡ None) where
  abbrev s : State
  s = state_of ms p

  loads-by : (fs : List PlacedFrame) (here : Here) → here_of fs ≡ Some here → initialization_on (length fs) ms ≡ None
      → loads_on w.world (listing_of w.versions) s p.ending (stack_of (map active fs) ms) ≡ loads_of w s fs (line_at w.versions here.version here.place)
  loads-by [] here is none = absurd (none-some here is)
  loads-by (f ∷ fs) here is none =
      let same : record { version = f.version; method = f.method; place = f.place } ≡ here = same_Some _ here is in
      ap (λ e. loads_on w.world (listing_of w.versions) s e (stack_of (map active (f ∷ fs)) ms)) going
      ∙ (ap (loads_on w.world (listing_of w.versions) s None) (top-frame ms f fs none)
      ∙ ap (λ (h : Here). loads_of w s (f ∷ fs) (line_at w.versions h.version h.place)) same)

  -- no frame
  pub nothing-loads : here_of p.frames.frames ≡ None → initialization_on (length p.frames.frames) ms ≡ None → loads_none w s ≡ true
  nothing-loads is none =
      ap (λ (classes : List ℕ). length classes == 0)
      (ap (λ e. loads_on w.world (listing_of w.versions) s e s.stack) going ∙ ap (loads_on w.world (listing_of w.versions) s None) (nothing-there w ms p is none))

  -- a line that names nothing
  pub silent-loads : (here : Here) → here_of p.frames.frames ≡ Some here → initialization_on (length p.frames.frames) ms ≡ None
      → named_in (line_at w.versions here.version here.place) ≡ false → loads_none w s ≡ true
  silent-loads here is none unnamed =
      ap (λ (classes : List ℕ). length classes == 0)
      (loads-by p.frames.frames here is none ∙ unnamed-loads w s p.frames.frames (line_at w.versions here.version here.place) unnamed)

  -- one that names something
  module _ (here : Here) (is_named_there : named_in (line_at w.versions here.version here.place) ≡ true)
      (at : here_of p.frames.frames ≡ Some here) (none : initialization_on (length p.frames.frames) ms ≡ None) where
    names : Names (line_at w.versions here.version here.place)
    names = names-there (line_at w.versions here.version here.place) is_named_there

    abbrev n : SymbolicReference
    n = names.kept

    named-loads : loads_in w s ≡ newly_loaded w.world.program p.runtime.shared.loaded n (top_operands p.frames.frames)
    named-loads = loads-by p.frames.frames here at none ∙ by p.frames.frames at where
      by : (fs : List PlacedFrame) → here_of fs ≡ Some here → loads_of w s fs (line_at w.versions here.version here.place) ≡ newly_loaded w.world.program p.runtime.shared.loaded n (top_operands fs)
      by [] is = absurd (none-some here is)
      by (f ∷ fs) is =
          ap (λ lo. classes_loaded_at w.world s (frame_in f) (option_map instruction_in lo)) names.there
          ∙ ap (λ a. loads w.world (operation_as names.line a) s.shared f.operands) names.named

    pub none-loads : (b : Bool) → IfNamed (line_at w.versions here.version here.place) (λ n next. b ≡ is_loaded w.world n p.runtime.shared p.frames) → b ≡ loads_none w s
    none-loads b holds =
        held (line_at w.versions here.version here.place) names (λ n next. b ≡ is_loaded w.world n p.runtime.shared p.frames) holds
        ∙ ap (λ (classes : List ℕ). length classes == 0) (sym named-loads)

    -- the classes are loaded, and nothing else is done
    pub has-loaded : (left : RuntimeView)
        → IfNamed (line_at w.versions here.version here.place) (λ n next. left ≡ runtimes.with_loaded (loaded_for w.world.program n p.runtime.shared p.frames) p.runtime)
        → state_of ms (record p { runtime = left }) ≡ with_classes_loaded (loads_in w s) s
    has-loaded left loaded =
        ap (λ (x : RuntimeView). state_of ms (record p { runtime = x }))
        (held (line_at w.versions here.version here.place) names (λ n next. left ≡ runtimes.with_loaded (loaded_for w.world.program n p.runtime.shared p.frames) p.runtime) loaded)
        ∙ (ap (λ (classes : List ℕ). record s { shared = record s.shared { loaded = s.shared.loaded ++ classes } }) (sym named-loads)
        ∙ sym (with-loaded (loads_in w s) s))

-- ---- where it has answered, it has answered as in one part

pub told-answers : (w : Setup) (lo : Option Line) (p : Parts) (o : Option CodeOutcome) (a : CodeOutcome) → o ≡ Some a
    → IfNamed lo (λ n next. IfSome o (λ a. outcome_in_frame a p.frames ≡ outcome_by_rule (attempts w.world n p.runtime.shared p.frames) p.frames))
    → IfNamed lo (λ n next. outcome_in_frame a p.frames ≡ outcome_by_rule (attempts w.world n p.runtime.shared p.frames) p.frames)
told-answers w lo p o a is answers =
    subst (λ x. IfNamed lo (λ n next. IfSome x (λ b. outcome_in_frame b p.frames ≡ outcome_by_rule (attempts w.world n p.runtime.shared p.frames) p.frames))) is answers

pub told-leaves : (w : Setup) (lo : Option Line) (p : Parts) (o : Option CodeOutcome) (a : CodeOutcome) (left : RuntimeView) → o ≡ Some a
    → IfNamed lo (λ n next. IfSome o (λ a. left ≡ after (done_on (attempts w.world n p.runtime.shared p.frames) p.frames) p.runtime))
    → IfNamed lo (λ n next. left ≡ after (done_on (attempts w.world n p.runtime.shared p.frames) p.frames) p.runtime)
told-leaves w lo p o a left is leaves =
    subst (λ x. IfNamed lo (λ n next. IfSome x (λ b. left ≡ after (done_on (attempts w.world n p.runtime.shared p.frames) p.frames) p.runtime))) is leaves

-- ---- where it has loaded, it has done nothing else

module _ (w : Setup) (ms : List Initialization) (p : Parts) (going : p.ending ≡ None) (here : Here) (is_named_there : named_in (line_at w.versions here.version here.place) ≡ true)
    (at : here_of p.frames.frames ≡ Some here) (none : initialization_on (length p.frames.frames) ms ≡ None) (o : Option CodeOutcome)
    (some : IfNamed (line_at w.versions here.version here.place) (λ n next. is_some o ≡ is_loaded w.world n p.runtime.shared p.frames)) where
  -- whether it has
  pub apart-loads : is_some o ≡ loads_none w (state_of ms p)
  apart-loads = none-loads w ms p going here is_named_there at none (is_some o) some

  module _ (is : o ≡ None) (left : RuntimeView)
      (loads : IfNamed (line_at w.versions here.version here.place) (λ n next. IfNone o (left ≡ runtimes.with_loaded (loaded_for w.world.program n p.runtime.shared p.frames) p.runtime))) where
    pub loaded-apart : state_of ms (record p { runtime = left }) ≡ with_classes_loaded (loads_in w (state_of ms p)) (state_of ms p)
    loaded-apart =
        has-loaded w ms p going here is_named_there at none left
        (subst (λ x. IfNamed (line_at w.versions here.version here.place) (λ n next. IfNone x (left ≡ runtimes.with_loaded (loaded_for w.world.program n p.runtime.shared p.frames) p.runtime)))
        is loads)
