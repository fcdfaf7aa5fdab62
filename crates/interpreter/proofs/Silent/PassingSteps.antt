-- A line that names something and raises nothing, where it loads nothing, is a step of the run.
use Rattle.std.proofs.Common.{◌≡◌, ℕ, Bool, true, false, cond, List, [], ◌∷◌, ◌++◌, length, map, Option, Some, None, refl, sym, ap, subst, ◌∙◌}
use Rattle.std.specs.Prelude.{IfSome, is_none, is_some, nat_le, ◌&&◌}
use Rattle.std.specs.Option.{option_map}
use Rattle.std.proofs.lemmas.Bool.{false≢true}
use Rattle.std.proofs.lemmas.List.{append-nil}
use Rattle.std.proofs.lemmas.Option.{none-some, same_Some}
use Rattle.jf_bytes.proofs.Lists.{empty_from_length}
use Rattle.frame_stack.specs.Widths.{height_of}
use Rattle.frame_stack.specs.FrameLists.{FramesView, PlacedFrame, has_frame, top_operands}
use Rattle.jvm_basic.specs.Outcomes.{can_hold, top_locals, with_top}
use Rattle.jvm_model.specs.declared.state.Shared.{Shared}
use Rattle.jvm_model.specs.declared.state.State.{State}
use Rattle.jvm_model.specs.Running.Applies.{applies, breaks}
use Rattle.jvm_model.specs.Basis.Data.{Back, Breaks, Done, Exits, GoesOn, Initializes, Instruction, Invokes, Locals, Next as Following, Operands, Outcome, Raises, Returns, Subroutine, Target, Listing, Throws, Turn}
use Rattle.jvm_model.specs.declared.instruction.SymbolicReference.{SymbolicReference}
use Rattle.jvm_model.specs.declared.instruction.Operation.TheVariants.{Named}
use Rattle.jvm_model.specs.declared.instruction.Operation.TheVariants as operation
use Rattle.jvm_model.specs.Running.Moves.{turn_settled}
use Rattle.jvm_model.specs.Instructions.SymbolicReference.{newly_loaded}
use Rattle.jvm_model.specs.Instructions.ReferenceRules.{does_named}
use Rattle.jvm_model.specs.Running.Run.{goes_again, loaded_turn, starts, step, steps_at, steps_by, steps_on, tries, with_classes_loaded}
use Rattle.symbolic_references.specs.declared.invoked.Invoked.{Invoked}
use Rattle.symbolic_references.specs.declared.invoked.Invoked.TheVariants as invoked
use Rattle.symbolic_references.specs.declared.invoked.NativeCall.{NativeCall}
use Rattle.member_selection.specs.Answers.{done_on, frames_after, goes_on}
use Rattle.member_selection.specs.Attempts.{attempts, loads_nothing, shared_loaded}
use Rattle.member_selection.specs.Outcomes.{outcome_by_rule}
use Rattle.symbolic_references.specs.Runtimes.{RuntimeView, after}
use Rattle.symbolic_references.specs.Passing.{HasPassed, IfPassed, IsNativeCall, runs_native_call}
use Rattle.prepared_lines.specs.declared.line.Line.{Line}
use Rattle.prepared_code.specs.declared.initializations.Initialization.{Initialization}
use Rattle.prepared_code.specs.declared.parts.Here.{Here}
use Rattle.prepared_code.specs.declared.parts.Parts.{Parts}
use Rattle.activations.specs.Applied.{acts_asked, on_parts, on_top}
use Rattle.instructions.specs.Acts.{attempts_on, awaited_in, is_at_rest, is_named, named_in}
use Rattle.activations.specs.TakenArguments.{done_top}
use Rattle.prepared_code.specs.Lines.{IfNamed, IfNamedBy}
use Rattle.prepared_code.specs.Initializations.{initialization_on, stack_of, state_of, with_initializations}
use Rattle.interpreter.specs.Moves.Passing.{Passes, steps_if}
use Rattle.prepared_code.specs.Ready.{CanRun}
use Rattle.prepared_code.specs.Runs.{IsAtInstruction, steps_from}
use Rattle.prepared_code.specs.States.{active, frame_in, here_of, state_in, state_with}
use Rattle.prepared_code.specs.Versions.{Setup, instruction_in, line_at, operation_as, listing_of}
use Rattle.instructions.proofs.Silent.Leading.{leads-one, quiet-one}
use Rattle.instructions.proofs.Moves.LineSteps.{IsGoing, going-on, rests, step-attempts}
use Rattle.activations.proofs.TurnsCarried.{top-frame}
use Rattle.activations.proofs.ConcludedOutcomes.{stays}
use Rattle.instructions.proofs.Attempts.LineActs.{stays-starts}
use Rattle.instructions.proofs.Attempts.NamedAttempts.{awaits-told, goes-on}
use Rattle.instructions.proofs.Attempts.NamedLaws.{is-named}
use Rattle.instructions.proofs.Silent.PlainSteps.{at-rest, framed, goes}
use Rattle.instructions.proofs.Silent.QuietLines.{IsQuiet, goes-on-quiet, step_by}
use Rattle.interpreter.proofs.Silent.SilentSteps.{passes_none, quiet-silent}

-- ---- a frame that has gone on

-- its rule says where
record GoesSo (q : Outcome) (fs : List PlacedFrame) : Type 0 where
  locals : Locals
  operands : Operands
  is : q ≡ GoesOn locals operands Following
  holds : can_hold operands fs ≡ true

goes-so : (q : Outcome) (fs : List PlacedFrame) → goes_on q fs ≡ true → GoesSo q fs
goes-so (GoesOn l o Following) fs said = record { locals = l; operands = o; is = refl; holds = said }
goes-so (GoesOn l o (Target k)) fs said = absurd (false≢true said)
goes-so (GoesOn l o (Back k)) fs said = absurd (false≢true said)
goes-so Subroutine fs said = absurd (false≢true said)
goes-so (Invokes m args below) fs said = absurd (false≢true said)
goes-so (Returns d) fs said = absurd (false≢true said)
goes-so (Throws r) fs said = absurd (false≢true said)
goes-so (Raises name message) fs said = absurd (false≢true said)
goes-so (Initializes c) fs said = absurd (false≢true said)
goes-so (Exits n) fs said = absurd (false≢true said)
goes-so (Breaks b) fs said = absurd (false≢true said)

-- the frames are as many
same-many : (q : Outcome) (next : ℕ) (fs : List PlacedFrame) → GoesSo q fs → length (frames_after q next fs) ≡ length fs
same-many q next fs so = ap (λ x. length (frames_after x next fs)) so.is ∙ (ap (λ b. length (cond b (with_top so.locals so.operands next fs) fs)) so.holds ∙ by fs) where
  by : (fs : List PlacedFrame) → length (with_top so.locals so.operands next fs) ≡ length fs
  by [] = refl
  by (f ∷ fs) = refl

-- it is what applies
gone-asked : (w : Setup) (line : Line) (q : Outcome) (p : Parts) (fs : List PlacedFrame) → GoesSo q fs
    → state_with (frames_after q line.next fs) p ≡ on_top (λ s f. acts_asked w line s f q) p fs
gone-asked w line q p [] so = absurd (false≢true so.holds)
gone-asked w line q p (f ∷ fs) so =
    ap (λ x. state_with (frames_after x line.next (f ∷ fs)) p) so.is
    ∙ (by (nat_le (height_of so.operands) f.max_stack) so.holds
    ∙ sym (ap (acts_asked w line (state_with fs p) (frame_in f)) so.is))
  where
    by : (b : Bool) → b ≡ true
        → state_with (cond b (with_top so.locals so.operands line.next (f ∷ fs)) (f ∷ fs)) p
        ≡ cond b (state_with (with_top so.locals so.operands line.next (f ∷ fs)) p) (breaks (state_with fs p) (frame_in f) line.instr.at)
    by true e = refl
    by false e = absurd (false≢true e)

-- ---- what stands at a line

module _ (w : Setup) (run : CanRun w) (ms : List Initialization) (here : Here) (line : Line) (kept : SymbolicReference) (old : Parts) (stands : here_of old.frames.frames ≡ Some here)
    (found : line_at w.versions here.version here.place ≡ Some line) (named : line.operation ≡ operation.Named kept) (at_instruction : IsAtInstruction (length old.frames.frames) ms old)
    (nothing : newly_loaded w.world.program old.runtime.shared.loaded kept (top_operands old.frames.frames) ≡ []) where
  abbrev n : SymbolicReference
  n = kept

  abbrev t : Listing
  t = listing_of w.versions

  abbrev pub d : Done
  d = done_on (attempts w.world n old.runtime.shared old.frames) old.frames

  there-by : (Holds : SymbolicReference → ℕ → Type 0) → Holds n line.next → IfNamed (line_at w.versions here.version here.place) Holds
  there-by Holds holds = subst (λ o. IfNamed o Holds) (sym found) (subst (λ a. IfNamedBy a line.next Holds) (sym named) holds)

  named-there : named_in (line_at w.versions here.version here.place) ≡ true
  named-there = ap named_in found ∙ ap is_named named

  has-one : (fs : List PlacedFrame) → here_of fs ≡ Some here → has_frame fs ≡ true
  has-one [] is = absurd (none-some here is)
  has-one (f ∷ fs) is = refl

  going : IsGoing (state_of ms old)
  going = going-on ms old (goes old.ending (has_frame old.frames.frames && is_none (initialization_on (length old.frames.frames) ms)) at_instruction.ending
      (framed (length old.frames.frames) ms old.frames.frames at_instruction.executing refl (has-one old.frames.frames stands)))

  -- ---- the state behind it

  abbrev pub reached : Parts
  reached = record old { runtime = after d old.runtime }

  module _ (q : Outcome) (answers : q ≡ outcome_by_rule (attempts w.world n old.runtime.shared old.frames) old.frames) (goes_on : stays q ≡ true) where
    pub is-attempt : (new : Parts) → state_in new ≡ on_parts (λ s f. acts_asked w line s f q) reached
        → state_of ms new ≡ attempts_on w (state_of ms old) (state_of ms old).stack
    is-attempt new concludes =
        goes-on w ms here line old found named-there stands at_instruction.executing q (after d old.runtime)
        (there-by (λ n next. q ≡ outcome_by_rule (attempts w.world n old.runtime.shared old.frames) old.frames) answers)
        (there-by (λ n next. after d old.runtime ≡ after (done_on (attempts w.world n old.runtime.shared old.frames) old.frames) old.runtime) refl)
        w new refl goes_on concludes

    -- no class is awaited
    pub is-awaited : awaited_in w (state_of ms old) ≡ None
    is-awaited =
        sym (awaits-told w ms here line old found named-there stands at_instruction.executing q (after d old.runtime)
        (there-by (λ n next. q ≡ outcome_by_rule (attempts w.world n old.runtime.shared old.frames) old.frames) answers)
        (there-by (λ n next. after d old.runtime ≡ after (done_on (attempts w.world n old.runtime.shared old.frames) old.frames) old.runtime) refl)
        None (sym (stays-starts q goes_on)))

    pub is-step : (new : Parts) → state_in new ≡ on_parts (λ s f. acts_asked w line s f q) reached → is_at_rest ms new ≡ true
        → state_of ms new ≡ (step w.world t (state_of ms old)).after
    is-step new concludes resting =
        step-attempts w run (state_of ms old) going is-awaited (state_of ms new) (state_of ms new) (is-attempt new concludes) (rests w t ms new resting)

  -- ---- the turn of the step

  abbrev pub under : List PlacedFrame → State
  under fs = record (with_initializations ms (state_with fs old)) { stack = stack_of (map active fs) ms }

  abbrev pub i : Instruction
  i = instruction_in line

  -- its changes are those of what follows from what its rule says
  abbrev pub follows : Done → PlacedFrame → List PlacedFrame → Turn
  follows d f fs = turn_settled w.world t (applies w.world t i d.outcome (record (under fs) { shared = d.shared; output = old.runtime.output ++ d.wrote }) (frame_in f))

  named-turn : (f : PlacedFrame) (fs : List PlacedFrame) → newly_loaded w.world.program old.runtime.shared.loaded n f.operands ≡ []
      → starts (does_named w.world n old.runtime.shared f.locals f.operands).outcome ≡ None
      → step_by w i (Named n) (under fs) (frame_in f) ≡ follows (does_named w.world n old.runtime.shared f.locals f.operands) f fs
  named-turn f fs none starts_none =
      ap (λ classes. let ready = with_classes_loaded classes (under fs) in
      loaded_turn classes (steps_by w.world t i ready (frame_in f) (does_named w.world n ready.shared f.locals f.operands))) none
      ∙ ap (λ o. goes_again w.world t i (under fs) (frame_in f) o (tries w.world t i (under fs) (frame_in f) (does_named w.world n old.runtime.shared f.locals f.operands))) starts_none

  same-done : (fs : List PlacedFrame) → newly_loaded w.world.program old.runtime.shared.loaded n (top_operands fs) ≡ []
      → (f : PlacedFrame) (gs : List PlacedFrame) → fs ≡ f ∷ gs → does_named w.world n old.runtime.shared f.locals f.operands ≡ done_top w n old.runtime.shared (f ∷ gs)
  same-done fs none f gs is =
      let there : newly_loaded w.world.program old.runtime.shared.loaded n f.operands ≡ [] = subst (λ fs. newly_loaded w.world.program old.runtime.shared.loaded n (top_operands fs) ≡ []) is none in
      ap (λ (s : Shared). does_named w.world n s f.locals f.operands)
      (sym (ap (λ more. record old.runtime.shared { loaded = old.runtime.shared.loaded ++ more }) there ∙ ap (λ classes. record old.runtime.shared { loaded = classes }) (append-nil old.runtime.shared.loaded)))

  pub step-turn : (f : PlacedFrame) (fs : List PlacedFrame) → here_of (f ∷ fs) ≡ Some here → initialization_on (length (f ∷ fs)) ms ≡ None
      → newly_loaded w.world.program old.runtime.shared.loaded n f.operands ≡ [] → starts (done_top w n old.runtime.shared (f ∷ fs)).outcome ≡ None
      → step w.world t (with_initializations ms (state_with (f ∷ fs) old)) ≡ follows (done_top w n old.runtime.shared (f ∷ fs)) f fs
  step-turn f fs is free none starts_none =
      let s : State = with_initializations ms (state_with (f ∷ fs) old) in
      let same : record { version = f.version; method = f.method; place = f.place } ≡ here = same_Some _ here is in
      let at : line_at w.versions f.version f.place ≡ Some line = ap (λ (h : Here). line_at w.versions h.version h.place) same ∙ found in
      let does = same-done (f ∷ fs) none f fs refl in
      ap (λ e. steps_on w.world t s e s.stack) at_instruction.ending
      ∙ (ap (λ es. steps_on w.world t s None es) (top-frame ms f fs free)
      ∙ (ap (λ x. steps_at w.world t (under fs) (frame_in f) (option_map instruction_in x)) at
      ∙ (ap (λ a. step_by w i (operation_as line a) (under fs) (frame_in f)) named
      ∙ (named-turn f fs none (ap (λ (d : Done). starts d.outcome) does ∙ starts_none)
      ∙ ap (λ (d : Done). follows d f fs) does))))

  -- ---- a frame that goes on

  goes-quiet : (f : PlacedFrame) (fs : List PlacedFrame) (d : Done) → GoesSo d.outcome (f ∷ fs) → (follows d f fs).changes ≡ []
  goes-quiet f fs d so =
      let u : State = record (under fs) { shared = d.shared; output = old.runtime.output ++ d.wrote } in
      let is : IsQuiet w i d.outcome u (frame_in f) = goes-on-quiet w i d.outcome so.locals so.operands Following u (frame_in f) so.is at_instruction.ending at_instruction.thrown in
      is.quiet

  step-quiet : (fs : List PlacedFrame) → here_of fs ≡ Some here → initialization_on (length fs) ms ≡ None → newly_loaded w.world.program old.runtime.shared.loaded n (top_operands fs) ≡ []
      → GoesSo (done_top w n old.runtime.shared fs).outcome fs → (step w.world t (with_initializations ms (state_with fs old))).changes ≡ []
  step-quiet [] is free none so = absurd (none-some here is)
  step-quiet (f ∷ fs) is free none so =
      ap (λ (x : Turn). x.changes) (step-turn f fs is free none (ap starts so.is)) ∙ goes-quiet f fs (done_top w n old.runtime.shared (f ∷ fs)) so

  pub done-passes : (frames : FramesView) (left : RuntimeView) → HasPassed d line.next old.frames old.runtime frames left → left.shared.loaded ≡ old.runtime.shared.loaded
      → Passes w ms old 1 (record old { frames = frames; runtime = left })
  done-passes frames left went loaded =
      let new : Parts = record old { frames = frames; runtime = left } in
      let so = goes-so d.outcome old.frames.frames went.goes in
      let many : length frames.frames ≡ length old.frames.frames =
      ap (λ (s : FramesView). length s.frames) went.frames ∙ same-many d.outcome line.next old.frames.frames so in
      let has : has_frame frames.frames ≡ true = has-many frames.frames old.frames.frames many (has-one old.frames.frames stands) in
      let concludes : state_in new ≡ on_parts (λ s f. acts_asked w line s f d.outcome) reached =
      ap (λ (s : FramesView). let p : Parts = record new { frames = s } in state_in p) went.frames
      ∙ (ap (λ (r : RuntimeView). state_with (frames_after d.outcome line.next old.frames.frames) (record old { runtime = r })) went.runtime
      ∙ gone-asked w line d.outcome reached old.frames.frames so) in
      let resting = at-rest old.ending old.thrown (has_frame frames.frames && is_none (initialization_on (length frames.frames) ms)) at_instruction.ending at_instruction.thrown
      (framed (length old.frames.frames) ms frames.frames at_instruction.executing many has) in
      let stepped = is-step d.outcome refl (ap stays so.is) new concludes resting in
      record {
        at_instruction = record { ending = at_instruction.ending; thrown = at_instruction.thrown; executing = ap (λ k. initialization_on k ms) many ∙ at_instruction.executing };
        loaded = loaded;
        world = ap (λ (r : RuntimeView). r.world) went.runtime;
        leads = leads-one w (state_of ms old) (state_of ms new) (ap is_some at_instruction.ending) stepped;
        silent = λ k less. quiet-silent w (steps_from w k (state_of ms old))
            (quiet-one w (state_of ms old) (step-quiet old.frames.frames stands at_instruction.executing nothing so) k less);
      }
    where
      has-many : (new old : List PlacedFrame) → length new ≡ length old → has_frame old ≡ true → has_frame new ≡ true
      has-many (g ∷ gs) fs many has = refl
      has-many [] [] many has = has
      has-many [] (f ∷ fs) many has = absurd cc

-- ---- by what the code says of the line

module _ (w : Setup) (run : CanRun w) (ms : List Initialization) (here : Here) (line : Line) (kept : SymbolicReference) (old : Parts) (stands : here_of old.frames.frames ≡ Some here)
    (found : line_at w.versions here.version here.place ≡ Some line) (named : line.operation ≡ operation.Named kept) (at_instruction : IsAtInstruction (length old.frames.frames) ms old)
    (silent : loads_nothing w.world.program old.runtime.shared.loaded kept (top_operands old.frames.frames) ≡ true) where
  pub nothing-new : newly_loaded w.world.program old.runtime.shared.loaded kept (top_operands old.frames.frames) ≡ []
  nothing-new = empty_from_length (newly_loaded w.world.program old.runtime.shared.loaded kept (top_operands old.frames.frames)) silent

  same-loaded : (shared : Shared) → shared ≡ (done_on (attempts w.world kept old.runtime.shared old.frames) old.frames).shared → shared.loaded ≡ old.runtime.shared.loaded
  same-loaded shared is =
      let law = is-named (shared_loaded w.world.program kept old.runtime.shared old.frames) (top_operands old.frames.frames) w kept (top_locals old.frames.frames) in
      ap (λ (s : Shared). s.loaded) is
      ∙ (law.loaded ∙ (ap (λ more. old.runtime.shared.loaded ++ more) nothing-new ∙ append-nil old.runtime.shared.loaded))

  -- an access, or a native method
  pub access-passes : (b : Bool) (frames : FramesView) (left : RuntimeView)
      → IfPassed b (done_on (attempts w.world kept old.runtime.shared old.frames) old.frames) line.next old.frames old.runtime frames left
      → Passes w ms old (steps_if b) (record old { frames = frames; runtime = left })
  access-passes true frames left went =
      done-passes w run ms here line kept old stands found named at_instruction nothing-new frames left went
      (same-loaded left.shared (ap (λ (r : RuntimeView). r.shared) went.runtime))
  access-passes false frames left same =
      subst (λ (f : FramesView). Passes w ms old 0 (record old { frames = f; runtime = left })) (sym same.0)
      (subst (λ (r : RuntimeView). Passes w ms old 0 (record old { runtime = r })) (sym same.1) (passes_none w ms old at_instruction))

  pub native-passes : (b : Bool) (frames : FramesView) (left : RuntimeView) (native : NativeCall)
      → IsNativeCall w.world native (done_on (attempts w.world kept old.runtime.shared old.frames) old.frames) old.runtime.shared old.frames.frames
      → IfPassed b (runs_native_call w.world native old.runtime.shared old.frames.frames) line.next old.frames old.runtime frames left
      → Passes w ms old (steps_if b) (record old { frames = frames; runtime = left })
  native-passes b frames left native call went =
      access-passes b frames left (subst (λ (d : Done). IfPassed b d line.next old.frames old.runtime frames left) (sym call.runs) went)

-- what holds of a line that names something, where it stands
pub held-there : (lo : Option Line) (line : Line) (kept : SymbolicReference) → lo ≡ Some line → line.operation ≡ operation.Named kept → (Holds : SymbolicReference → ℕ → Type 0) → IfNamed lo Holds
    → Holds kept line.next
held-there lo line kept found named Holds holds = subst (λ a. IfNamedBy a line.next Holds) named (subst (λ o. IfNamed o Holds) found holds)

-- what holds of what is invoked, where it is a native method
pub native-there : (o : Option Invoked) (x : Invoked) (n : NativeCall) → o ≡ Some x → x ≡ invoked.Native n → (Holds : Invoked → Type 0) → IfSome o Holds → Holds (invoked.Native n)
native-there o x n is native Holds holds = subst Holds native (subst (λ o. IfSome o Holds) is holds)
