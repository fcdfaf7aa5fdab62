-- A throw by which an activation ends and that its caller catches is a step of the run, of which nothing is told where
-- the version that is left has no probes and is its method's current one.
use Rattle.std.proofs.Common.{◌≡◌, ℕ, ◌-◌, Bool, true, false, cond, List, [], ◌∷◌, ◌++◌, length, map, Some, None, refl, sym, ap, ◌∙◌, arith, eqb-true}
use Rattle.std.specs.Prelude.{is_none, is_some, nat_le, ◌==◌, ◌&&◌, ◌||◌}
use Rattle.std.specs.Option.{option_map}
use Rattle.std.proofs.lemmas.Bool.{false≢true}
use Rattle.std.proofs.lemmas.Option.{none-some, same_Some}
use Rattle.jf_bytes.proofs.Tests.{either}
use Rattle.heap_objects.specs.declared.Value.TheVariants.{Ref}
use Rattle.frame_stack.specs.FrameLists.{FramesView, PlacedFrame, has_frame, top_operands}
use Rattle.method_versions.specs.Tables.{is_superseded_in}
use Rattle.jvm_model.specs.declared.due.Due.TheVariants.{Ends, Nothing}
use Rattle.jvm_model.specs.declared.event.EventKind.TheVariants as kind
use Rattle.jvm_model.specs.declared.event.Mark.{Mark}
use Rattle.jvm_model.specs.declared.event.Mark.TheVariants.{Off}
use Rattle.jvm_model.specs.declared.state.Entry.{Entry}
use Rattle.jvm_model.specs.declared.state.Entry.TheVariants.{Active}
use Rattle.jvm_model.specs.declared.state.Frame.{Frame}
use Rattle.jvm_model.specs.declared.state.State.{State}
use Rattle.jvm_model.specs.declared.instruction.Operation.TheVariants as operation
use Rattle.jvm_model.specs.Running.Applies.{breaks, still, throws_at, with_frame}
use Rattle.jvm_model.specs.Basis.Data.{Instruction, Listing, Throws, Turn, Unwound}
use Rattle.jvm_model.specs.Instructions.Does.{loads}
use Rattle.jvm_model.specs.Running.Moves.{throw_caught, handler_for, move, moves, own_at, turn_settled, then_turn}
use Rattle.jvm_model.specs.Instructions.ObjectRules.{done, throws}
use Rattle.jvm_model.specs.Turns.Pauses.{stop_by, stop_in, unless_off}
use Rattle.jvm_model.specs.Turns.Rest.{classes_loaded_at, loads_on, step_loads}
use Rattle.jvm_model.specs.Running.Run.{goes_again, starts, step, steps_at, steps_on, tries}
use Rattle.jvm_model.specs.Basis.SharedState.{class_of}
use Rattle.jvm_model.specs.Turns.Told.{Held, helds, mark_now}
use Rattle.jvm_model.specs.Basis.Values.{ref_of}
use Rattle.jvm_model.proofs.Running.LoopOfMoves.{moved-end, moved-same}
use Rattle.prepared_lines.specs.declared.line.Line.{Line}
use Rattle.prepared_code.specs.declared.initializations.Initialization.{Initialization}
use Rattle.prepared_code.specs.declared.parts.Here.{Here}
use Rattle.prepared_code.specs.declared.parts.Parts.{Parts}
use Rattle.instructions.specs.Acts.{acts, acts_by, attempts_on, is_named, named_in}
use Rattle.activations.specs.Applied.{acts_asked, on_top}
use Rattle.prepared_code.specs.Initializations.{initialization_on, stack_of, state_of, with_initializations}
use Rattle.interpreter.specs.Moves.Passing.{AreKeptBy, Passes, on_frames, runs, steps_if}
use Rattle.activations.specs.Catching.{CatchesBelow, caught_back, caught_if, fits_caught}
use Rattle.prepared_code.specs.Ready.{CanRun}
use Rattle.prepared_code.specs.Runs.{IsAtInstruction, steps_from-zero}
use Rattle.prepared_code.specs.States.{active, frame_in, here_of, state_with}
use Rattle.prepared_code.specs.Versions.{Setup, instruction_in, line_at, mark_of, operation_as, listing_of}
use Rattle.instructions.proofs.Initializing.Beneath.{awaits-unnamed, does-beneath, does-there, top-there}
use Rattle.instructions.proofs.Silent.Leading.{leads-one}
use Rattle.instructions.proofs.Moves.LineSteps.{behind, going-on, step-attempts}
use Rattle.activations.proofs.TurnsCarried.{top-frame}
use Rattle.instructions.proofs.Silent.PlainSteps.{framed, goes as goes-there}
use Rattle.instructions.proofs.Silent.QuietLines.{step_by}
use Rattle.interpreter.proofs.Silent.SilentSteps.{silent-one}

-- ---- the moves behind a throw

module _ (w : Setup) (s : State) (r target : ℕ) (f g : Frame) (rest : List Entry) (ending : s.ending ≡ None) (thrown : s.thrown ≡ Some r) (stack : s.stack ≡ Active f ∷ Active g ∷ rest)
    (own : handler_for w.world (class_of w.world.program s.shared r) f.place ((listing_of w.versions).handlers f.version) ≡ None)
    (below : handler_for w.world (class_of w.world.program s.shared r) g.place ((listing_of w.versions).handlers g.version) ≡ Some target)
    (fits : nat_le 1 g.max_stack ≡ true) where
  abbrev run_text : Listing
  run_text = listing_of w.versions

  -- where the caller goes on
  abbrev pub back : State
  back = record s { thrown = None; stack = Active (record g { place = target; operands = Ref r ∷ [] }) ∷ rest }

  abbrev left : State
  left = record s { stack = Active g ∷ rest }

  abbrev unwinds : Turn
  unwinds = record { after = left; changes = Unwound ∷ [] }

  first : move w.world run_text s ≡ Some unwinds
  first =
      ap (λ e. moves w.world run_text s e s.thrown s.stack) ending
      ∙ (ap (λ o. moves w.world run_text s None o s.stack) thrown
      ∙ (ap (moves w.world run_text s None (Some r)) stack
      ∙ ap (λ o. Some (throw_caught w.world run_text left r f o)) own))

  second : move w.world run_text left ≡ Some (still back)
  second =
      let under : State = record s { stack = rest } in
      let free : State = record under { thrown = None } in
      ap (λ e. moves w.world run_text left e s.thrown (Active g ∷ rest)) ending
      ∙ (ap (λ o. moves w.world run_text left None o (Active g ∷ rest)) thrown
      ∙ (ap (λ o. Some (throw_caught w.world run_text under r g o)) below
      ∙ ap (λ b. Some (still (cond b (with_frame free (record g { place = target; operands = Ref r ∷ [] })) (breaks free g (own_at run_text g))))) fits))

  third : move w.world run_text back ≡ None
  third = ap (λ e. moves w.world run_text back e None back.stack) ending

  pub settles-back : turn_settled w.world run_text (still s) ≡ record { after = back; changes = Unwound ∷ [] }
  settles-back =
      sym (moved-same w.world run_text (still s) unwinds first)
      ∙ (sym (moved-same w.world run_text (then_turn (still s) unwinds) (still back) second)
      ∙ moved-end w.world run_text (then_turn (then_turn (still s) unwinds) (still back)) third)

-- ---- at an athrow

module _ (w : Setup) (run : CanRun w) (ms : List Initialization) (here : Here) (line : Line) (old : Parts) (stands : here_of old.frames.frames ≡ Some here)
    (found : line_at w.versions here.version here.place ≡ Some line) (ends : line.operation ≡ operation.Athrow) (at_instruction : IsAtInstruction (length old.frames.frames) ms old)
    (r target : ℕ) where
  abbrev t : Listing
  t = listing_of w.versions

  abbrev marks : ℕ → Mark
  marks = mark_of w.versions

  abbrev class : ℕ
  class = class_of w.world.program old.runtime.shared r

  abbrev Caught : List PlacedFrame → Type 0
  Caught fs = CatchesBelow w ms here fs class target

  abbrev IsThrown : List PlacedFrame → Type 0
  IsThrown fs = throws w.world old.runtime.shared (ref_of (top_operands fs)) ≡ Throws r

  abbrev mid : Parts
  mid = record old { thrown = Some r }

  -- no initialization stands on the caller
  on-caller : (f g : PlacedFrame) (fs : List PlacedFrame) → initialization_on (length (f ∷ g ∷ fs) - 1) ms ≡ None → initialization_on (length (g ∷ fs)) ms ≡ None
  on-caller f g fs none =
      let same : length (g ∷ fs) ≡ length (f ∷ g ∷ fs) - 1 = omega arith in
      ap (λ n. initialization_on n ms) same ∙ none

  -- ---- what is thrown

  thrown-by : (fs : List PlacedFrame) → here_of fs ≡ Some here → IsThrown fs → state_with fs mid ≡ on_top (acts w line) old fs
  thrown-by [] here_is is = absurd (none-some here here_is)
  thrown-by (f ∷ fs) here_is is =
      sym (ap (acts_by w line (state_with fs old) (frame_in f)) ends ∙ ap (acts_asked w line (state_with fs old) (frame_in f)) is)

  -- ---- the moves

  -- the state is that of a throw
  module _ (f g : PlacedFrame) (fs : List PlacedFrame) (here_is : here_of (f ∷ g ∷ fs) ≡ Some here) (is : Caught (f ∷ g ∷ fs)) (fits : fits_caught (f ∷ g ∷ fs) ≡ true) where
    abbrev g2 : PlacedFrame
    g2 = record g { place = target; operands = Ref r ∷ [] }

    abbrev rest : List Entry
    rest = stack_of (map active fs) ms

    own-there : handler_for w.world class f.place (t.handlers f.version) ≡ None
    own-there = ap (λ (h : Here). handler_for w.world class h.place (t.handlers h.version)) (same_Some _ here here_is) ∙ is.own

    settles-by : (s : State) → s.ending ≡ None → s.thrown ≡ Some r → s.shared ≡ old.runtime.shared → s.stack ≡ active f ∷ active g ∷ rest
        → turn_settled w.world t (still s) ≡ record { after = record s { thrown = None; stack = active g2 ∷ rest }; changes = Unwound ∷ [] }
    settles-by s ending thrown shared stack =
        settles-back w s r target (frame_in f) (frame_in g) rest ending thrown stack
        (ap (λ x. handler_for w.world (class_of w.world.program x r) f.place (t.handlers f.version)) shared ∙ own-there)
        (ap (λ x. handler_for w.world (class_of w.world.program x r) g.place (t.handlers g.version)) shared ∙ is.caller) fits

  -- behind them
  settles-there : (fs : List PlacedFrame) → here_of fs ≡ Some here → initialization_on (length fs) ms ≡ None → Caught fs → fits_caught fs ≡ true
      → with_initializations ms (state_with (caught_back r target fs) old) ≡ behind w (with_initializations ms (state_with fs mid))
  settles-there [] here_is free is fits = absurd (false≢true fits)
  settles-there (f ∷ []) here_is free is fits = absurd (false≢true fits)
  settles-there (f ∷ g ∷ fs) here_is free is fits =
      let s : State = with_initializations ms (state_with (f ∷ g ∷ fs) mid) in
      let base : State = with_initializations ms (state_with fs old) in
      let caller = on-caller f g fs is.executing in
      let g2 : PlacedFrame = record g { place = target; operands = Ref r ∷ [] } in
      ap (λ es. let x : State = record base { stack = es } in x) (top-frame ms g2 fs caller)
      ∙ (ap (λ o. let x : State = record base { thrown = o; stack = active g2 ∷ stack_of (map active fs) ms } in x) at_instruction.thrown
      ∙ sym (ap (λ (x : Turn). x.after)
      (settles-by f g fs here_is is fits s at_instruction.ending refl refl (top-frame ms f (g ∷ fs) free ∙ ap (λ es. active f ∷ es) (top-frame ms g fs caller)))))

  -- ---- the turn

  throw-changes : (fs : List PlacedFrame) → here_of fs ≡ Some here → initialization_on (length fs) ms ≡ None → Caught fs → fits_caught fs ≡ true → IsThrown fs
      → (step w.world t (with_initializations ms (state_with fs old))).changes ≡ Unwound ∷ []
  throw-changes [] here_is free is fits thrown = absurd (false≢true fits)
  throw-changes (f ∷ []) here_is free is fits thrown = absurd (false≢true fits)
  throw-changes (f ∷ g ∷ fs) here_is free is fits thrown =
      let s : State = with_initializations ms (state_with (f ∷ g ∷ fs) old) in
      let u : State = with_initializations ms (state_with (g ∷ fs) old) in
      let i : Instruction = instruction_in line in
      let same : record { version = f.version; method = f.method; place = f.place } ≡ here = same_Some _ here here_is in
      let at : line_at w.versions f.version f.place ≡ Some line = ap (λ (h : Here). line_at w.versions h.version h.place) same ∙ found in
      let thrown_state : State = throws_at (record u { output = old.runtime.output ++ [] }) (frame_in f) (record { shared = old.runtime.shared; reference = r }) in
      ap (λ (x : Turn). x.changes)
      (ap (λ e. steps_on w.world t s e s.stack) at_instruction.ending
      ∙ (ap (λ es. steps_on w.world t s None es) (top-frame ms f (g ∷ fs) free)
      ∙ (ap (λ x. steps_at w.world t u (frame_in f) (option_map instruction_in x)) at
      ∙ (ap (λ a. step_by w i (operation_as line a) u (frame_in f)) ends
      ∙ (ap (λ q. goes_again w.world t i u (frame_in f) (starts q) (tries w.world t i u (frame_in f) (done u.shared q))) thrown
      ∙ settles-by f g fs here_is is fits thrown_state at_instruction.ending refl refl (ap (λ es. active f ∷ es) (top-frame ms g fs (on-caller f g fs is.executing))))))))

  -- no class is loaded
  loads-none : (fs : List PlacedFrame) → here_of fs ≡ Some here → initialization_on (length fs) ms ≡ None → step_loads w.world t (with_initializations ms (state_with fs old)) ≡ []
  loads-none [] here_is free = absurd (none-some here here_is)
  loads-none (f ∷ fs) here_is free =
      let s : State = with_initializations ms (state_with (f ∷ fs) old) in
      let u : State = record s { stack = stack_of (map active fs) ms } in
      let same : record { version = f.version; method = f.method; place = f.place } ≡ here = same_Some _ here here_is in
      let at : line_at w.versions f.version f.place ≡ Some line = ap (λ (h : Here). line_at w.versions h.version h.place) same ∙ found in
      ap (λ e. loads_on w.world t s e s.stack) at_instruction.ending
      ∙ (ap (λ es. loads_on w.world t s None es) (top-frame ms f fs free)
      ∙ (ap (λ x. classes_loaded_at w.world u (frame_in f) (option_map instruction_in x)) at
      ∙ ap (λ a. loads w.world (operation_as line a) old.runtime.shared f.operands) ends))

  -- ---- what is told, and what runs

  due-by : (fs : List PlacedFrame) → here_of fs ≡ Some here → initialization_on (length fs) ms ≡ None → marks here.version ≡ Off
      → (stop_in (mark_now marks t) 0 (helds marks (stack_of (map active fs) ms)) (Unwound ∷ [])).due ≡ Nothing
  due-by [] here_is free off = absurd (none-some here here_is)
  due-by (f ∷ fs) here_is free off =
      let same : record { version = f.version; method = f.method; place = f.place } ≡ here = same_Some _ here here_is in
      let more : List Held = helds marks (stack_of (map active fs) ms) in
      let mine : marks f.version ≡ Off = ap (λ (h : Here). marks h.version) same ∙ off in
      ap (λ es. (stop_in (mark_now marks t) 0 (helds marks es) (Unwound ∷ [])).due) (top-frame ms f fs free)
      ∙ ap (λ (mark : Mark). (stop_by (record { method = f.method; mark = mark } ∷ more) more 0 (unless_off mark (Ends kind.Unwind))
      (record { live = more; passed = 1; due = Nothing })).due) mine

  keeps-by : (fs : List PlacedFrame) → here_of fs ≡ Some here → initialization_on (length fs) ms ≡ None → Caught fs → fits_caught fs ≡ true
      → AreKeptBy w (stack_of (map active fs) ms) (stack_of (map active (caught_back r target fs)) ms)
  keeps-by [] here_is free is fits version superseded runs_old = absurd (false≢true fits)
  keeps-by (f ∷ []) here_is free is fits version superseded runs_old = absurd (false≢true fits)
  keeps-by (f ∷ g ∷ fs) here_is free is fits version superseded runs_old =
      let same : record { version = f.version; method = f.method; place = f.place } ≡ here = same_Some _ here here_is in
      let rest : List Entry = stack_of (map active fs) ms in
      let below : stack_of (map active (g ∷ fs)) ms ≡ active g ∷ rest = top-frame ms g fs (on-caller f g fs is.executing) in
      let g2 : PlacedFrame = record g { place = target; operands = Ref r ∷ [] } in
      let another : (f.version == version) ≡ false = either (f.version == version)
      (λ on. absurd (false≢true (sym is.current ∙ (ap (λ (h : Here). is_superseded_in w.versions.slots w.versions.current h.version) (sym same)
      ∙ (ap (is_superseded_in w.versions.slots w.versions.current) (eqb-true f.version version on) ∙ superseded)))))
      (λ off. off) in
      ap (runs version) (top-frame ms g2 fs (on-caller f g fs is.executing))
      ∙ (sym (ap (runs version) below)
      ∙ (sym (ap (λ b. b || runs version (stack_of (map active (g ∷ fs)) ms)) another)
      ∙ (sym (ap (runs version) (top-frame ms f (g ∷ fs) free)) ∙ runs_old)))

  -- ---- the step

  had-one : (fs : List PlacedFrame) → here_of fs ≡ Some here → has_frame fs ≡ true
  had-one [] is = absurd (none-some here is)
  had-one (f ∷ fs) is = refl

  one-less : (fs : List PlacedFrame) → fits_caught fs ≡ true → length (caught_back r target fs) ≡ length fs - 1
  one-less [] fits = absurd (false≢true fits)
  one-less (f ∷ []) fits = absurd (false≢true fits)
  one-less (f ∷ g ∷ fs) fits = omega arith

  pub throw-passes : Caught old.frames.frames → fits_caught old.frames.frames ≡ true → IsThrown old.frames.frames
      → (frames : FramesView) → frames.frames ≡ caught_back r target old.frames.frames → Passes w ms old 1 (on_frames frames old)
  throw-passes is fits thrown frames are =
      let new : Parts = on_frames frames old in
      let unnamed : is_named line.operation ≡ false = ap is_named ends in
      let attempted : state_of ms mid ≡ attempts_on w (state_of ms old) (state_of ms old).stack =
      does-beneath w line ms old mid here.method old.frames.frames (top-there w ms old here old.frames.frames stands) at_instruction.executing unnamed
      (λ last. is.executing) (thrown-by old.frames.frames stands thrown)
      ∙ does-there w ms old line here stands at_instruction.executing found in
      let going = going-on ms old (goes-there old.ending (has_frame old.frames.frames && is_none (initialization_on (length old.frames.frames) ms)) at_instruction.ending
      (framed (length old.frames.frames) ms old.frames.frames at_instruction.executing refl (had-one old.frames.frames stands))) in
      let settles : state_of ms new ≡ behind w (state_of ms mid) =
      ap (λ fs. with_initializations ms (state_with fs old)) are ∙ settles-there old.frames.frames stands at_instruction.executing is fits in
      let stepped : state_of ms new ≡ (step w.world t (state_of ms old)).after =
      step-attempts w run (state_of ms old) going
      (awaits-unnamed w ms old here stands at_instruction.executing (ap named_in found ∙ unnamed))
      (state_of ms mid) (state_of ms new) attempted settles in
      record {
        at_instruction = record { ending = at_instruction.ending; thrown = at_instruction.thrown; executing = ap (λ n. initialization_on n ms) (ap length are ∙ one-less old.frames.frames fits) ∙ is.executing };
        loaded = refl;
        world = refl;
        leads = leads-one w (state_of ms old) (state_of ms new) (ap is_some at_instruction.ending) stepped;
        silent = silent-one w (state_of ms old) (record {
          loads = loads-none old.frames.frames stands at_instruction.executing;
          undelivered =
              ap (λ cs. (stop_in (mark_now marks t) 0 (helds marks (state_of ms old).stack) cs).due) (throw-changes old.frames.frames stands at_instruction.executing is fits thrown)
              ∙ due-by old.frames.frames stands at_instruction.executing is.off;
          keeps = λ version superseded runs_old.
              ap (λ (z : State). runs version z.stack) (sym stepped)
              ∙ (ap (λ fs. runs version (stack_of (map active fs) ms)) are
              ∙ keeps-by old.frames.frames stands at_instruction.executing is fits version superseded runs_old);
        });
      }

  -- or nothing was done
  pub caught-passes : (b : Bool) (frames : FramesView) → Caught old.frames.frames → IsThrown old.frames.frames → (b ≡ true → fits_caught old.frames.frames ≡ true)
      → frames.frames ≡ caught_if b r target old.frames.frames → Passes w ms old (steps_if b) (on_frames frames old)
  caught-passes true frames is thrown fits are = throw-passes is (fits refl) thrown frames are
  caught-passes false frames is thrown fits are = record {
    at_instruction = record { ending = at_instruction.ending; thrown = at_instruction.thrown; executing = ap (λ fs. initialization_on (length fs) ms) are ∙ at_instruction.executing };
    loaded = refl;
    world = refl;
    leads = record {
      made = ap (λ fs. with_initializations ms (state_with fs old)) are ∙ sym (steps_from-zero w (state_of ms old));
      before = λ k less. absurd (omega arith);
    };
    silent = λ k less. absurd (omega arith);
  }
