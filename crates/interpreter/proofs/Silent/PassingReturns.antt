-- A return from a version that has no probes and is its method's current one is a step of the run of which nothing is
-- told.
use Rattle.std.proofs.Common.{◌≡◌, ℕ, ◌-◌, true, false, cond, List, [], ◌∷◌, ◌++◌, length, map, Option, Some, None, refl, sym, ap, ◌∙◌, arith, eqb-true}
use Rattle.std.specs.Prelude.{is_none, is_some, ◌==◌, ◌&&◌, ◌||◌}
use Rattle.std.specs.Option.{option_map}
use Rattle.std.proofs.lemmas.Bool.{false≢true}
use Rattle.std.proofs.lemmas.Option.{none-some, same_Some}
use Rattle.jf_bytes.proofs.Tests.{either}
use Rattle.heap_objects.specs.declared.datum.Datum.{Datum}
use Rattle.const_pool.specs.declared.descriptor.Kind.{Kind}
use Rattle.frame_stack.specs.FrameLists.{FramesView, PlacedFrame, has_frame, top_operands}
use Rattle.method_versions.specs.Tables.{is_superseded_in}
use Rattle.jvm_model.specs.declared.due.Due.TheVariants.{Ends, Nothing}
use Rattle.jvm_model.specs.declared.event.EventKind.TheVariants as kind
use Rattle.jvm_model.specs.declared.event.Mark.{Mark}
use Rattle.jvm_model.specs.declared.event.Mark.TheVariants.{Off}
use Rattle.jvm_model.specs.declared.state.Entry.{Entry}
use Rattle.jvm_model.specs.declared.state.State.{State}
use Rattle.jvm_model.specs.declared.instruction.Operation.TheVariants as operation
use Rattle.jvm_model.specs.Running.Applies.{breaks, gives_back, goes, resumes, with_frame}
use Rattle.jvm_model.specs.Basis.Data.{Instruction, Left, Returns, Listing, Turn}
use Rattle.jvm_model.specs.Instructions.LocalRules.{returns}
use Rattle.jvm_model.specs.Running.Moves.{moves_left, move}
use Rattle.jvm_model.specs.Instructions.ObjectRules.{done}
use Rattle.jvm_model.specs.Turns.Pauses.{stop_by, stop_in, unless_off}
use Rattle.jvm_model.specs.Turns.Rest.{classes_loaded_at, loads_on, step_loads}
use Rattle.jvm_model.specs.Instructions.Does.{loads}
use Rattle.jvm_model.specs.Running.Run.{goes_again, starts, step, steps_at, steps_on, tries}
use Rattle.jvm_model.specs.Turns.Told.{Held, helds, mark_now}
use Rattle.jvm_model.specs.Basis.Values.{as_value, with_value}
use Rattle.jvm_model.proofs.Running.QuietSettles.{stops}
use Rattle.prepared_lines.specs.declared.line.LocalAction.TheVariants as local_action
use Rattle.prepared_lines.specs.declared.line.Line.{Line}
use Rattle.prepared_code.specs.declared.initializations.Initialization.{Initialization}
use Rattle.prepared_code.specs.declared.parts.Here.{Here}
use Rattle.prepared_code.specs.declared.parts.Parts.{Parts}
use Rattle.instructions.specs.Acts.{acts, acts_by, attempts_on, is_named, named_in}
use Rattle.activations.specs.Applied.{on_top, resumes_line, returns_or_ends}
use Rattle.prepared_code.specs.Initializations.{initialization_on, stack_of, state_of, with_initializations}
use Rattle.interpreter.specs.Moves.Passing.{AreKeptBy, Passes, caller_line, fits_given, gone_back, on_frames, runs}
use Rattle.prepared_code.specs.Ready.{CanRun}
use Rattle.interpreter.specs.Moves.Quickly.{Attempted}
use Rattle.prepared_code.specs.Runs.{IsAtInstruction}
use Rattle.prepared_code.specs.States.{active, frame_in, here_of, state_with}
use Rattle.prepared_code.specs.Versions.{Setup, instruction_in, line_at, mark_of, next_in, operation_as, listing_of}
use Rattle.instructions.proofs.Initializing.Beneath.{awaits-unnamed, does-beneath, does-there, top-there}
use Rattle.instructions.proofs.Silent.Leading.{leads-one}
use Rattle.instructions.proofs.Moves.LineSteps.{going-on, rests, step-attempts}
use Rattle.activations.proofs.TurnsCarried.{top-frame}
use Rattle.instructions.proofs.Silent.PlainSteps.{at-rest, framed, goes as goes-there}
use Rattle.instructions.proofs.Silent.QuietLines.{goes-rests, step_by}
use Rattle.interpreter.proofs.Silent.SilentSteps.{silent-one}

-- what the code has found: the result, and where its caller goes on
pub record GivesBack (w : Setup) (ms : List Initialization) (here : Here) (k : Option Kind) (fs : List PlacedFrame) (d : Option Datum) (next : ℕ) : Type 0 where
  pub result : returns k (top_operands fs) ≡ Returns d
  pub caller : Line
  pub stands : caller_line w.versions fs ≡ Some caller
  pub goes_on : next_in caller ≡ Some next
  pub holds : fits_given (option_map as_value d) fs ≡ true
  pub executing : initialization_on (length fs - 1) ms ≡ None
  pub current : is_superseded_in w.versions.slots w.versions.current here.version ≡ false

module _ (w : Setup) (run : CanRun w) (ms : List Initialization) (here : Here) (line : Line) (k : Option Kind) (old : Parts) (stands : here_of old.frames.frames ≡ Some here)
    (found : line_at w.versions here.version here.place ≡ Some line) (ends : line.operation ≡ operation.Within (local_action.Return k)) (at_instruction : IsAtInstruction (length old.frames.frames) ms old)
    (d : Option Datum) (next : ℕ) where
  abbrev t : Listing
  t = listing_of w.versions

  abbrev marks : ℕ → Mark
  marks = mark_of w.versions

  abbrev back : List PlacedFrame → List PlacedFrame
  back fs = gone_back (option_map as_value d) next fs

  -- ---- the state behind it

  done-by : (fs : List PlacedFrame) → GivesBack w ms here k fs d next → state_with (back fs) old ≡ on_top (acts w line) old fs
  done-by [] is = absurd (false≢true is.holds)
  done-by (f ∷ []) is = absurd (false≢true is.holds)
  done-by (f ∷ g ∷ fs) is =
      let s : State = state_with (g ∷ fs) old in
      let under : State = record s { stack = map active fs } in
      let o = with_value (option_map as_value d) g.operands in
      sym (ap (acts_by w line s (frame_in f)) ends
      ∙ (ap (returns_or_ends w line s (frame_in f)) is.result
      ∙ (ap (resumes_line under (frame_in g) d) is.stands
      ∙ (ap (goes under (frame_in g) is.caller.instr.at g.locals o) is.goes_on
      ∙ ap (λ b. cond b (with_frame under (record (frame_in g) { place = next; locals = g.locals; operands = o })) (breaks under (frame_in g) is.caller.instr.at)) is.holds))))

  one-less : (fs : List PlacedFrame) → GivesBack w ms here k fs d next → length (back fs) ≡ length fs - 1
  one-less [] is = absurd (false≢true is.holds)
  one-less (f ∷ []) is = absurd (false≢true is.holds)
  one-less (f ∷ g ∷ fs) is = omega arith

  has-one : (fs : List PlacedFrame) → GivesBack w ms here k fs d next → has_frame (back fs) ≡ true
  has-one [] is = absurd (false≢true is.holds)
  has-one (f ∷ []) is = absurd (false≢true is.holds)
  has-one (f ∷ g ∷ fs) is = refl

  had-one : (fs : List PlacedFrame) → here_of fs ≡ Some here → has_frame fs ≡ true
  had-one [] is = absurd (none-some here is)
  had-one (f ∷ fs) is = refl

  -- ---- the turn

  -- without the caller's frame
  abbrev beneath_caller : List PlacedFrame → State
  beneath_caller fs = record (with_initializations ms (state_with fs old)) { output = old.runtime.output ++ [] }

  -- no initialization stands on the caller
  on-caller : (f g : PlacedFrame) (fs : List PlacedFrame) → initialization_on (length (f ∷ g ∷ fs) - 1) ms ≡ None → initialization_on (length (g ∷ fs)) ms ≡ None
  on-caller f g fs none =
      let same : length (g ∷ fs) ≡ length (f ∷ g ∷ fs) - 1 = omega arith in
      ap (λ n. initialization_on n ms) same ∙ none

  gives-rests : (f g : PlacedFrame) (fs : List PlacedFrame) → GivesBack w ms here k (f ∷ g ∷ fs) d next
      → move w.world t (gives_back t (beneath_caller (g ∷ fs)) d (stack_of (map active (g ∷ fs)) ms)) ≡ None
  gives-rests f g fs is =
      let u : State = beneath_caller (g ∷ fs) in
      let under : State = record u { stack = stack_of (map active fs) ms } in
      ap (move w.world t)
      (ap (gives_back t u d) (top-frame ms g fs (on-caller f g fs is.executing))
      ∙ (ap (λ x. resumes under (frame_in g) d (option_map instruction_in x)) is.stands
      ∙ ap (goes under (frame_in g) is.caller.instr.at g.locals (with_value (option_map as_value d) g.operands)) is.goes_on))
      ∙ goes-rests w under (frame_in g) is.caller.instr.at g.locals (with_value (option_map as_value d) g.operands) (Some next) at_instruction.ending at_instruction.thrown

  return-changes : (fs : List PlacedFrame) → here_of fs ≡ Some here → initialization_on (length fs) ms ≡ None → GivesBack w ms here k fs d next
      → (step w.world t (with_initializations ms (state_with fs old))).changes ≡ Left ∷ []
  return-changes [] here_is free is = absurd (false≢true is.holds)
  return-changes (f ∷ []) here_is free is = absurd (false≢true is.holds)
  return-changes (f ∷ g ∷ fs) here_is free is =
      let s : State = with_initializations ms (state_with (f ∷ g ∷ fs) old) in
      let u : State = with_initializations ms (state_with (g ∷ fs) old) in
      let i : Instruction = instruction_in line in
      let same : record { version = f.version; method = f.method; place = f.place } ≡ here = same_Some _ here here_is in
      let at : line_at w.versions f.version f.place ≡ Some line = ap (λ (h : Here). line_at w.versions h.version h.place) same ∙ found in
      let gone : Turn = record { after = gives_back t (beneath_caller (g ∷ fs)) d (stack_of (map active (g ∷ fs)) ms); changes = Left ∷ [] } in
      ap (λ (x : Turn). x.changes)
      (ap (λ e. steps_on w.world t s e s.stack) at_instruction.ending
      ∙ (ap (λ es. steps_on w.world t s None es) (top-frame ms f (g ∷ fs) free)
      ∙ (ap (λ x. steps_at w.world t u (frame_in f) (option_map instruction_in x)) at
      ∙ (ap (λ a. step_by w i (operation_as line a) u (frame_in f)) ends
      ∙ (ap (λ q. goes_again w.world t i u (frame_in f) (starts q) (tries w.world t i u (frame_in f) (done u.shared q))) is.result
      ∙ stops w.world t (moves_left gone.after) gone (gives-rests f g fs is))))))

  -- no class is loaded
  loads-none : (fs : List PlacedFrame) → here_of fs ≡ Some here → initialization_on (length fs) ms ≡ None → step_loads w.world t (with_initializations ms (state_with fs old)) ≡ []
  loads-none [] here_is free = absurd (none-some here here_is)
  loads-none (f ∷ fs) here_is free =
      let s : State = with_initializations ms (state_with (f ∷ fs) old) in
      let u : State = record s { stack = stack_of (map active fs) ms } in
      let same : record { version = f.version; method = f.method; place = f.place } ≡ here = same_Some _ here here_is in
      let at : line_at w.versions f.version f.place ≡ Some line = ap (λ (h : Here). line_at w.versions h.version h.place) same ∙ found in
      ap (λ e. loads_on w.world t s e s.stack) at_instruction.ending
      ∙ (ap (λ es. loads_on w.world t s None es) (top-frame ms f fs free)
      ∙ (ap (λ x. classes_loaded_at w.world u (frame_in f) (option_map instruction_in x)) at
      ∙ ap (λ a. loads w.world (operation_as line a) old.runtime.shared f.operands) ends))

  -- ---- what is told, and what runs

  due-by : (fs : List PlacedFrame) → here_of fs ≡ Some here → initialization_on (length fs) ms ≡ None → marks here.version ≡ Off
      → (stop_in (mark_now marks t) 0 (helds marks (stack_of (map active fs) ms)) (Left ∷ [])).due ≡ Nothing
  due-by [] here_is free off = absurd (none-some here here_is)
  due-by (f ∷ fs) here_is free off =
      let same : record { version = f.version; method = f.method; place = f.place } ≡ here = same_Some _ here here_is in
      let more : List Held = helds marks (stack_of (map active fs) ms) in
      let mine : marks f.version ≡ Off = ap (λ (h : Here). marks h.version) same ∙ off in
      ap (λ es. (stop_in (mark_now marks t) 0 (helds marks es) (Left ∷ [])).due) (top-frame ms f fs free)
      ∙ ap (λ (mark : Mark). (stop_by (record { method = f.method; mark = mark } ∷ more) more 0 (unless_off mark (Ends kind.Leave))
      (record { live = more; passed = 1; due = Nothing })).due) mine

  keeps-by : (fs : List PlacedFrame) → here_of fs ≡ Some here → initialization_on (length fs) ms ≡ None → GivesBack w ms here k fs d next
      → AreKeptBy w (stack_of (map active fs) ms) (stack_of (map active (back fs)) ms)
  keeps-by [] here_is free is version superseded runs_old = absurd (false≢true is.holds)
  keeps-by (f ∷ []) here_is free is version superseded runs_old = absurd (false≢true is.holds)
  keeps-by (f ∷ g ∷ fs) here_is free is version superseded runs_old =
      let same : record { version = f.version; method = f.method; place = f.place } ≡ here = same_Some _ here here_is in
      let rest : List Entry = stack_of (map active fs) ms in
      let below : stack_of (map active (g ∷ fs)) ms ≡ active g ∷ rest = top-frame ms g fs (on-caller f g fs is.executing) in
      let g2 : PlacedFrame = record g { place = next; operands = with_value (option_map as_value d) g.operands } in
      let another : (f.version == version) ≡ false = either (f.version == version)
      (λ on. absurd (false≢true (sym is.current ∙ (ap (λ (h : Here). is_superseded_in w.versions.slots w.versions.current h.version) (sym same)
      ∙ (ap (is_superseded_in w.versions.slots w.versions.current) (eqb-true f.version version on) ∙ superseded)))))
      (λ off. off) in
      ap (runs version) (top-frame ms g2 fs (on-caller f g fs is.executing))
      ∙ (sym (ap (runs version) below)
      ∙ (sym (ap (λ b. b || runs version (stack_of (map active (g ∷ fs)) ms)) another)
      ∙ (sym (ap (runs version) (top-frame ms f (g ∷ fs) free)) ∙ runs_old)))

  -- ---- the step

  module _ (is : GivesBack w ms here k old.frames.frames d next) (frames : FramesView) (are : frames.frames ≡ back old.frames.frames) where
    abbrev new : Parts
    new = on_frames frames old

    unnamed : is_named line.operation ≡ false
    unnamed = ap is_named ends

    free : initialization_on (length frames.frames) ms ≡ None
    free = ap (λ n. initialization_on n ms) (ap length are ∙ one-less old.frames.frames is) ∙ is.executing

    has : has_frame frames.frames ≡ true
    has = ap has_frame are ∙ has-one old.frames.frames is

    attempted : state_of ms new ≡ attempts_on w (state_of ms old) (state_of ms old).stack
    attempted =
        does-beneath w line ms old new here.method old.frames.frames (top-there w ms old here old.frames.frames stands) at_instruction.executing unnamed
        (λ last. is.executing) (ap (λ fs. state_with fs old) are ∙ done-by old.frames.frames is)
        ∙ does-there w ms old line here stands at_instruction.executing found

    stepped : state_of ms new ≡ (step w.world t (state_of ms old)).after
    stepped =
        let going = going-on ms old (goes-there old.ending (has_frame old.frames.frames && is_none (initialization_on (length old.frames.frames) ms)) at_instruction.ending
        (framed (length old.frames.frames) ms old.frames.frames at_instruction.executing refl (had-one old.frames.frames stands))) in
        step-attempts w run (state_of ms old) going
        (awaits-unnamed w ms old here stands at_instruction.executing (ap named_in found ∙ unnamed))
        (state_of ms new) (state_of ms new) attempted
        (rests w t ms new
        (at-rest old.ending old.thrown (has_frame frames.frames && is_none (initialization_on (length frames.frames) ms)) at_instruction.ending at_instruction.thrown
        (framed (length frames.frames) ms frames.frames free refl has)))

    at_instruction-then : IsAtInstruction (length frames.frames) ms new
    at_instruction-then = record { ending = at_instruction.ending; thrown = at_instruction.thrown; executing = free }

    keeps-then : AreKeptBy w (state_of ms old).stack (state_of ms new).stack
    keeps-then version superseded runs_old =
        ap (λ fs. runs version (stack_of (map active fs) ms)) are
        ∙ keeps-by old.frames.frames stands at_instruction.executing is version superseded runs_old

    -- one frame less, and one is left
    pub fewer : length frames.frames ≡ length old.frames.frames - 1
    fewer = ap length are ∙ one-less old.frames.frames is

    pub has-caller : has_frame frames.frames ≡ true
    has-caller = has

    -- whatever its version has
    pub return-attempted : Attempted w ms old new
    return-attempted = record {
      at_instruction = at_instruction-then;
      loaded = refl;
      world = refl;
      loads = loads-none old.frames.frames stands at_instruction.executing;
      awaits = awaits-unnamed w ms old here stands at_instruction.executing (ap named_in found ∙ unnamed);
      made = attempted;
      keeps = keeps-then;
    }

    pub return-passes : marks here.version ≡ Off → Passes w ms old 1 new
    return-passes off = record {
      at_instruction = at_instruction-then;
      loaded = refl;
      world = refl;
      leads = leads-one w (state_of ms old) (state_of ms new) (ap is_some at_instruction.ending) stepped;
      silent = silent-one w (state_of ms old) (record {
        loads = loads-none old.frames.frames stands at_instruction.executing;
        undelivered =
            ap (λ cs. (stop_in (mark_now marks t) 0 (helds marks (state_of ms old).stack) cs).due) (return-changes old.frames.frames stands at_instruction.executing is)
            ∙ due-by old.frames.frames stands at_instruction.executing off;
        keeps = λ version superseded runs_old. ap (λ (z : State). runs version z.stack) (sym stepped) ∙ keeps-then version superseded runs_old;
      });
    }
