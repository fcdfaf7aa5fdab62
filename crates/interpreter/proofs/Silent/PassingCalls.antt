-- A call of a method whose current version has no probes is a step of the run of which nothing is told.
use Rattle.std.proofs.Common.{◌≡◌, ℕ, suc, Bool, true, false, cond, List, [], ◌∷◌, ◌++◌, length, map, take, drop, Option, Some, None, refl, sym, ap, subst, ◌∙◌, arith}
use Rattle.std.specs.Prelude.{is_none, is_some, nat_le, nat_lt, not, reverse, ◌==◌, ◌&&◌, ◌||◌}
use Rattle.std.specs.Option.{IfSome, option_map}
use Rattle.std.proofs.lemmas.Bool.{and_parts, false≢true}
use Rattle.std.proofs.lemmas.List.{append-nil}
use Rattle.std.proofs.lemmas.Option.{none-some, same_Some}
use Rattle.std.proofs.Math.Bool.{or-true}
use Rattle.heap_objects.specs.declared.Value.{Value}
use Rattle.frame_stack.specs.Widths.{height_of}
use Rattle.frame_stack.specs.FrameLists.{FramesView, PlacedFrame, has_frame, top_of, top_operands, without_arguments}
use Rattle.jvm_basic.specs.Outcomes.{top_locals}
use Rattle.jvm_model.specs.declared.due.Due.{Due}
use Rattle.jvm_model.specs.declared.due.Due.TheVariants.{Begins, Nothing}
use Rattle.jvm_model.specs.declared.event.Mark.{Mark}
use Rattle.jvm_model.specs.declared.event.Mark.TheVariants.{Off, Plain, Root}
use Rattle.jvm_model.specs.declared.state.Entry.{Entry}
use Rattle.jvm_model.specs.declared.state.Shared.{Shared}
use Rattle.jvm_model.specs.declared.state.State.{State}
use Rattle.jvm_model.specs.Running.Applies.{begins, begins_beside, breaks, has_room, invocation_turn, live_in, most_live, new_frame, still, throws_at, with_frame}
use Rattle.jvm_model.specs.Basis.Data.{Began, Datum, Done, Invokes, Operands, Listing, Turn}
use Rattle.jvm_model.specs.declared.instruction.SymbolicReference.{SymbolicReference}
use Rattle.jvm_model.specs.declared.instruction.Operation.TheVariants as operation
use Rattle.jvm_model.specs.Instructions.Does.{loads}
use Rattle.jvm_model.specs.Running.Moves.{moves_left, turn_settled}
use Rattle.jvm_model.specs.Instructions.SymbolicReference.{newly_loaded}
use Rattle.jvm_model.specs.Turns.Pauses.{stop_by, stop_in, unless_off}
use Rattle.jvm_model.specs.Basis.Programs.{max_locals_of}
use Rattle.jvm_model.specs.Turns.Rest.{classes_loaded_at, loads_on, step_loads}
use Rattle.jvm_model.specs.Rewriting.Images.{is_off}
use Rattle.jvm_model.specs.Running.Run.{starts, step}
use Rattle.jvm_model.specs.Basis.SharedState.{exception_raised, stack_overflow}
use Rattle.jvm_model.specs.Turns.Told.{Held, helds, mark_now}
use Rattle.jvm_model.specs.Basis.Values.{arguments_spread}
use Rattle.jvm_model.proofs.Running.QuietSettles.{stops}
use Rattle.symbolic_references.specs.declared.invoked.Call.{Call}
use Rattle.member_selection.specs.Answers.{done_on}
use Rattle.member_selection.specs.Attempts.{attempts, shared_loaded}
use Rattle.symbolic_references.specs.Passing.{IsCall}
use Rattle.symbolic_references.specs.Runtimes.{after}
use Rattle.member_selection.specs.Targets.{data_in}
use Rattle.activations.proofs.Arguments.{length-data, height-reverse, length-slots, spread-data}
use Rattle.prepared_lines.specs.declared.line.Line.{Line}
use Rattle.prepared_code.specs.declared.initializations.Initialization.{Initialization}
use Rattle.prepared_code.specs.declared.parts.Here.{Here}
use Rattle.prepared_code.specs.declared.parts.Parts.{Parts}
use Rattle.activations.specs.Arguments.{begun_frame, can_begin, with_begun}
use Rattle.activations.specs.Applied.{IsTop, acts_asked, on_parts}
use Rattle.activations.specs.TakenArguments.{Takes, done_top}
use Rattle.activations.specs.Invoking.{method_called, may_begin}
use Rattle.prepared_code.specs.Initializations.{initialization_on, stack_of, state_of, with_initializations}
use Rattle.interpreter.specs.Moves.Passing.{AreKeptBy, Passes, on_frames, runs, steps_if}
use Rattle.prepared_code.specs.Ready.{CanRun}
use Rattle.interpreter.specs.Moves.Quickly.{Attempted, TriesIf, TriesQuickly}
use Rattle.interpreter.specs.Moves.Onward.{GoesOnward, begun_due}
use Rattle.interpreter.specs.Moves.Trying.{returns_by}
use Rattle.interpreter.proofs.Moves.QuickSteps.{begins-quickly, has-here, no-return}
use Rattle.prepared_code.specs.Runs.{IsAtInstruction, steps_from-zero}
use Rattle.prepared_code.specs.States.{active, frame_in, here_of, state_in, state_with}
use Rattle.prepared_code.specs.Versions.{Setup, current_of, instruction_in, line_at, mark_of, operation_as, listing_of}
use Rattle.activations.proofs.Callees.{live-is, same-length}
use Rattle.instructions.proofs.Silent.Leading.{leads-one}
use Rattle.activations.proofs.TurnsCarried.{top-frame}
use Rattle.prepared_code.proofs.Initializing.InitializingStacks.{live-stack, none-more}
use Rattle.activations.proofs.ConcludedOutcomes.{invokes-is}
use Rattle.instructions.proofs.Attempts.NamedLaws.{Asks, is-named}
use Rattle.interpreter.proofs.Silent.PassingSteps.{follows, is-attempt, is-awaited, is-step, reached, step-turn, under}
use Rattle.instructions.proofs.Silent.PlainSteps.{at-rest, framed}
use Rattle.instructions.proofs.Silent.QuietLines.{with-frame-rests}
use Rattle.interpreter.proofs.Silent.SilentSteps.{silent-one}

is-top : (here : Here) (fs : List PlacedFrame) → here_of fs ≡ Some here → IsTop here.method fs
is-top here [] is = absurd (none-some here is)
is-top here (f ∷ fs) is = ap (λ (h : Here). h.method) (sym (same_Some _ here is))

-- ---- the arguments fit

module _ (w : Setup) (m : ℕ) (args : List Datum) (below : Operands) (f : PlacedFrame) (fs : List PlacedFrame) (takes : Takes f.operands args below) (count : ℕ) (many : length args ≡ count) where
  abbrev values : List Value
  values = reverse (take (length takes.kinds) f.operands)

  kinds-many : length takes.kinds ≡ count
  kinds-many = sym (same-length takes.kinds values args takes.are) ∙ many

  spread-long : length (arguments_spread args) ≡ height_of (take count f.operands)
  spread-long =
      ap length (spread-data takes.kinds values args takes.are)
      ∙ (length-slots values ∙ (height-reverse (take (length takes.kinds) f.operands) ∙ ap (λ k. height_of (take k f.operands)) kinds-many))

  has-room : can_begin w.world m count (f ∷ fs) ≡ true → has_room w.world m args ≡ true
  has-room can =
      ap (λ k. nat_le k (max_locals_of w.world m)) spread-long
      ∙ (and_parts (nat_le count (length f.operands)) (nat_le (height_of (take count f.operands)) (max_locals_of w.world m)) can).1

-- ---- at a line

module _ (w : Setup) (run : CanRun w) (ms : List Initialization) (here : Here) (line : Line) (kept : SymbolicReference) (old : Parts) (stands : here_of old.frames.frames ≡ Some here)
    (found : line_at w.versions here.version here.place ≡ Some line) (named : line.operation ≡ operation.Named kept) (at_instruction : IsAtInstruction (length old.frames.frames) ms old)
    (nothing : newly_loaded w.world.program old.runtime.shared.loaded kept (top_operands old.frames.frames) ≡ []) (c : Call) where
  abbrev n : SymbolicReference
  n = kept

  abbrev t : Listing
  t = listing_of w.versions

  abbrev marks : ℕ → Mark
  marks = mark_of w.versions

  -- no class is loaded
  loads-none : (fs : List PlacedFrame) → here_of fs ≡ Some here → initialization_on (length fs) ms ≡ None → newly_loaded w.world.program old.runtime.shared.loaded n (top_operands fs) ≡ []
      → step_loads w.world t (with_initializations ms (state_with fs old)) ≡ []
  loads-none [] is free none = absurd (none-some here is)
  loads-none (f ∷ fs) is free none =
      let s : State = with_initializations ms (state_with (f ∷ fs) old) in
      let u : State = record s { stack = stack_of (map active fs) ms } in
      let same : record { version = f.version; method = f.method; place = f.place } ≡ here = same_Some _ here is in
      let at : line_at w.versions f.version f.place ≡ Some line = ap (λ (h : Here). line_at w.versions h.version h.place) same ∙ found in
      ap (λ e. loads_on w.world t s e s.stack) at_instruction.ending
      ∙ (ap (λ es. loads_on w.world t s None es) (top-frame ms f fs free)
      ∙ (ap (λ x. classes_loaded_at w.world u (frame_in f) (option_map instruction_in x)) at
      ∙ (ap (λ a. loads w.world (operation_as line a) old.runtime.shared f.operands) named ∙ none)))

  -- ---- the turn

  module _ (f : PlacedFrame) (fs : List PlacedFrame) (args : List Datum) (below : Operands) where
    abbrev u : State
    u = record (under w run ms here line kept old stands found named at_instruction nothing fs) { shared = old.runtime.shared; output = old.runtime.output ++ [] }

    abbrev begun : Turn
    begun = begins w.world t u (frame_in f) c.method args below

    invokes-begins : has_room w.world c.method args ≡ true → nat_lt (suc (length fs)) most_live ≡ true
        → invocation_turn w.world t (instruction_in line) u (frame_in f) c.method args below ≡ begun
    invokes-begins room few =
        ap (λ b. cond b (begins_beside w.world t u (frame_in f) c.method args below (suc (live_in (stack_of (map active fs) ms)))) (still (breaks u (frame_in f) line.instr.at))) room
        ∙ (ap (λ k. begins_beside w.world t u (frame_in f) c.method args below (suc k)) (live-stack (map active fs) ms ∙ live-is fs)
        ∙ ap (λ b. cond b begun (still (throws_at u (frame_in f) (exception_raised w.world u.shared stack_overflow None)))) few)

    settles-begun : turn_settled w.world t begun ≡ begun
    settles-begun =
        stops w.world t (moves_left begun.after) begun
        (with-frame-rests w (with_frame u (record (frame_in f) { operands = below })) (new_frame w.world t c.method args) at_instruction.ending at_instruction.thrown)

  call-changes : (fs : List PlacedFrame) → here_of fs ≡ Some here → initialization_on (length fs) ms ≡ None → newly_loaded w.world.program old.runtime.shared.loaded n (top_operands fs) ≡ []
      → IsCall c (done_top w n old.runtime.shared fs) old.runtime.shared fs → may_begin fs ≡ true → can_begin w.world c.method c.count fs ≡ true
      → (step w.world t (with_initializations ms (state_with fs old))).changes ≡ Began c.method ∷ []
  call-changes [] is free none call may can = absurd (none-some here is)
  call-changes (f ∷ fs) is free none call may can =
      let d : Done = done_top w n old.runtime.shared (f ∷ fs) in
      let ready : Shared = record old.runtime.shared { loaded = old.runtime.shared.loaded ++ newly_loaded w.world.program old.runtime.shared.loaded n f.operands } in
      let law = is-named ready f.operands w n f.locals in
      let args : List Datum = data_in c.count f.operands in
      let below : Operands = drop c.count f.operands in
      let takes : Takes f.operands args below = subst (λ (d : Done). Asks d.shared f.operands d.outcome) call.invokes law.asks in
      let room = has-room w c.method args below f fs takes c.count (length-data c.count f.operands call.within) can in
      ap (λ (x : Turn). x.changes)
      (step-turn w run ms here line kept old stands found named at_instruction nothing f fs is free none (ap (λ (d : Done). starts d.outcome) call.invokes)
      ∙ (ap (λ (d : Done). follows w run ms here line kept old stands found named at_instruction nothing d f fs) call.invokes
      ∙ (ap (turn_settled w.world t) (invokes-begins f fs args below room may) ∙ settles-begun f fs args below)))

  -- ---- what runs goes on

  keeps-by : (fs : List PlacedFrame) → here_of fs ≡ Some here → initialization_on (length fs) ms ≡ None
      → AreKeptBy w (stack_of (map active fs) ms) (stack_of (map active (with_begun true w c.method c.count fs)) ms)
  keeps-by [] is free k superseded runs_old = absurd (none-some here is)
  keeps-by (f ∷ fs) is free k superseded runs_old =
      let g : PlacedFrame = begun_frame w c.method c.count (f ∷ fs) in
      let f2 : PlacedFrame = record f { operands = drop c.count f.operands } in
      let rest : List Entry = stack_of (map active fs) ms in
      ap (runs k) (top-frame ms g (f2 ∷ fs) (none-more (length (f ∷ fs)) ms free))
      ∙ (ap (λ es. g.version == k || runs k es) (top-frame ms f2 fs free)
      ∙ (ap (λ b. g.version == k || b) (sym (ap (runs k) (top-frame ms f fs free)) ∙ runs_old)
      ∙ or-true (g.version == k)))

  -- ---- the step

  length-without : (fs : List PlacedFrame) → length (without_arguments c.count fs) ≡ length fs
  length-without [] = refl
  length-without (f ∷ fs) = refl

  module _ (call : IsCall c (done_on (attempts w.world n old.runtime.shared old.frames) old.frames) old.runtime.shared old.frames.frames) (may : may_begin old.frames.frames ≡ true)
      (can : can_begin w.world c.method c.count old.frames.frames ≡ true) (frames : FramesView)
      (are : frames.frames ≡ with_begun true w c.method c.count old.frames.frames) where
    abbrev new : Parts
    new = on_frames frames old

    abbrev there : Parts
    there = reached w run ms here line kept old stands found named at_instruction nothing

    abbrev args : List Datum
    args = data_in c.count (top_operands old.frames.frames)

    abbrev below : Operands
    below = drop c.count (top_operands old.frames.frames)

    reached-is : there ≡ old
    reached-is =
        ap (λ (d : Done). let p : Parts = record old { runtime = after d old.runtime } in p) call.invokes
        ∙ ap (λ o. let p : Parts = record old { runtime = record old.runtime { output = o } } in p) (append-nil old.runtime.output)

    answers : Invokes c.method args below ≡ (done_on (attempts w.world n old.runtime.shared old.frames) old.frames).outcome
    answers = sym (ap (λ (d : Done). d.outcome) call.invokes)

    takes : Takes (top_operands old.frames.frames) args below
    takes =
        let law = is-named (shared_loaded w.world.program n old.runtime.shared old.frames) (top_operands old.frames.frames) w n (top_locals old.frames.frames) in
        subst (λ (d : Done). Asks d.shared (top_operands old.frames.frames) d.outcome) call.invokes law.asks

    concludes : state_in new ≡ on_parts (λ s f. acts_asked w line s f (Invokes c.method args below)) there
    concludes =
        ap (λ fs. state_with fs old) are
        ∙ (sym (ap (λ b. method_called w here.method line.instr.at c.method c.count old.frames.frames old b (can_begin w.world c.method c.count old.frames.frames)) may
        ∙ ap (λ b. method_called w here.method line.instr.at c.method c.count old.frames.frames old true b) can)
        ∙ (invokes-is w line here.method old c.method c.count args below old.frames.frames (is-top here old.frames.frames stands)
        (length-data c.count (top_operands old.frames.frames) call.within) takes
        ∙ sym (ap (λ (p : Parts). on_parts (λ s f. acts_asked w line s f (Invokes c.method args below)) p) reached-is)))

    pub more : length frames.frames ≡ suc (length old.frames.frames)
    more = ap length are ∙ ap suc (length-without old.frames.frames)

    free : initialization_on (suc (length old.frames.frames)) ms ≡ None
    free = none-more (length old.frames.frames) ms at_instruction.executing

    stepped : state_of ms new ≡ (step w.world t (state_of ms old)).after
    stepped =
        is-step w run ms here line kept old stands found named at_instruction nothing (Invokes c.method args below) answers refl new concludes
        (at-rest old.ending old.thrown (has_frame frames.frames && is_none (initialization_on (length frames.frames) ms)) at_instruction.ending at_instruction.thrown
        (framed (suc (length old.frames.frames)) ms frames.frames free more (ap has_frame are)))

    abbrev live : List Held
    live = helds marks (state_of ms old).stack

    at_instruction-then : IsAtInstruction (length frames.frames) ms new
    at_instruction-then = record { ending = at_instruction.ending; thrown = at_instruction.thrown; executing = ap (λ k. initialization_on k ms) more ∙ free }

    keeps-then : AreKeptBy w (state_of ms old).stack (state_of ms new).stack
    keeps-then k superseded runs_old =
        ap (λ fs. runs k (stack_of (map active fs) ms)) are ∙ keeps-by old.frames.frames stands at_instruction.executing k superseded runs_old

    -- whatever its version has
    pub call-attempted : Attempted w ms old new
    call-attempted = record {
      at_instruction = at_instruction-then;
      loaded = refl;
      world = refl;
      loads = loads-none old.frames.frames stands at_instruction.executing nothing;
      awaits = is-awaited w run ms here line kept old stands found named at_instruction nothing (Invokes c.method args below) answers refl;
      made = is-attempt w run ms here line kept old stands found named at_instruction nothing (Invokes c.method args below) answers refl new concludes;
      keeps = keeps-then;
    }

    pub call-passes : marks (current_of w.versions c.method) ≡ Off → Passes w ms old 1 new
    call-passes off = record {
      at_instruction = at_instruction-then;
      loaded = refl;
      world = refl;
      leads = leads-one w (state_of ms old) (state_of ms new) (ap is_some at_instruction.ending) stepped;
      silent = silent-one w (state_of ms old) (record {
        loads = loads-none old.frames.frames stands at_instruction.executing nothing;
        undelivered =
            ap (λ cs. (stop_in (mark_now marks t) 0 live cs).due) (call-changes old.frames.frames stands at_instruction.executing nothing call may can)
            ∙ ap (λ (mark : Mark). (stop_by live (record { method = c.method; mark = mark } ∷ live) 0 (unless_off mark Begins)
            (record { live = record { method = c.method; mark = mark } ∷ live; passed = 1; due = Nothing })).due) off;
        keeps = λ k superseded runs_old. ap (λ (z : State). runs k z.stack) (sym stepped) ∙ keeps-then k superseded runs_old;
      });
    }

  -- where it has not begun the frames are as they were
  pub passes-still : (frames : FramesView) → frames.frames ≡ old.frames.frames → Passes w ms old 0 (on_frames frames old)
  passes-still frames same = record {
    at_instruction = record { ending = at_instruction.ending; thrown = at_instruction.thrown; executing = ap (λ fs. initialization_on (length fs) ms) same ∙ at_instruction.executing };
    loaded = refl;
    world = refl;
    leads = record {
      made = ap (λ fs. with_initializations ms (state_with fs old)) same ∙ sym (steps_from-zero w (state_of ms old));
      before = λ k less. absurd (omega arith);
    };
    silent = λ k less. absurd (omega arith);
  }

  pub called-passes : (b : Bool) (new : Parts) → IsCall c (done_on (attempts w.world n old.runtime.shared old.frames) old.frames) old.runtime.shared old.frames.frames
      → (b ≡ true → may_begin old.frames.frames ≡ true) → (b ≡ true → can_begin w.world c.method c.count old.frames.frames ≡ true)
      → (b ≡ true → marks (current_of w.versions c.method) ≡ Off) → new.frames.frames ≡ with_begun b w c.method c.count old.frames.frames → new ≡ on_frames new.frames old
      → Passes w ms old (steps_if b) new
  called-passes true new call may can off are same = subst (Passes w ms old 1) (sym same) (call-passes call (may refl) (can refl) new.frames are (off refl))
  called-passes false new call may can off are same = subst (Passes w ms old 0) (sym same) (passes-still new.frames are)

  -- in a version with probes
  pub called-tries : (b : Bool) (new : Parts) → IsCall c (done_on (attempts w.world n old.runtime.shared old.frames) old.frames) old.runtime.shared old.frames.frames
      → (b ≡ true → may_begin old.frames.frames ≡ true) → (b ≡ true → can_begin w.world c.method c.count old.frames.frames ≡ true)
      → (b ≡ true → is_off (marks (current_of w.versions c.method)) ≡ false) → new.frames.frames ≡ with_begun b w c.method c.count old.frames.frames
      → new ≡ on_frames new.frames old → (delivered : Bool) → TriesIf b w ms delivered old Begins new
  called-tries true after call may can marked are same delivered =
      subst (λ x. TriesQuickly w ms delivered old Begins x) (sym same)
      (begins-quickly w run ms old (on_frames after.frames old) (has-here here old.frames.frames stands) at_instruction (call-attempted call (may refl) (can refl) after.frames are)
      delivered (current_of w.versions c.method) c.method (no-return w here line old.frames.frames stands found (ap returns_by named)) (ap top_of are)
      (more call (may refl) (can refl) after.frames are) (marked refl))
  called-tries false after call may can marked are same delivered =
      ap (state_of ms) same ∙ ap (λ fs. with_initializations ms (state_with fs old)) are

  -- by what was due then
  pub called-onward : (o : Option Due) (new : Parts) → IsCall c (done_on (attempts w.world n old.runtime.shared old.frames) old.frames) old.runtime.shared old.frames.frames
      → (is_some o ≡ true → may_begin old.frames.frames ≡ true) → (is_some o ≡ true → can_begin w.world c.method c.count old.frames.frames ≡ true)
      → IfSome o (λ due. due ≡ begun_due (not (is_off (marks (current_of w.versions c.method))))) → new.frames.frames ≡ with_begun (is_some o) w c.method c.count old.frames.frames
      → new ≡ on_frames new.frames old → GoesOnward w ms old o new
  called-onward None new call may can due are same = called-passes false new call may can (λ e. absurd (false≢true e)) are same
  called-onward (Some d) new call may can due are same = by (marks (current_of w.versions c.method)) refl where
    by : (mark : Mark) → marks (current_of w.versions c.method) ≡ mark → GoesOnward w ms old (Some d) new
    by Off e =
        subst (λ x. GoesOnward w ms old (Some x) new) (sym (due ∙ ap (λ (m : Mark). begun_due (not (is_off m))) e))
        (called-passes true new call may can (λ _. e) are same)
    by Plain e =
        subst (λ x. GoesOnward w ms old (Some x) new) (sym (due ∙ ap (λ (m : Mark). begun_due (not (is_off m))) e))
        (called-tries true new call may can (λ _. ap is_off e) are same false)
    by Root e =
        subst (λ x. GoesOnward w ms old (Some x) new) (sym (due ∙ ap (λ (m : Mark). begun_due (not (is_off m))) e))
        (called-tries true new call may can (λ _. ap is_off e) are same false)
