-- A step is an attempt of the current line, with all moves behind it.
use Rattle.std.proofs.Common.{◌≡◌, ℕ, zero, suc, true, List, [], ◌∷◌, ◌++◌, length, map, Option, Some, None, refl, sym, ap, subst, ◌∙◌}
use Rattle.std.specs.Prelude.{is_some, is_none, ◌&&◌, ◌||◌}
use Rattle.std.specs.Option.{option_map_or}
use Rattle.std.proofs.lemmas.Bool.{false≢true}
use Rattle.std.proofs.lemmas.Option.{none-some}
use Rattle.frame_stack.specs.FrameLists.{PlacedFrame, has_frame}
use Rattle.jvm_model.specs.declared.ending.Ending.{Ending}
use Rattle.jvm_model.specs.declared.state.Entry.{Entry}
use Rattle.jvm_model.specs.declared.state.Entry.TheVariants.{Active, Initializing}
use Rattle.jvm_model.specs.declared.state.Frame.{Frame}
use Rattle.jvm_model.specs.declared.state.Part.TheVariants.{Constants}
use Rattle.jvm_model.specs.declared.state.Phase.{Phase}
use Rattle.jvm_model.specs.declared.state.Phase.TheVariants.{Fresh, Running, Ready, Erroneous}
use Rattle.jvm_model.specs.declared.state.State.{State}
use Rattle.jvm_model.specs.Running.Applies.{still, breaks, applies}
use Rattle.jvm_model.specs.Basis.Data.{Listing, Instruction, Initializes, Done, Turn}
use Rattle.jvm_model.specs.declared.instruction.SymbolicReference.{SymbolicReference}
use Rattle.jvm_model.specs.declared.instruction.Local.{Local}
use Rattle.jvm_model.specs.declared.instruction.Operation.{Operation}
use Rattle.jvm_model.specs.declared.instruction.Operation.TheVariants.{Named}
use Rattle.jvm_model.specs.Running.Moves.{move, moves, moves_left, settles, turn_settled, then_turn}
use Rattle.jvm_model.specs.Instructions.Does.{loads}
use Rattle.jvm_model.specs.Running.Run.{tries, is_ready, goes_again, steps_by, steps_at, steps_on, step}
use Rattle.jvm_model.specs.Basis.SharedState.{phase_of, with_phase}
use Rattle.jvm_model.proofs.Running.Attempts.{loaded-after}
use Rattle.jvm_model.proofs.Running.QuietSettles.{stops}
use Rattle.prepared_lines.specs.declared.line.Line.{Line}
use Rattle.prepared_code.specs.declared.initializations.Initialization.{Initialization}
use Rattle.prepared_code.specs.declared.parts.Parts.{Parts}
use Rattle.instructions.specs.Acts.{acts, acts_by, acts_named, attempts_line, attempts_on, class_awaited, awaited_by, awaited_in, awaited_on, is_at_rest, goes_on_in, named_done, ready_for, with_done}
use Rattle.activations.specs.Applied.{acts_asked}
use Rattle.prepared_code.specs.Initializations.{initializing_entry, initialization_on, stack_of, state_of}
use Rattle.prepared_code.specs.States.{active, frame_in}
use Rattle.prepared_code.proofs.Initializing.InitializingStacks.{length-active}
use Rattle.instructions.proofs.Attempts.Initializations.{IsReadyAgain, ready-again, set-there}
use Rattle.instructions.proofs.Attempts.LineActs.{awaits-named, done_there, readied, starts-some, steps-as}
use Rattle.prepared_code.proofs.Initializing.InitializingStacks.{stack-empty, stack-on}
use Rattle.instructions.proofs.Attempts.NamedLaws.{Asks, IsNamed, is-named}
use Rattle.prepared_code.proofs.Lines.Tied.{Tie, tied-there}
use Rattle.prepared_code.specs.Ready.{CanRun, IsTied}
use Rattle.prepared_code.specs.Versions.{Setup, listing_of, line_at, instruction_by}
use Rattle.activations.proofs.TurnsCarried.{top-frame}

-- ---- the top of a stack

pub none-of : (ms : List Initialization) (n : ℕ) → is_none (initialization_on n ms) ≡ true → initialization_on n ms ≡ None
none-of ms n is = by (initialization_on n ms) is where
  by : (o : Option Initialization) → is_none o ≡ true → o ≡ None
  by None e = refl
  by (Some m) e = absurd (false≢true e)

-- ---- the moves do not see the changes before them

module _ (w : Setup) (t : Listing) where
  settles-after : (n : ℕ) (a b : Turn) → a.after ≡ b.after → (settles w.world t n a).after ≡ (settles w.world t n b).after
  settles-after zero a b same = same
  settles-after (suc n) a b same =
      either (settles-after n) (move w.world t a.after)
      ∙ ap (λ (s : State). (option_map_or (λ next. settles w.world t n (then_turn b next)) (move w.world t s) b).after) same
    where
      either : ((x y : Turn) → x.after ≡ y.after → (settles w.world t n x).after ≡ (settles w.world t n y).after) → (o : Option Turn)
          → (option_map_or (λ next. settles w.world t n (then_turn a next)) o a).after ≡ (option_map_or (λ next. settles w.world t n (then_turn b next)) o b).after
      either before None = same
      either before (Some next) = before (then_turn a next) (then_turn b next) refl

  settled-after : (a b : Turn) → a.after ≡ b.after → (turn_settled w.world t a).after ≡ (turn_settled w.world t b).after
  settled-after a b same = ap (λ (s : State). (settles w.world t (moves_left s) a).after) same ∙ settles-after (moves_left b.after) a b same

  settled-still : (s : State) → move w.world t s ≡ None → (turn_settled w.world t (still s)).after ≡ s
  settled-still s none = ap (λ (a : Turn). a.after) (stops w.world t (moves_left s) (still s) none)

  -- nothing follows where it is at rest
  pub rest-moves : (ms : List Initialization) (p : Parts) → is_at_rest ms p ≡ true → move w.world t (state_of ms p) ≡ None
  rest-moves ms p is = by p.ending p.thrown p.frames.frames is where
    -- by the top of the stack
    by_top : (f : PlacedFrame) (fs : List PlacedFrame) → is_none (initialization_on (length (f ∷ fs)) ms) ≡ true → moves w.world t (state_of ms p) None None (stack_of (map active (f ∷ fs)) ms) ≡ None
    by_top f fs none = ap (moves w.world t (state_of ms p) None None) (top-frame ms f fs (none-of ms (length (f ∷ fs)) none))

    by : (ending : Option Ending) (thrown : Option ℕ) (fs : List PlacedFrame) → (is_some ending || (is_none thrown && (has_frame fs && is_none (initialization_on (length fs) ms)))) ≡ true
        → moves w.world t (state_of ms p) ending thrown (stack_of (map active fs) ms) ≡ None
    by (Some e) thrown fs is = refl
    by None (Some r) fs is = absurd (false≢true is)
    by None None [] is = absurd (false≢true is)
    by None None (f ∷ fs) is = by_top f fs is

  pub rests : (ms : List Initialization) (p : Parts) → is_at_rest ms p ≡ true → state_of ms p ≡ (turn_settled w.world t (still (state_of ms p))).after
  rests ms p is = sym (settled-still (state_of ms p) (rest-moves ms p is))

-- ---- a step

module _ (w : Setup) where
  abbrev t : Listing
  t = listing_of w.versions

  -- the state after a line, with all that follows
  abbrev pub behind : State → State
  behind x = (turn_settled w.world t (still x)).after

  module _ (s : State) (f : Frame) (line : Line) (op : Operation Local) (tied : IsTied line op) where
    abbrev first : Turn
    first = tries w.world t (instruction_by op line) (readied w line op s f) f (done_there w line op s f)

    first-after : first.after ≡ behind (acts w line s f)
    first-after =
        let there : Done = done_there w line op s f in
        settled-after w t (applies w.world t (instruction_by op line) there.outcome (with_done there (readied w line op s f)) f) (still (acts w line s f))
        (steps-as w line op s f tied).applied

    -- the classes are loaded, and a class may be initialized before
    steps-by : (o : Option ℕ) → class_awaited w s f line.operation ≡ o
        → (steps_at w.world t s f (Some (instruction_by op line))).after ≡ (goes_again w.world t (instruction_by op line) (readied w line op s f) f o first).after
    steps-by o is =
        loaded-after (loads w.world op s.shared f.operands) (steps_by w.world t (instruction_by op line) (readied w line op s f) f (done_there w line op s f))
        ∙ ap (λ k. (goes_again w.world t (instruction_by op line) (readied w line op s f) f k first).after) ((steps-as w line op s f tied).starts_same ∙ is)

  line-steps : (s : State) (f : Frame) (lo : Option Line) (io : Option Instruction) → awaited_by w s f lo ≡ None → Tie lo io
      → (steps_at w.world t s f io).after ≡ behind (attempts_line w s f lo)
  line-steps s f None None none tie = sym (settled-still w t (breaks s f 0) refl)
  line-steps s f None (Some i) none tie = absurd tie
  line-steps s f (Some line) None none tie = absurd tie
  line-steps s f (Some line) (Some i) none tie =
      ap (λ x. (steps_at w.world t s f (Some x)).after) tie.is ∙ (steps-by s f line tie.op tie.tied None none ∙ first-after s f line tie.op tie.tied)

  -- ---- a class is initialized before

  ready-of : (o : Option Phase) → is_ready o ≡ true → o ≡ Some Ready
  ready-of (Some Ready) h = refl
  ready-of (Some Fresh) h = absurd (false≢true h)
  ready-of (Some Running) h = absurd (false≢true h)
  ready-of (Some Erroneous) h = absurd (false≢true h)
  ready-of None h = absurd (false≢true h)

  -- by an instruction that names something
  module _ (s : State) (f : Frame) (line : Line) (n : SymbolicReference) (c : ℕ) (tied : IsTied line (Named n)) (is : class_awaited w s f line.operation ≡ Some c) where
    abbrev i : Instruction
    i = instruction_by (Named n) line

    abbrev there : Done
    there = named_done w n s f

    named-acts : acts w line s f ≡ acts_named w line n s f
    named-acts = ap (acts_by w line s f) (sym tied.kept)

    asks-for : there.outcome ≡ Initializes c
    asks-for =
        starts-some there.outcome c
        (ap (class_awaited w s f) tied.kept ∙ is)

    law : IsNamed (ready_for w n s f).shared f.operands there
    law = is-named (ready_for w n s f).shared f.operands w n f.locals

    fresh : phase_of there.shared c ≡ Some Fresh
    fresh = subst (λ q. Asks there.shared f.operands q) asks-for law.asks

    -- its initialization has begun
    abbrev begun : State
    begun = record (with_done there s) { stack = Initializing c Constants ∷ Active f ∷ s.stack; shared = with_phase there.shared c Running }

    pub acts-begun : acts w line s f ≡ begun
    acts-begun = named-acts ∙ ap (acts_asked w line (with_done there s) f) asks-for

    abbrev turn : Turn
    turn = turn_settled w.world t (still begun)

    module _ (ending : s.ending ≡ None) (ready : is_ready (phase_of turn.after.shared c) ≡ true) where
      running : phase_of (with_phase there.shared c Running) c ≡ Some Running
      running = set-there there.shared.phases c Running Fresh fresh

      pub restored : IsReadyAgain w t c f s.stack turn
      restored =
          let same : record begun { ending = None } ≡ begun = sym (ap (λ e. record begun { ending = e }) ending) in
          subst (λ (x : State). IsReadyAgain w t c f s.stack (turn_settled w.world t (still x))) same
          (ready-again w t c f s.stack s.thrown s.begun (s.output ++ there.wrote) (with_phase there.shared c Running) running
          (ap (λ (x : State). phase_of (turn_settled w.world t (still x)).after.shared c) same ∙ ready-of (phase_of turn.after.shared c) ready))

  -- the line of a frame that awaits a class
  record IsAwaiting (s : State) (f : Frame) (c : ℕ) (lo : Option Line) (io : Option Instruction) : Type 0 where
    line : Line
    named : SymbolicReference
    there : lo ≡ Some line
    instruction : io ≡ Some (instruction_by (Named named) line)
    tied : IsTied line (Named named)
    awaits : class_awaited w s f line.operation ≡ Some c

  is-awaiting : (s : State) (f : Frame) (c : ℕ) (lo : Option Line) (io : Option Instruction) → awaited_by w s f lo ≡ Some c → Tie lo io → IsAwaiting s f c lo io
  is-awaiting s f c None io is tie = absurd (none-some c is)
  is-awaiting s f c (Some line) None is tie = absurd tie
  is-awaiting s f c (Some line) (Some i) is tie =
      let found = awaits-named w line tie.op s f c tie.tied is in
      record {
        line = line;
        named = found.0;
        there = refl;
        instruction = ap Some (tie.is ∙ ap (λ op. instruction_by op line) found.1);
        tied = subst (IsTied line) found.1 tie.tied;
        awaits = is;
      }

-- ---- a step of a state whose current frame stands on top

-- the frame on top
pub record IsGoing (s : State) : Type 0 where
  pub frame : Frame
  pub rest : List Entry
  pub ending : s.ending ≡ None
  pub stack : s.stack ≡ Active frame ∷ rest

module _ (w : Setup) (run : CanRun w) (s : State) (going : IsGoing s) where
  abbrev listing : Listing
  listing = listing_of w.versions

  -- without the frame
  abbrev pub under : State
  under = record s { stack = going.rest }

  -- what stands there
  abbrev line_here : Option Line
  line_here = line_at w.versions going.frame.version going.frame.place

  step-at : (step w.world listing s).after ≡ (steps_at w.world listing under going.frame (listing.at going.frame.version going.frame.place)).after
  step-at = ap (λ e. (steps_on w.world listing s e s.stack).after) going.ending ∙ ap (λ es. (steps_on w.world listing s None es).after) going.stack

  awaited-here : (o : Option ℕ) → awaited_in w s ≡ o → awaited_by w under going.frame line_here ≡ o
  awaited-here o is = sym (ap (awaited_on w s) going.stack) ∙ is

  attempted-here : attempts_on w s s.stack ≡ attempts_line w under going.frame line_here
  attempted-here = ap (attempts_on w s) going.stack

  -- where no class is awaited
  pub step-attempts : awaited_in w s ≡ None → (mid after : State) → mid ≡ attempts_on w s s.stack → after ≡ behind w mid → after ≡ (step w.world listing s).after
  step-attempts none mid after attempted settles =
      settles ∙ (ap (behind w) (attempted ∙ attempted-here)
      ∙ sym (step-at
      ∙ line-steps w under going.frame line_here (listing.at going.frame.version going.frame.place) (awaited-here None none) (tied-there w run going.frame.version going.frame.place)))

  module _ (c : ℕ) (is : awaited_in w s ≡ Some c) where
    here : IsAwaiting w under going.frame c line_here (listing.at going.frame.version going.frame.place)
    here =
        is-awaiting w under going.frame c line_here (listing.at going.frame.version going.frame.place)
        (awaited-here (Some c) is) (tied-there w run going.frame.version going.frame.place)

    abbrev reached : State
    reached = (turn w under going.frame here.line here.named c here.tied here.awaits).after

    module _ (mid behind_it : State) (attempted : mid ≡ attempts_on w s s.stack) (settles : behind_it ≡ behind w mid) where
      comes-there : behind_it ≡ reached
      comes-there =
          settles
          ∙ ap (behind w) (attempted ∙ (attempted-here ∙ (ap (attempts_line w under going.frame) here.there
          ∙ acts-begun w under going.frame here.line here.named c here.tied here.awaits)))

      module _ (ready : is_ready (phase_of behind_it.shared c) ≡ true) where
        ready-there : is_ready (phase_of reached.shared c) ≡ true
        ready-there = sym (ap (λ (x : State). is_ready (phase_of x.shared c)) comes-there) ∙ ready

        back : IsReadyAgain w listing c going.frame going.rest (turn w under going.frame here.line here.named c here.tied here.awaits)
        back = restored w under going.frame here.line here.named c here.tied here.awaits going.ending ready-there

        -- the frame is on top again
        pub going-again : IsGoing behind_it
        going-again = record {
          frame = going.frame;
          rest = going.rest;
          ending = ap (λ (x : State). x.ending) comes-there ∙ back.ending;
          stack = ap (λ (x : State). x.stack) comes-there ∙ back.stack;
        }

        pub stack-again : behind_it.stack ≡ Active going.frame ∷ going.rest
        stack-again = ap (λ (x : State). x.stack) comes-there ∙ back.stack

-- ---- over the parts of a machine

module _ (ms : List Initialization) (p : Parts) where
  going-by : (ending : Option Ending) (fs : List PlacedFrame) → (is_none ending && (has_frame fs && is_none (initialization_on (length fs) ms))) ≡ true
      → IsGoing (record (state_of ms p) { ending = ending; stack = stack_of (map active fs) ms })
  going-by (Some e) fs is = absurd (false≢true is)
  going-by None [] is = absurd (false≢true is)
  going-by None (f ∷ fs) is = record {
    frame = frame_in f;
    rest = stack_of (map active fs) ms;
    ending = refl;
    stack = top-frame ms f fs (none-of ms (length (f ∷ fs)) is);
  }

  pub going-on : goes_on_in ms p ≡ true → IsGoing (state_of ms p)
  going-on is = going-by p.ending p.frames.frames is

  -- a frame that stands on top has no initialization on it
  executing-by : (fs : List PlacedFrame) (f : Frame) (rest : List Entry) → stack_of (map active fs) ms ≡ Active f ∷ rest
      → (has_frame fs && is_none (initialization_on (length fs) ms)) ≡ true
  executing-by [] f rest is = absurd (by ms (sym (stack-empty ms) ∙ is)) where
    by : (marks : List Initialization) → map initializing_entry marks ≡ Active f ∷ rest → ⊥
    by [] e = absurd cc
    by (m ∷ marks) e = absurd cc
  executing-by (g ∷ fs) f rest is = by (initialization_on (length (g ∷ fs)) ms) refl where
    by : (o : Option Initialization) → initialization_on (length (g ∷ fs)) ms ≡ o → is_none o ≡ true
    by None e = refl
    by (Some m) e =
        let on = stack-on (map active (g ∷ fs)) ms m (ap (λ n. initialization_on n ms) (length-active (g ∷ fs)) ∙ e) in
        absurd (let same : initializing_entry m ∷ on.0 ≡ Active f ∷ rest = sym on.1 ∙ is in cc)

  pub executing : IsGoing (state_of ms p) → (has_frame p.frames.frames && is_none (initialization_on (length p.frames.frames) ms)) ≡ true
  executing going = executing-by p.frames.frames going.frame going.rest going.stack
