-- Where a step stops that begins with an attempt, by what attempts of the current frame's line have come to.
use Rattle.std.proofs.Common.{◌≡◌, ℕ, Bool, true, false, List, [], ◌∷◌, ◌++◌, length, map, Option, Some, None, if◌then◌else◌, refl, sym, subst, ap, ◌∙◌}
use Rattle.std.specs.Option.{IfSome}
use Rattle.std.specs.Prelude.{is_none, is_some, not, ◌&&◌, ◌==◌}
use Rattle.std.proofs.lemmas.Bool.{false≢true, eqb-true, and_parts}
use Rattle.std.proofs.lemmas.List.{append-nil}
use Rattle.std.proofs.lemmas.Option.{none-some}
use Rattle.jf_bytes.proofs.Lists.{empty_from_length}
use Rattle.frame_stack.specs.FrameLists.{PlacedFrame, has_frame}
use Rattle.jvm_model.specs.declared.due.Due.{Due}
use Rattle.jvm_model.specs.declared.due.Due.TheVariants.{Nothing, Ends, Begins}
use Rattle.jvm_model.specs.declared.ending.Ending.{Ending}
use Rattle.jvm_model.specs.declared.event.EventKind.TheVariants as kind
use Rattle.jvm_model.specs.declared.event.Mark.{Mark}
use Rattle.jvm_model.specs.declared.state.Entry.{Entry}
use Rattle.jvm_model.specs.declared.state.Entry.TheVariants.{Active}
use Rattle.jvm_model.specs.declared.state.Frame.{Frame}
use Rattle.jvm_model.specs.declared.state.Shared.{Shared}
use Rattle.jvm_model.specs.declared.state.State.{State}
use Rattle.jvm_model.specs.Running.Applies.{breaks, live_in}
use Rattle.jvm_model.specs.Running.Between.{changes_between, attempt_followed}
use Rattle.jvm_model.specs.Basis.Data.{Breaks, Instruction, Operands, Listing}
use Rattle.jvm_model.specs.declared.instruction.Local.{Local}
use Rattle.jvm_model.specs.declared.instruction.SymbolicReference.{SymbolicReference}
use Rattle.jvm_model.specs.declared.instruction.Local.TheVariants.{Nop, Return}
use Rattle.jvm_model.specs.declared.instruction.Operation.TheVariants.{Named, Within}
use Rattle.jvm_model.specs.declared.instruction.Operation.{Operation}
use Rattle.jvm_model.specs.Instructions.Does.{does, loads}
use Rattle.jvm_model.specs.Rewriting.Images.{is_off}
use Rattle.jvm_model.specs.Turns.Rest.{classes_loaded_at, loads_on}
use Rattle.jvm_model.specs.Running.Run.{is_going_on, is_ready, starts, with_classes_loaded}
use Rattle.jvm_model.specs.Basis.SharedState.{phase_of}
use Rattle.jvm_model.specs.Turns.Told.{frame_held, helds}
use Rattle.jvm_model.specs.Turns.Pauses.{Pause}
use Rattle.jvm_model.specs.Turns.StepPauses.{again_pause, instruction_attempted, frame_pause, is_nothing, is_return, leave_due, stack_pause, turn_pause}
use Rattle.jvm_model.proofs.Turns.AttemptPauses.{breaks-pause, goes-again, goes-once, leaves, settled-there, stays-once}
use Rattle.jvm_model.proofs.Running.ChangesBetween.{applies-tell}
use Rattle.jvm_model.proofs.Turns.LoopOfPauses.{paused-move}
use Rattle.prepared_lines.specs.declared.line.Line.{Line}
use Rattle.prepared_code.specs.declared.initializations.Initialization.{Initialization}
use Rattle.prepared_code.specs.declared.parts.Parts.{Parts}
use Rattle.instructions.specs.Acts.{acts, acts_by, attempts_line, attempts_on, class_awaited, awaited_by, awaited_in, awaited_on, goes_on_in}
use Rattle.prepared_lines.specs.Lines.{operation_kept, local_kept}
use Rattle.prepared_code.specs.Initializations.{initializing_entry, initialization_on, stack_of, state_of}
use Rattle.prepared_code.specs.Ready.{CanRun, IsSoundIn, IsTied}
use Rattle.prepared_code.specs.States.{active, frame_in}
use Rattle.activations.specs.Turning.{loads_in, loads_none, pause_at}
use Rattle.interpreter.specs.Moves.Trying.{is_return_line, leaves_at, leaves_in, pause_behind_attempt, returns_by, tried_in, tries_again}
use Rattle.prepared_code.specs.Versions.{Setup, instruction_by, line_at, listing_of, mark_of}
use Rattle.instructions.proofs.Loads.ActsLoad.{named-loads}
use Rattle.interpreter.proofs.Moves.Behind.{sound-again, executing-again}
use Rattle.prepared_code.proofs.Initializing.InitializingStacks.{length-active}
use Rattle.interpreter.proofs.Moves.Followed.{followed-loaded}
use Rattle.activations.proofs.InitializerFrames.{live-of}
use Rattle.instructions.proofs.Attempts.LineActs.{awaits-named, readied, steps-as}
use Rattle.instructions.proofs.Moves.LineSteps.{IsGoing, behind, going-on, stack-again, none-of}
use Rattle.activations.proofs.TurnsCarried.{top-frame}
use Rattle.prepared_code.proofs.Initializing.InitializingStacks.{stack-empty, stack-on}
use Rattle.prepared_code.proofs.Lines.Tied.{Tie, tied-there}

-- ---- what an operation loads

-- it depends on what is loaded alone
loads-same : (w : Setup) (op : Operation Local) (a b : Shared) (o : Operands) → a.loaded ≡ b.loaded → loads w.world op a o ≡ loads w.world op b o
loads-same w (Named n) a b o same = ap (λ loaded. loads w.world (Named n) (record a { loaded = loaded }) o) same
loads-same w (Within l) a b o same = refl
loads-same w op a b o same = refl

-- a return loads nothing
return-loads : (w : Setup) (op : Operation Local) (s : Shared) (o : Operands) → is_return op ≡ true → loads w.world op s o ≡ []
return-loads w (Within l) s o is = refl
return-loads w op s o is = absurd (false≢true is)

-- it is one by its line
local-returns : (l : Local) → returns_by (Within (local_kept l)) ≡ is_return (Within l)
local-returns (Return k) = refl
local-returns l = refl

op-returns : (op : Operation Local) → returns_by (operation_kept op) ≡ is_return op
op-returns (Within l) = local-returns l
op-returns op = refl

and-and : (a b c : Bool) → ((a && b) && c) ≡ (a && (b && c))
and-and true b c = refl
and-and false b c = refl

-- ---- a state whose current frame stands on top

module _ (w : Setup) (run : CanRun w) (n : ℕ) (s : State) (going : IsGoing s) where
  abbrev t : Listing
  t = listing_of w.versions

  abbrev v : ℕ → Mark
  v = mark_of w.versions

  abbrev f : Frame
  f = going.frame

  -- without the frame
  abbrev under : State
  under = record s { stack = going.rest }

  abbrev here : Option Line
  here = line_at w.versions f.version f.place

  -- where the step stops, by the state behind an attempt
  abbrev first : State → Pause
  first mid = pause_behind_attempt w (live_in s.stack) n mid

  loads-here : loads_in w s ≡ classes_loaded_at w.world s f (t.at f.version f.place)
  loads-here = ap (λ e. loads_on w.world t s e s.stack) going.ending ∙ ap (loads_on w.world t s None) going.stack

  -- ---- the return is told first

  due-by : (delivered : Bool) (lo : Option Line) (i : Instruction) → Tie lo (Some i)
      → leave_due delivered (v f.version) i.operation ≡ (not delivered && (not (is_off (v f.version)) && is_return_line lo))
  due-by delivered None i tie = absurd tie
  due-by delivered (Some line) i tie =
      and-and (not delivered) (not (is_off (v f.version))) (is_return i.operation)
      ∙ ap (λ b. not delivered && (not (is_off (v f.version)) && b))
      (ap (λ (x : Instruction). is_return x.operation) tie.is ∙ (sym (op-returns tie.op) ∙ ap returns_by tie.tied.kept))

  told-by : (delivered : Bool) (lo : Option Line) (io : Option Instruction) → t.at f.version f.place ≡ io → Tie lo io
      → (not delivered && (not (is_off (v f.version)) && is_return_line lo)) ≡ true
      → (tried_in w delivered n s ≡ pause_at s n (Ends kind.Leave)) × (classes_loaded_at w.world s f io ≡ [])
  told-by delivered None io at tie due =
      absurd (false≢true (and_parts (not (is_off (v f.version))) false (and_parts (not delivered) (not (is_off (v f.version)) && false) due).1).1)
  told-by delivered (Some line) None at tie due = absurd tie
  told-by delivered (Some line) (Some i) at tie due =
      let is = due-by delivered (Some line) i tie ∙ due in (
        leaves w.world t v delivered n s f going.rest going.ending going.stack i at is,
        return-loads w i.operation s.shared f.operands (and_parts (not delivered && not (is_off (v f.version))) (is_return i.operation) is).1,
      )

  pub told-first : (delivered : Bool) → (not delivered && leaves_at w.versions f.version f.place) ≡ true → tried_in w delivered n s ≡ pause_at s n (Ends kind.Leave)
  told-first delivered due = (told-by delivered here (t.at f.version f.place) refl (tied-there w run f.version f.place) due).0

  pub told-loads : (delivered : Bool) → (not delivered && leaves_at w.versions f.version f.place) ≡ true → loads_none w s ≡ true
  told-loads delivered due =
      ap (λ (classes : List ℕ). length classes == 0) (loads-here ∙ (told-by delivered here (t.at f.version f.place) refl (tied-there w run f.version f.place) due).1)

  -- ---- where it is not, it is all the same whether it was told

  chosen : Instruction → Bool → Pause
  chosen i b =
      if b then record { state = record under { stack = Active f ∷ under.stack }; passed = n; due = Ends kind.Leave }
      else again_pause w.world t v n (frame_held v f ∷ helds v going.rest) i under f (starts (does w.world i.operation under.shared f.locals f.operands).outcome)
      (turn_pause w.world t v n (frame_held v f ∷ helds v going.rest) (instruction_attempted w.world t i under f))

  silent-by : (delivered : Bool) (lo : Option Line) (io : Option Instruction) → Tie lo io → (not delivered && (not (is_off (v f.version)) && is_return_line lo)) ≡ false
      → frame_pause w.world t v delivered n under f io ≡ frame_pause w.world t v true n under f io
  unfolding chosen
  silent-by delivered lo None tie isnt = refl
  silent-by delivered lo (Some i) tie isnt = ap (chosen i) (due-by delivered lo i tie ∙ isnt)

  pub told-silent : (delivered : Bool) → (not delivered && leaves_at w.versions f.version f.place) ≡ false → tried_in w true n s ≡ tried_in w delivered n s
  told-silent delivered isnt = sym (at delivered ∙ (silent-by delivered here (t.at f.version f.place) (tied-there w run f.version f.place) isnt ∙ sym (at true))) where
    at : (b : Bool) → tried_in w b n s ≡ frame_pause w.world t v b n under f (t.at f.version f.place)
    at b = ap (λ e. stack_pause w.world t v b n s e s.stack) going.ending ∙ ap (stack_pause w.world t v b n s None) going.stack

  -- ---- an attempt, where its classes are loaded

  module _ (line : Line) (op : Operation Local) (tied : IsTied line op) (x : State) (none : loads w.world op x.shared f.operands ≡ []) where
    same-ready : readied w line op x f ≡ x
    same-ready = ap (λ classes. with_classes_loaded classes x) none

    starts-same : starts (does w.world op x.shared f.locals f.operands).outcome ≡ class_awaited w x f line.operation
    starts-same =
        sym (ap (λ (y : State). starts (does w.world op y.shared f.locals f.operands).outcome) same-ready) ∙ (steps-as w line op x f tied).starts_same

    attempted-same : (instruction_attempted w.world t (instruction_by op line) x f).after ≡ acts w line x f
    attempted-same =
        sym (ap (λ (y : State). (instruction_attempted w.world t (instruction_by op line) y f).after) same-ready) ∙ (steps-as w line op x f tied).applied

  -- the same of an instruction that a line is
  module _ (line : Line) (i : Instruction) (tie : Tie (Some line) (Some i)) (x : State) (none : loads w.world i.operation x.shared f.operands ≡ []) where
    none-by : loads w.world tie.op x.shared f.operands ≡ []
    none-by = sym (ap (λ (j : Instruction). loads w.world j.operation x.shared f.operands) tie.is) ∙ none

    starts-is : starts (does w.world i.operation x.shared f.locals f.operands).outcome ≡ class_awaited w x f line.operation
    starts-is =
        ap (λ (j : Instruction). starts (does w.world j.operation x.shared f.locals f.operands).outcome) tie.is ∙ starts-same line tie.op tie.tied x none-by

    attempted-is : (instruction_attempted w.world t i x f).after ≡ acts w line x f
    attempted-is =
        ap (λ (j : Instruction). (instruction_attempted w.world t j x f).after) tie.is ∙ attempted-same line tie.op tie.tied x none-by

  -- ---- no class is awaited

  -- an instruction that stands nowhere
  abbrev nowhere : Instruction
  nowhere = record { operation = Within Nop; own = 0; next = None; targets = [] }

  -- without a line the run ends, and nothing has changed
  broken-first : first (breaks under f 0) ≡ pause_at (breaks under f 0) n Nothing
  broken-first =
      ap (λ changes. attempt_followed w.world t v n changes (breaks under f 0)) (ap (λ (es : List Entry). changes_between (live_in es) (breaks under f 0).stack) going.stack ∙ sym (applies-tell w.world t nowhere (Breaks false) under f))
      ∙ paused-move w.world t v n (breaks under f 0)

  once-by : (lo : Option Line) (io : Option Instruction) → t.at f.version f.place ≡ io → Tie lo io → classes_loaded_at w.world s f io ≡ [] → awaited_by w under f lo ≡ None
      → tried_in w true n s ≡ first (attempts_line w under f lo)
  once-by None None at tie none awaits = breaks-pause w.world t v true n s f going.rest going.ending going.stack at ∙ sym broken-first
  once-by None (Some i) at tie none awaits = absurd tie
  once-by (Some line) None at tie none awaits = absurd tie
  once-by (Some line) (Some i) at tie none awaits =
      goes-once w.world t v true n s f going.rest going.ending going.stack i at refl (starts-is line i tie under none ∙ awaits)
      ∙ ap first (attempted-is line i tie under none)

  attempted-here : attempts_on w s s.stack ≡ attempts_line w under f here
  attempted-here = ap (attempts_on w s) going.stack

  awaited-here : awaited_in w s ≡ awaited_by w under f here
  awaited-here = ap (awaited_on w s) going.stack

  pub tried-once : loads_in w s ≡ [] → awaited_in w s ≡ None → tried_in w true n s ≡ first (attempts_on w s s.stack)
  tried-once none awaits =
      once-by here (t.at f.version f.place) refl (tied-there w run f.version f.place) (sym loads-here ∙ none) (sym awaited-here ∙ awaits)
      ∙ ap first (sym attempted-here)

  -- ---- a class is awaited

  -- it loads nothing
  acts-loaded : (line : Line) (m : SymbolicReference) → IsTied line (Named m) → loads w.world (Named m) s.shared f.operands ≡ []
      → (acts w line under f).shared.loaded ≡ s.shared.loaded
  acts-loaded line m tied none =
      ap (λ (x : State). x.shared.loaded) (ap (acts_by w line under f) (sym tied.kept))
      ∙ (named-loads w line m under f ∙ (ap (λ classes. s.shared.loaded ++ classes) none ∙ append-nil s.shared.loaded))

  module _ (c : ℕ) (line : Line) (i : Instruction) (at : t.at f.version f.place ≡ Some i) (there : here ≡ Some line) (tie : Tie (Some line) (Some i))
      (none : loads w.world i.operation s.shared f.operands ≡ []) (awaits : class_awaited w under f line.operation ≡ Some c) where
    abbrev mid : State
    mid = attempts_on w s s.stack

    mid-is : (instruction_attempted w.world t i under f).after ≡ mid
    mid-is = attempted-is line i tie under none ∙ sym (attempted-here ∙ ap (attempts_line w under f) there)

    starts-there : starts (does w.world i.operation under.shared f.locals f.operands).outcome ≡ Some c
    starts-there = starts-is line i tie under none ∙ awaits

    stays-by : tries_again n c (first mid) ≡ false → tried_in w true n s ≡ first mid
    stays-by isnt =
        stays-once w.world t v true n s f going.rest going.ending going.stack i at refl c starts-there (ap (λ x. tries_again n c (first x)) mid-is ∙ isnt)
        ∙ ap first mid-is

    -- the state behind it
    abbrev second : State
    second = (first mid).state

    mid-loaded : mid.shared.loaded ≡ s.shared.loaded
    mid-loaded =
        let found = awaits-named w line tie.op under f c tie.tied awaits in
        let named : Tie (Some line) (Some i) = tie in
        ap (λ (x : State). x.shared.loaded) (attempted-here ∙ ap (attempts_line w under f) there)
        ∙ acts-loaded line found.0 (subst (IsTied line) found.1 tie.tied)
        (ap (λ o. loads w.world o s.shared f.operands) (sym found.1) ∙ (sym (ap (λ (j : Instruction). loads w.world j.operation s.shared f.operands) tie.is) ∙ none))

    second-loads : loads w.world i.operation second.shared f.operands ≡ []
    second-loads =
        loads-same w i.operation second.shared s.shared f.operands (followed-loaded w t v n (changes_between (live_in s.stack) mid.stack) mid ∙ mid-loaded) ∙ none

    again-by : second.stack ≡ Active f ∷ going.rest → tries_again n c (first mid) ≡ true → tried_in w true n s ≡ first (attempts_on w second second.stack)
    again-by top is =
        goes-again w.world t v true n s f going.rest going.ending going.stack i at refl c starts-there (ap (λ x. tries_again n c (first x)) mid-is ∙ is)
        ∙ (ap (λ x. first (instruction_attempted w.world t i (record (first x).state { stack = going.rest }) f).after) mid-is
        ∙ ap first (attempted-is line i tie (record second { stack = going.rest }) second-loads
        ∙ sym (ap (attempts_on w second) top ∙ ap (attempts_line w (record second { stack = going.rest }) f) there)))

  -- the line that awaits it
  record IsThere (c : ℕ) (lo : Option Line) (io : Option Instruction) : Type 0 where
    line : Line
    i : Instruction
    there : lo ≡ Some line
    at : io ≡ Some i
    tie : Tie (Some line) (Some i)
    awaits : class_awaited w under f line.operation ≡ Some c

  is-there : (c : ℕ) (lo : Option Line) (io : Option Instruction) → Tie lo io → awaited_by w under f lo ≡ Some c → IsThere c lo io
  is-there c None io tie is = absurd (none-some c is)
  is-there c (Some line) None tie is = absurd tie
  is-there c (Some line) (Some i) tie is = record { line = line; i = i; there = refl; at = refl; tie = tie; awaits = is }

  module _ (none : loads_in w s ≡ []) (c : ℕ) (is : awaited_in w s ≡ Some c) where
    found : IsThere c here (t.at f.version f.place)
    found = is-there c here (t.at f.version f.place) (tied-there w run f.version f.place) (sym awaited-here ∙ is)

    none-there : loads w.world found.i.operation s.shared f.operands ≡ []
    none-there = sym (loads-here ∙ ap (classes_loaded_at w.world s f) found.at) ∙ none

    pub tried-stays : tries_again n c (first (attempts_on w s s.stack)) ≡ false → tried_in w true n s ≡ first (attempts_on w s s.stack)
    tried-stays isnt = stays-by c found.line found.i found.at found.there found.tie none-there found.awaits isnt

    abbrev reached : State
    reached = (first (attempts_on w s s.stack)).state

    -- the moves behind it are all made, and its class is ready
    pub tried-again : reached ≡ behind w (attempts_on w s s.stack) → is_ready (phase_of reached.shared c) ≡ true → tries_again n c (first (attempts_on w s s.stack)) ≡ true
        → tried_in w true n s ≡ first (attempts_on w reached reached.stack)
    tried-again settles ready again =
        again-by c found.line found.i found.at found.there found.tie none-there found.awaits
        (stack-again w run s going c is (attempts_on w s s.stack) reached refl settles ready) again

-- ---- what the test of a second attempt tells

nothing-due : (d : Due) → is_nothing d ≡ true → d ≡ Nothing
nothing-due Nothing is = refl
nothing-due (Ends k) is = absurd (false≢true is)
nothing-due Begins is = absurd (false≢true is)

module _ (n c : ℕ) (q : Pause) (again : tries_again n c q ≡ true) where
  three : (is_nothing q.due && q.passed == n && is_ready (phase_of q.state.shared c)) ≡ true
  three = (and_parts (is_nothing q.due && q.passed == n && is_ready (phase_of q.state.shared c)) (is_going_on q.state.ending q.state.thrown) again).0

  two : (is_nothing q.due && q.passed == n) ≡ true
  two = (and_parts (is_nothing q.due && q.passed == n) (is_ready (phase_of q.state.shared c)) three).0

  pub again-ready : is_ready (phase_of q.state.shared c) ≡ true
  again-ready = (and_parts (is_nothing q.due && q.passed == n) (is_ready (phase_of q.state.shared c)) three).1

  pub again-same : q.passed ≡ n
  again-same = eqb-true q.passed n (and_parts (is_nothing q.due) (q.passed == n) two).1

  pub again-nothing : q.due ≡ Nothing
  again-nothing = nothing-due q.due (and_parts (is_nothing q.due) (q.passed == n) two).0

-- ---- over the parts of a machine

module _ (w : Setup) (run : CanRun w) (ms : List Initialization) (p : Parts) (goes : goes_on_in ms p ≡ true) (n live : ℕ)
    (is_live : live ≡ length p.frames.frames) (none : loads_none w (state_of ms p) ≡ true) (o : Option ℕ) (answer : o ≡ awaited_in w (state_of ms p))
    (mid : State) (instruction_attempted : mid ≡ attempts_on w (state_of ms p) (state_of ms p).stack) where
  abbrev s : State
  s = state_of ms p

  going : IsGoing s
  going = going-on ms p goes

  empty : loads_in w s ≡ []
  empty = empty_from_length (loads_in w s) none

  stands : pause_behind_attempt w live n mid ≡ pause_behind_attempt w (live_in s.stack) n (attempts_on w s s.stack)
  stands =
      ap (λ k. pause_behind_attempt w k n mid) (is_live ∙ sym (live-of ms p)) ∙ ap (pause_behind_attempt w (live_in s.stack) n) instruction_attempted

  -- no class is awaited
  pub tries-once : (q : Pause) → q ≡ pause_behind_attempt w live n mid → o ≡ None → q ≡ tried_in w true n s
  tries-once q reached is = reached ∙ (stands ∙ sym (tried-once w run n s going empty (sym answer ∙ is)))

  module _ (c : ℕ) (some : o ≡ Some c) (q : Pause) (reached : q ≡ pause_behind_attempt w live n mid) where
    same : q ≡ pause_behind_attempt w (live_in s.stack) n (attempts_on w s s.stack)
    same = reached ∙ stands

    pub tries-no-more : tries_again n c q ≡ false → q ≡ tried_in w true n s
    tries-no-more isnt = same ∙ sym (tried-stays w run n s going empty c (sym answer ∙ some) (sym (ap (tries_again n c) same) ∙ isnt))

    module _ (again : tries_again n c q ≡ true) where
      -- all moves were made
      pub settles-before : q.state ≡ behind w mid
      settles-before =
          ap (λ (x : Pause). x.state) reached
          ∙ settled-there w.world (listing_of w.versions) (mark_of w.versions) n (changes_between live mid.stack) mid
          (sym (ap (λ (x : Pause). x.due) reached) ∙ again-nothing n c q again)

      pub tries-twice : (r : Pause) → r ≡ pause_behind_attempt w live q.passed (attempts_on w q.state q.state.stack) → r ≡ tried_in w true n s
      tries-twice r reached_again =
          reached_again
          ∙ (ap (λ k. pause_behind_attempt w live k (attempts_on w q.state q.state.stack)) (again-same n c q again)
          ∙ (ap (λ k. pause_behind_attempt w k n (attempts_on w q.state q.state.stack)) (is_live ∙ sym (live-of ms p))
          ∙ (ap (λ (x : Pause). pause_behind_attempt w (live_in s.stack) n (attempts_on w x.state x.state.stack)) same
          ∙ sym (tried-again w run n s going empty c (sym answer ∙ some)
          (sym (ap (λ (x : Pause). x.state) same) ∙ (settles-before ∙ ap (behind w) instruction_attempted))
          (sym (ap (λ (x : Pause). is_ready (phase_of x.state.shared c)) same) ∙ again-ready n c q again)
          (sym (ap (tries_again n c) same) ∙ again)))))

-- ---- before an attempt

module _ (w : Setup) (delivered : Bool) (n : ℕ) (ms : List Initialization) (p : Parts) where
  abbrev before : State
  before = state_of ms p

  abbrev IsStopped : State → List Entry → Type 0
  IsStopped s es = (stack_pause w.world (listing_of w.versions) (mark_of w.versions) delivered n s None es ≡ pause_at s n Nothing) × (loads_on w.world (listing_of w.versions) s None es ≡ [])

  -- where no frame goes on
  stopped-by : (s : State) (ending : Option Ending) (fs : List PlacedFrame) → (is_none ending && (has_frame fs && is_none (initialization_on (length fs) ms))) ≡ false
      → (stack_pause w.world (listing_of w.versions) (mark_of w.versions) delivered n s ending (stack_of (map active fs) ms) ≡ pause_at s n Nothing)
      × (loads_on w.world (listing_of w.versions) s ending (stack_of (map active fs) ms) ≡ [])
  stopped-by s (Some e) fs is = (refl, refl)
  stopped-by s None [] is = subst (IsStopped s) (sym (stack-empty ms)) (by ms) where
    by : (all : List Initialization) → IsStopped s (map initializing_entry all)
    by [] = (refl, refl)
    by (m ∷ all) = (refl, refl)
  stopped-by s None (f ∷ fs) is = by (initialization_on (length (f ∷ fs)) ms) refl is where
    by : (o : Option Initialization) → initialization_on (length (f ∷ fs)) ms ≡ o → is_none o ≡ false → IsStopped s (stack_of (map active (f ∷ fs)) ms)
    by None e isnt = absurd (false≢true (sym isnt))
    by (Some m) e isnt =
        let on = stack-on (map active (f ∷ fs)) ms m (ap (λ k. initialization_on k ms) (length-active (f ∷ fs)) ∙ e) in
        subst (IsStopped s) (sym on.1) (refl, refl)

  pub stopped-pause : goes_on_in ms p ≡ false → pause_at before n Nothing ≡ tried_in w delivered n before
  stopped-pause is = sym (stopped-by before p.ending p.frames.frames is).0

  pub stopped-loads : goes_on_in ms p ≡ false → true ≡ loads_none w before
  stopped-loads is = sym (ap (λ (classes : List ℕ). length classes == 0) (stopped-by before p.ending p.frames.frames is).1)

  module _ (run : CanRun w) (goes : goes_on_in ms p ≡ true) where
    on_top : IsGoing before
    on_top = going-on ms p goes

    -- the frame that stands on top
    leaves-by : (ending : Option Ending) (fs : List PlacedFrame) → (is_none ending && (has_frame fs && is_none (initialization_on (length fs) ms))) ≡ true
        → (g : Frame) (rest : List Entry) → stack_of (map active fs) ms ≡ Active g ∷ rest → leaves_in w.versions fs ≡ leaves_at w.versions g.version g.place
    leaves-by (Some e) fs is g rest top = absurd (false≢true is)
    leaves-by None [] is g rest top = absurd (false≢true is)
    leaves-by None (f ∷ fs) is g rest top =
        let same : Active (frame_in f) ∷ stack_of (map active fs) ms ≡ Active g ∷ rest = sym (top-frame ms f fs (none-of ms (length (f ∷ fs)) is)) ∙ top in
        let one : frame_in f ≡ g = cc in
        ap (λ (h : Frame). leaves_at w.versions h.version h.place) one

    leaves-is : leaves_in w.versions p.frames.frames ≡ leaves_at w.versions on_top.frame.version on_top.frame.place
    leaves-is = leaves-by p.ending p.frames.frames goes on_top.frame on_top.rest on_top.stack

    -- a return of which a probe tells first
    pub leaves-pause : (not delivered && leaves_in w.versions p.frames.frames) ≡ true → pause_at before n (Ends kind.Leave) ≡ tried_in w delivered n before
    leaves-pause due = sym (told-first w run n before on_top delivered (ap (λ b. not delivered && b) (sym leaves-is) ∙ due))

    pub leaves-loads : (not delivered && leaves_in w.versions p.frames.frames) ≡ true → true ≡ loads_none w before
    leaves-loads due = sym (told-loads w run n before on_top delivered (ap (λ b. not delivered && b) (sym leaves-is) ∙ due))

    -- none is told
    pub tries-silently : (not delivered && leaves_in w.versions p.frames.frames) ≡ false → tried_in w true n before ≡ tried_in w delivered n before
    tries-silently isnt = told-silent w run n before on_top delivered (ap (λ b. not delivered && b) (sym leaves-is) ∙ isnt)

-- ---- an attempt in two parts that was made

module _ (w v : Setup) (same_world : v ≡ w) (run : CanRun w) (ms : List Initialization) (p : Parts) (goes : goes_on_in ms p ≡ true) (n live : ℕ)
    (is_live : live ≡ length p.frames.frames) (made : Option (Option ℕ)) (o : Option ℕ) (is_made : made ≡ Some o) (mid : State)
    (some : is_some made ≡ loads_none w (state_of ms p)) (answers : IfSome made (λ a. a ≡ awaited_in w (state_of ms p)))
    (attempts : IfSome made (λ a. mid ≡ attempts_on w (state_of ms p) (state_of ms p).stack))
    (ms_then : List Initialization) (then_there : Parts) (passed : ℕ) (due : Due)
    (reaches : pause_at (state_of ms_then then_there) passed due ≡ pause_behind_attempt v live n mid) where
  abbrev start : State
  start = state_of ms p

  abbrev q : Pause
  q = pause_at (state_of ms_then then_there) passed due

  pub line-loads : true ≡ loads_none w start
  line-loads = ap is_some (sym is_made) ∙ some

  answer-is : o ≡ awaited_in w start
  answer-is = subst (λ x. IfSome x (λ a. a ≡ awaited_in w start)) is_made answers

  line-attempted : mid ≡ attempts_on w start start.stack
  line-attempted = subst (λ x. IfSome x (λ a. mid ≡ attempts_on w start start.stack)) is_made attempts

  reached-is : q ≡ pause_behind_attempt w live n mid
  reached-is = subst (λ u. q ≡ pause_behind_attempt u live n mid) same_world reaches

  pub line-once : o ≡ None → q ≡ tried_in w true n start
  line-once none = tries-once w run ms p goes n live is_live (sym line-loads) o answer-is mid line-attempted q reached-is none

  module _ (c : ℕ) (is : o ≡ Some c) where
    pub line-no-more : tries_again n c q ≡ false → q ≡ tried_in w true n start
    line-no-more isnt = tries-no-more w run ms p goes n live is_live (sym line-loads) o answer-is mid line-attempted c is q reached-is isnt

    -- in the world that stays behind it
    module _ (u : Setup) (same_then : u ≡ w) (again : tries_again n c q ≡ true) where
      settles : state_of ms_then then_there ≡ behind w mid
      settles = settles-before w run ms p goes n live is_live (sym line-loads) o answer-is mid line-attempted c is q reached-is again

      pub line-sound : IsSoundIn w start → IsSoundIn u (state_of ms_then then_there)
      line-sound sound =
          subst (λ x. IsSoundIn x (state_of ms_then then_there)) (sym same_then)
          (sound-again w run ms p goes o c answer-is is mid line-attempted ms_then then_there settles sound)

      pub line-executing : initialization_on (length then_there.frames.frames) ms_then ≡ None
      line-executing = executing-again w run ms p goes o c answer-is is mid line-attempted ms_then then_there settles (again-ready n c q again)

      pub line-twice : (r : Pause) → r ≡ pause_behind_attempt u live passed (attempts_on u (state_of ms_then then_there) (state_of ms_then then_there).stack)
          → r ≡ tried_in w true n start
      line-twice r reaches_again =
          tries-twice w run ms p goes n live is_live (sym line-loads) o answer-is mid line-attempted c is q reached-is again r
          (subst (λ x. r ≡ pause_behind_attempt x live passed (attempts_on x (state_of ms_then then_there) (state_of ms_then then_there).stack)) same_then reaches_again)
