-- What the code does by what an instruction asks for is what applies by its outcome.
use Rattle.std.proofs.Common.{◌≡◌, ℕ, Bool, true, false, cond, List, [], ◌∷◌, length, Option, Some, None, nat_le, refl, sym, ap, ◌∙◌}
use Rattle.std.specs.Prelude.{ℤ, if◌then◌else◌}
use Rattle.std.proofs.lemmas.Bool.{false≢true}
use Rattle.std.proofs.lemmas.Option.{none-some}
use Rattle.heap_objects.specs.declared.datum.Datum.{Datum}
use Rattle.heap_objects.specs.declared.Value.{Value}
use Rattle.frame_stack.specs.Widths.{height_of}
use Rattle.frame_stack.specs.FrameLists.{FramesView, PlacedFrame, top_operands}
use Rattle.jvm_basic.specs.Outcomes.{can_hold, top_locals, with_top}
use Rattle.jvm_model.specs.declared.state.State.{State}
use Rattle.jvm_model.specs.Basis.Data.{Locals, Operands, Next, Outcome, GoesOn, Invokes, Throws, Raises, Exits, Breaks}
use Rattle.jvm_model.specs.declared.ending.Ending.TheVariants.{Exited}
use Rattle.jvm_model.specs.Running.Run.{starts}
use Rattle.member_selection.specs.declared.outcome.Outcome.{Outcome as CodeOutcome}
use Rattle.member_selection.specs.declared.outcome.Outcome.TheVariants as code_outcome
use Rattle.member_selection.specs.declared.outcome.AbruptCompletion.TheVariants as abrupt
use Rattle.member_selection.specs.Going.{frames_gone, holds, left_with}
use Rattle.member_selection.specs.Outcomes.{outcome_view}
use Rattle.prepared_lines.specs.declared.line.Line.{Line}
use Rattle.prepared_code.specs.declared.parts.Parts.{Parts}
use Rattle.prepared_code.specs.States.{state_with}
use Rattle.prepared_code.specs.Versions.{Setup}
use Rattle.activations.specs.Applied.{IsTop, acts_asked, on_top, raised_in, run_ended}
use Rattle.activations.specs.Arguments.{can_begin}
use Rattle.activations.specs.TakenArguments.{Takes}
use Rattle.activations.specs.Invoking.{may_begin, method_called}
use Rattle.activations.proofs.Callees.{calls-is}
use Rattle.jvm_model.specs.Basis.Data.{Returns, Initializes}

-- the activation stays, and no class is initialized before
abbrev pub stays : Outcome → Bool
stays (Returns d) = false
stays (Breaks true) = false
stays (Initializes c) = false
stays _ = true

-- ---- by each outcome

module _ (w : Setup) (line : Line) (method : ℕ) (p : Parts) where
  abbrev applied : Outcome → List PlacedFrame → State
  applied q all = on_top (λ s f. acts_asked w line s f q) p all

  -- where the frame could not hold them the run ends
  abbrev gone_or_ended : Operands → List PlacedFrame → State
  gone_or_ended o all =
      cond (can_hold o all) (state_with (with_top (top_locals all) o line.next all) p) (state_with all (run_ended method line.instr.at p))

  pub goes-is : (o : Operands) (all : List PlacedFrame) → IsTop method all → gone_or_ended o all ≡ applied (GoesOn (top_locals all) o Next) all
  goes-is o [] top = absurd top
  goes-is o (f ∷ fs) top = by (nat_le (height_of o) f.max_stack) where
    by : (b : Bool)
        → cond b (state_with (record f { place = line.next; operands = o } ∷ fs) p) (state_with (f ∷ fs) (run_ended method line.instr.at p))
        ≡ cond b (state_with (record f { place = line.next; operands = o } ∷ fs) p) (state_with (f ∷ fs) (run_ended f.method line.instr.at p))
    by true = refl
    by false = ap (λ m. state_with (f ∷ fs) (run_ended m line.instr.at p)) top

  -- as the code goes on, or ends the run
  pub gone-is : (count : ℕ) (value : Option Value) (done : Bool) (frames : FramesView) → IsTop method p.frames.frames → done ≡ holds count value p.frames
      → frames ≡ frames_gone count value line.next p.frames → done ≡ true
      → state_with frames.frames p ≡ applied (GoesOn (top_locals p.frames.frames) (left_with count value p.frames.frames) Next) p.frames.frames
  gone-is count value done frames top answer went is =
      ap (λ (x : FramesView). state_with x.frames p) went
      ∙ (by (holds count value p.frames) (sym answer ∙ is)
      ∙ goes-is (left_with count value p.frames.frames) p.frames.frames top)
    where
      by : (b : Bool) → b ≡ true
          → state_with (if b then with_top (top_locals p.frames.frames) (left_with count value p.frames.frames) line.next p.frames.frames else p.frames.frames) p
          ≡ cond b (state_with (with_top (top_locals p.frames.frames) (left_with count value p.frames.frames) line.next p.frames.frames) p) (state_with p.frames.frames (run_ended method line.instr.at p))
      by true is = refl
      by false is = absurd (false≢true is)

  pub ended-is : (count : ℕ) (value : Option Value) (done : Bool) (frames : FramesView) → IsTop method p.frames.frames → done ≡ holds count value p.frames
      → frames ≡ frames_gone count value line.next p.frames → done ≡ false
      → state_with frames.frames (run_ended method line.instr.at p) ≡ applied (GoesOn (top_locals p.frames.frames) (left_with count value p.frames.frames) Next) p.frames.frames
  ended-is count value done frames top answer went is =
      ap (λ (x : FramesView). state_with x.frames (run_ended method line.instr.at p)) went
      ∙ (by (holds count value p.frames) (sym answer ∙ is)
      ∙ goes-is (left_with count value p.frames.frames) p.frames.frames top)
    where
      by : (b : Bool) → b ≡ false
          → state_with (if b then with_top (top_locals p.frames.frames) (left_with count value p.frames.frames) line.next p.frames.frames else p.frames.frames) (run_ended method line.instr.at p)
          ≡ cond b (state_with (with_top (top_locals p.frames.frames) (left_with count value p.frames.frames) line.next p.frames.frames) p) (state_with p.frames.frames (run_ended method line.instr.at p))
      by false is = refl
      by true is = absurd (false≢true (sym is))

  pub breaks-is : (all : List PlacedFrame) → IsTop method all → state_with all (run_ended method line.instr.at p) ≡ applied (Breaks false) all
  breaks-is [] top = absurd top
  breaks-is (f ∷ fs) top = ap (λ m. state_with (f ∷ fs) (run_ended m line.instr.at p)) top

  pub raises-is : (name : List ℕ) (message : Option (List ℕ)) (all : List PlacedFrame) → IsTop method all
      → state_with all (raised_in w.world name message p) ≡ applied (Raises name message) all
  raises-is name message [] top = absurd top
  raises-is name message (f ∷ fs) top = refl

  pub throws-is : (object : ℕ) (all : List PlacedFrame) → IsTop method all → state_with all (record p { thrown = Some object }) ≡ applied (Throws object) all
  throws-is object [] top = absurd top
  throws-is object (f ∷ fs) top = refl

  pub exits-is : (status : ℤ) (all : List PlacedFrame) → IsTop method all → state_with all (record p { ending = Some (Exited status) }) ≡ applied (Exits status) all
  exits-is status [] top = absurd top
  exits-is status (f ∷ fs) top = refl

  -- a method is invoked with so many arguments
  pub invokes-is : (callee count : ℕ) (args : List Datum) (below : Operands) (all : List PlacedFrame) → IsTop method all → length args ≡ count
      → Takes (top_operands all) args below
      → method_called w method line.instr.at callee count all p (may_begin all) (can_begin w.world callee count all) ≡ applied (Invokes callee args below) all
  invokes-is callee count args below [] top many takes = absurd top
  invokes-is callee count args below (f ∷ fs) top many takes =
      ap (λ n. method_called w method line.instr.at callee n (f ∷ fs) p (may_begin (f ∷ fs)) (can_begin w.world callee n (f ∷ fs))) (sym many)
      ∙ sym (calls-is w line callee p f fs method args below top takes)

-- ---- what was given starts no initialization, or that alone

pub stays-outcome : (a : CodeOutcome) (l : Locals) (o : Operands) → starts (outcome_view a l o) ≡ None → stays (outcome_view a l o) ≡ true
stays-outcome (code_outcome.Goes n v) l o none = refl
stays-outcome (code_outcome.Invokes m n) l o none = refl
stays-outcome (code_outcome.Abrupt (abrupt.Raises e message)) l o none = refl
stays-outcome (code_outcome.Abrupt (abrupt.Throws object)) l o none = refl
stays-outcome (code_outcome.Abrupt (abrupt.Initializes class)) l o none = absurd (none-some class (sym none))
stays-outcome (code_outcome.Abrupt (abrupt.Exits status)) l o none = refl
stays-outcome (code_outcome.Abrupt abrupt.Breaks) l o none = refl
