-- What the current frame does by itself is a step of the run: nothing follows from it.
use Rattle.std.proofs.Common.{◌≡◌, ℕ, suc, Bool, true, false, cond, List, [], ◌∷◌, length, map, Option, Some, None, refl, sym, ap, ◌∙◌}
use Rattle.std.specs.Prelude.{is_some, is_none, nat_le, ◌&&◌, ◌||◌}
use Rattle.std.specs.Option.{option_and_then}
use Rattle.std.proofs.lemmas.Option.{none-some, same_Some}
use Rattle.frame_stack.specs.Widths.{height_of}
use Rattle.frame_stack.specs.FrameLists.{PlacedFrame, FramesView, has_frame}
use Rattle.jvm_model.specs.declared.ending.Ending.{Ending}
use Rattle.jvm_model.specs.declared.state.State.{State}
use Rattle.jvm_model.specs.declared.instruction.Operation.TheVariants as operation
use Rattle.jvm_model.specs.Running.Run.{step}
use Rattle.jvm_basic.specs.declared.effect.Effect.TheVariants.{Next}
use Rattle.jvm_basic.specs.Outcomes.{Outcome, GoesOn, Raises, Breaks, Leaves, frames_in, with_top, outcome_asked, effect_of, after}
use Rattle.jvm_basic.specs.Rules.{rule_of}
use Rattle.prepared_lines.specs.declared.line.LocalAction.TheVariants as local_action
use Rattle.prepared_lines.specs.declared.line.Line.{Line}
use Rattle.prepared_code.specs.declared.initializations.Initialization.{Initialization}
use Rattle.prepared_code.specs.declared.parts.Here.{Here}
use Rattle.prepared_code.specs.declared.parts.Parts.{Parts}
use Rattle.instructions.specs.Acts.{acts_by, attempts_line, attempts_on, class_awaited, awaited_by, awaited_on}
use Rattle.prepared_code.specs.Initializations.{initialization_on, state_of, with_initializations}
use Rattle.prepared_code.specs.Runs.{IsAtInstruction, IsLineIn, IsPlainLine, LeadsPlainly, RunsVersion, top_version}
use Rattle.prepared_code.specs.Tables.{Version, Versions, version_at}
use Rattle.prepared_code.specs.States.{active, frame_in, here_of, state_with}
use Rattle.instructions.proofs.Attempts.Alone.{goes-next}
use Rattle.instructions.proofs.Silent.Leading.{leads-one, quiet-one}
use Rattle.instructions.proofs.Silent.QuietLines.{quiet-step}
use Rattle.instructions.proofs.Initializing.Carried.{comes-carried}
use Rattle.prepared_code.proofs.Initializing.InitializingStacks.{length-active}
use Rattle.instructions.proofs.Moves.LineSteps.{going-on, rests, step-attempts}
use Rattle.activations.proofs.TurnsCarried.{top-frame}
use Rattle.prepared_code.specs.Versions.{Setup, listing_of, line_at, line_in}
use Rattle.prepared_code.specs.Ready.{CanRun}

-- ---- nothing follows

pub still-framed : (x : Outcome) (f : PlacedFrame) (fs : List PlacedFrame) → has_frame (frames_in x (f ∷ fs)) ≡ true
still-framed (GoesOn l o place) f fs = by (nat_le (height_of o) f.max_stack) where
  by : (b : Bool) → has_frame (cond b (with_top l o place (f ∷ fs)) (f ∷ fs)) ≡ true
  by true = refl
  by false = refl
still-framed (Raises class) f fs = refl
still-framed Breaks f fs = refl
still-framed Leaves f fs = refl

pub at-rest : (ending : Option Ending) (thrown : Option ℕ) (framed : Bool) → ending ≡ None → thrown ≡ None → framed ≡ true
    → (is_some ending || (is_none thrown && framed)) ≡ true
at-rest (Some e) thrown framed none at_instruction is = refl
at-rest None (Some r) framed none at_instruction is = absurd cc
at-rest None None true none at_instruction is = refl
at-rest None None false none at_instruction is = absurd cc

-- the frames are as many
pub still-many : (x : Outcome) (fs : List PlacedFrame) → length (frames_in x fs) ≡ length fs
still-many (GoesOn l o place) [] = refl
still-many (GoesOn l o place) (f ∷ fs) = by (nat_le (height_of o) f.max_stack) where
  by : (b : Bool) → length (cond b (with_top l o place (f ∷ fs)) (f ∷ fs)) ≡ length (f ∷ fs)
  by true = refl
  by false = refl
still-many (Raises class) fs = refl
still-many Breaks fs = refl
still-many Leaves fs = refl

-- the run goes on with such frames, or rests, where nothing is thrown and no initialization stands on them
pub framed : (n : ℕ) (ms : List Initialization) (fs : List PlacedFrame) → initialization_on n ms ≡ None → length fs ≡ n → has_frame fs ≡ true
    → (has_frame fs && is_none (initialization_on (length fs) ms)) ≡ true
framed n ms fs none many is =
    ap (λ b. b && is_none (initialization_on (length fs) ms)) is ∙ ap is_none (ap (λ k. initialization_on k ms) many ∙ none)

pub goes : (ending : Option Ending) (b : Bool) → ending ≡ None → b ≡ true → (is_none ending && b) ≡ true
goes None true none is = refl
goes None false none is = absurd cc
goes (Some e) b none is = absurd cc

-- ---- a step

plain-at : (w : Setup) (run : CanRun w) (line : Line) (ms : List Initialization) (p : Parts) (fs : List PlacedFrame) (room : Option ℕ) (new : FramesView) → IsAtInstruction (length fs) ms p
    → IsPlainLine w fs line
    → (let old : FramesView = record { frames = fs; room = room } in effect_of (rule_of line.instr line.constant line.next) old ≡ Next)
    → (let old : FramesView = record { frames = fs; room = room } in new ≡ after (rule_of line.instr line.constant line.next) old)
    → with_initializations ms (state_with new.frames p) ≡ (step w.world (listing_of w.versions) (with_initializations ms (state_with fs p))).after
plain-at w run line ms p [] room new at_instruction stands e made = absurd stands
plain-at w run line ms p (f ∷ fs) room new at_instruction stands e made =
    let old : FramesView = record { frames = f ∷ fs; room = room } in
    let q : Parts = record p { frames = old } in
    let r : Parts = record p { frames = new } in
    let x : Outcome = outcome_asked (rule_of line.instr line.constant line.next) (f ∷ fs) in
    let has : has_frame new.frames ≡ true = ap (λ (s : FramesView). has_frame s.frames) made ∙ still-framed x f fs in
    let many : length new.frames ≡ length (f ∷ fs) = ap (λ (s : FramesView). length s.frames) made ∙ still-many x (f ∷ fs) in
    let free : initialization_on (suc (length (map active fs))) ms ≡ None = ap (λ n. initialization_on (suc n) ms) (length-active fs) ∙ at_instruction.executing in
    let going = going-on ms q (goes p.ending (has_frame (f ∷ fs) && is_none (initialization_on (length (f ∷ fs)) ms)) at_instruction.ending (framed (length (f ∷ fs)) ms (f ∷ fs) at_instruction.executing refl refl)) in
    let s : State = state_with fs p in
    let attempted : with_initializations ms (state_with new.frames p) ≡ attempts_line w (with_initializations ms s) (frame_in f) (line_at w.versions f.version f.place) =
    ap (with_initializations ms) (goes-next w line q f.method new refl e made)
    ∙ (comes-carried ms w line s (frame_in f) (rule_of line.instr line.constant line.next f.locals f.operands) free
    ∙ sym (ap (attempts_line w (with_initializations ms s) (frame_in f)) stands.0 ∙ ap (acts_by w line (with_initializations ms s) (frame_in f)) stands.1)) in
    step-attempts w run (state_of ms q) going
    (ap (awaited_on w (state_of ms q)) (top-frame ms f fs at_instruction.executing)
    ∙ (ap (awaited_by w (with_initializations ms s) (frame_in f)) stands.0 ∙ ap (class_awaited w (with_initializations ms s) (frame_in f)) stands.1))
    (with_initializations ms (state_with new.frames p)) (with_initializations ms (state_with new.frames p))
    (attempted ∙ sym (ap (attempts_on w (state_of ms q)) (top-frame ms f fs at_instruction.executing)))
    (rests w (listing_of w.versions) ms r
    (at-rest p.ending p.thrown (has_frame new.frames && is_none (initialization_on (length new.frames) ms)) at_instruction.ending at_instruction.thrown (framed (length (f ∷ fs)) ms new.frames at_instruction.executing many has)))

-- it has no change
quiet-at : (w : Setup) (run : CanRun w) (line : Line) (ms : List Initialization) (p : Parts) (fs : List PlacedFrame) (room : Option ℕ) → IsAtInstruction (length fs) ms p → IsPlainLine w fs line
    → (let old : FramesView = record { frames = fs; room = room } in effect_of (rule_of line.instr line.constant line.next) old ≡ Next)
    → (step w.world (listing_of w.versions) (with_initializations ms (state_with fs p))).changes ≡ []
quiet-at w run line ms p [] room at_instruction stands e = absurd stands
quiet-at w run line ms p (f ∷ fs) room at_instruction stands e = quiet-step w run line ms p f fs at_instruction stands e

-- ---- in the version that is at hand

pub plain-there : (w : Setup) (x : Version) (fs : List PlacedFrame) (line : Line) → RunsVersion w x fs → IsLineIn x fs line → line.operation ≡ operation.Within local_action.Basic → IsPlainLine w fs line
plain-there w x [] line runs stands local = absurd stands
plain-there w x (f ∷ fs) line runs stands local = (ap (option_and_then (line_in f.place)) runs ∙ stands, local)

pub runs-here : (v : Versions) (fs : List PlacedFrame) (here : Here) (x : Version) → here_of fs ≡ Some here → version_at v here.version ≡ Some x
    → option_and_then (version_at v) (top_version fs) ≡ Some x
runs-here v [] here x is held = absurd (none-some here is)
runs-here v (f ∷ fs) here x is held = ap (λ (h : Here). version_at v h.version) (same_Some _ here is) ∙ held

-- a frame stays in its version
pub same-version : (x : Outcome) (fs : List PlacedFrame) → top_version (frames_in x fs) ≡ top_version fs
same-version (GoesOn l o place) [] = refl
same-version (GoesOn l o place) (f ∷ fs) = by (nat_le (height_of o) f.max_stack) where
  by : (b : Bool) → top_version (cond b (with_top l o place (f ∷ fs)) (f ∷ fs)) ≡ top_version (f ∷ fs)
  by true = refl
  by false = refl
same-version (Raises class) fs = refl
same-version Breaks fs = refl
same-version Leaves fs = refl

pub stays-in : (line : Line) (old new : FramesView) → new ≡ after (rule_of line.instr line.constant line.next) old → top_version new.frames ≡ top_version old.frames
stays-in line old new made =
    ap (λ (s : FramesView). top_version s.frames) made ∙ same-version (outcome_asked (rule_of line.instr line.constant line.next) old.frames) old.frames

pub goes-on : (n : ℕ) (ms : List Initialization) (p : Parts) → IsAtInstruction n ms p → is_some p.ending ≡ false
goes-on n ms p at_instruction = ap is_some at_instruction.ending

pub plain-one : (w : Setup) (run : CanRun w) (line : Line) (old new : FramesView) → IsPlainLine w old.frames line
    → effect_of (rule_of line.instr line.constant line.next) old ≡ Next → new ≡ after (rule_of line.instr line.constant line.next) old
    → LeadsPlainly w old.frames 1 new.frames
plain-one w run line old new stands e made = record {
  many = ap (λ (s : FramesView). length s.frames) made ∙ still-many (outcome_asked (rule_of line.instr line.constant line.next) old.frames) old.frames;
  leads = λ ms p at_instruction.
      leads-one w (with_initializations ms (state_with old.frames p)) (with_initializations ms (state_with new.frames p)) (goes-on (length old.frames) ms p at_instruction)
      (plain-at w run line ms p old.frames old.room new at_instruction stands e made);
  quiet = λ ms p at_instruction. quiet-one w (with_initializations ms (state_with old.frames p)) (quiet-at w run line ms p old.frames old.room at_instruction stands e);
}
