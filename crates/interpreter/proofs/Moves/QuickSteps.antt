-- Where a step stops by an attempt that was made at an instruction, and what is due there.
use Rattle.std.proofs.Common.{◌≡◌, ◌-◌, ℕ, suc, Bool, true, false, List, [], ◌∷◌, length, Some, None, refl, sym, ap, ◌∙◌, arith}
use Rattle.std.specs.Prelude.{is_none, not, ◌&&◌, ◌==◌}
use Rattle.std.proofs.lemmas.Option.{none-some, same_Some}
use Rattle.std.proofs.lemmas.Bool.{and_right}
use Rattle.frame_stack.specs.FrameLists.{PlacedFrame, has_frame, top_of}
use Rattle.jvm_model.specs.declared.due.Due.TheVariants.{Begins, Ends, Nothing}
use Rattle.jvm_model.specs.declared.event.EventKind.TheVariants as kind
use Rattle.jvm_model.specs.declared.state.State.{State}
use Rattle.jvm_model.specs.Rewriting.Images.{is_off}
use Rattle.prepared_code.specs.declared.initializations.Initialization.{Initialization}
use Rattle.prepared_lines.specs.declared.line.Line.{Line}
use Rattle.prepared_code.specs.declared.parts.Here.{Here}
use Rattle.prepared_code.specs.declared.parts.Parts.{Parts}
use Rattle.prepared_code.specs.Versions.{Setup, current_of, line_at, mark_of, listing_of}
use Rattle.instructions.specs.Acts.{goes_on_in}
use Rattle.activations.specs.Arguments.{with_begun}
use Rattle.prepared_code.specs.Initializations.{initialization_on, state_of}
use Rattle.prepared_code.specs.Ready.{CanRun}
use Rattle.prepared_code.specs.Runs.{IsAtInstruction}
use Rattle.prepared_code.specs.States.{here_of}
use Rattle.interpreter.specs.Moves.Quickly.{Attempted, TriesQuickly}
use Rattle.interpreter.specs.Moves.Trying.{is_return_line, leaves_at, leaves_in, returns_by}
use Rattle.activations.specs.Turning.{loads_none, pause_at, paused_in}
use Rattle.interpreter.proofs.Moves.Followed.{counts_one, enters_none, enters_top, follows-on, follows-told}
use Rattle.instructions.proofs.Moves.LineSteps.{rest-moves}
use Rattle.interpreter.proofs.Moves.OneMove.{rest-pauses}
use Rattle.interpreter.proofs.Moves.TriedSteps.{leaves-loads, leaves-pause, tries-once, tries-silently}
use Rattle.instructions.proofs.Silent.PlainSteps.{at-rest, framed, goes}

pub has-here : (here : Here) (fs : List PlacedFrame) → here_of fs ≡ Some here → has_frame fs ≡ true
has-here here [] is = absurd (none-some here is)
has-here here (f ∷ fs) is = refl

-- what is told of a frame in this place
leaves-here : (w : Setup) (here : Here) (fs : List PlacedFrame) → here_of fs ≡ Some here → leaves_in w.versions fs ≡ leaves_at w.versions here.version here.place
leaves-here w here [] is = absurd (none-some here is)
leaves-here w here (f ∷ fs) is =
    let same : record { version = f.version; method = f.method; place = f.place } ≡ here = same_Some _ here is in
    ap (λ (h : Here). leaves_at w.versions h.version h.place) same

-- a method that has begun is on top
top-begun : (w : Setup) (method count : ℕ) (fs : List PlacedFrame) → top_of (with_begun true w method count fs) ≡ Some (current_of w.versions method, method)
top-begun w method count fs = refl

-- ---- an attempt was made

module _ (w : Setup) (run : CanRun w) (ms : List Initialization) (old new : Parts) (has : has_frame old.frames.frames ≡ true) (at_instruction : IsAtInstruction (length old.frames.frames) ms old)
    (is : Attempted w ms old new) where
  abbrev s : State
  s = state_of ms old

  abbrev after : State
  after = state_of ms new

  abbrev live : ℕ
  live = length old.frames.frames

  going : goes_on_in ms old ≡ true
  going =
      goes old.ending (has_frame old.frames.frames && is_none (initialization_on (length old.frames.frames) ms)) at_instruction.ending
      (framed (length old.frames.frames) ms old.frames.frames at_instruction.executing refl has)

  none : loads_none w s ≡ true
  none = ap (λ (classes : List ℕ). length classes == 0) is.loads

  -- a method has begun, in a version with probes
  pub begins-quickly : (delivered : Bool) (version method : ℕ) → leaves_in w.versions old.frames.frames ≡ false → top_of new.frames.frames ≡ Some (version, method)
      → length new.frames.frames ≡ suc (length old.frames.frames) → is_off (mark_of w.versions (current_of w.versions method)) ≡ false
      → TriesQuickly w ms delivered old Begins new
  begins-quickly delivered version method apart top more marked =
      let enters = sym (enters_top w.versions live new.frames.frames version method top (omega (arith, more))) ∙ ap not marked in
      let counts = counts_one 0 live new.frames.frames (λ same. absurd (omega (arith, same, more))) in
      let once = tries-once w run ms old going 0 live refl none None (sym is.awaits) after is.made (pause_at after 1 Begins)
      (follows-told w live 0 ms new 1 counts enters) refl in
      record {
        loads = none;
        reaches = once ∙ tries-silently w delivered 0 ms old run going (and_right (not delivered) (leaves_in w.versions old.frames.frames) apart);
        loaded = is.loaded;
        world = is.world;
        keeps = is.keeps;
      }

  -- a return of which its probe has told was made
  pub leaves-quickly : length new.frames.frames ≡ length old.frames.frames - 1 → has_frame new.frames.frames ≡ true → TriesQuickly w ms true old Nothing new
  leaves-quickly fewer framed_then =
      let rests = at-rest new.ending new.thrown (has_frame new.frames.frames && is_none (initialization_on (length new.frames.frames) ms)) is.at_instruction.ending is.at_instruction.thrown
      (framed (length new.frames.frames) ms new.frames.frames is.at_instruction.executing refl framed_then) in
      let one : length old.frames.frames ≡ suc (length old.frames.frames - 1) = some-frame old.frames.frames has in
      let counts = counts_one 0 live new.frames.frames (λ same. absurd (omega (arith, same, fewer, one))) in
      let enters = sym (enters_none w.versions live new.frames.frames (omega (arith, fewer, one))) in
      let paused : pause_at after 1 Nothing ≡ paused_in w 1 after = sym (rest-pauses w 1 after (rest-moves w (listing_of w.versions) ms new rests)) in
      record {
        loads = none;
        reaches = tries-once w run ms old going 0 live refl none None (sym is.awaits) after is.made (pause_at after 1 Nothing)
            (paused ∙ follows-on w live 0 ms new 1 counts enters) refl;
        loaded = is.loaded;
        world = is.world;
        keeps = is.keeps;
      }
    where
      some-frame : (fs : List PlacedFrame) → has_frame fs ≡ true → length fs ≡ suc (length fs - 1)
      some-frame [] is = absurd cc
      some-frame (f ∷ fs) is = omega arith

-- ---- before one

-- the probe of a return tells first
pub stops-quickly : (w : Setup) (run : CanRun w) (ms : List Initialization) (old : Parts) (here : Here) (line : Line) → here_of old.frames.frames ≡ Some here
    → IsAtInstruction (length old.frames.frames) ms old → line_at w.versions here.version here.place ≡ Some line → returns_by line.operation ≡ true
    → not (is_off (mark_of w.versions here.version)) ≡ true → TriesQuickly w ms false old (Ends kind.Leave) old
stops-quickly w run ms old here line stands at_instruction found returns marked =
    let going = goes old.ending (has_frame old.frames.frames && is_none (initialization_on (length old.frames.frames) ms)) at_instruction.ending
    (framed (length old.frames.frames) ms old.frames.frames at_instruction.executing refl (has-here here old.frames.frames stands)) in
    let leaves : leaves_in w.versions old.frames.frames ≡ true =
    leaves-here w here old.frames.frames stands
    ∙ (ap (λ b. b && is_return_line (line_at w.versions here.version here.place)) marked ∙ (ap is_return_line found ∙ returns)) in
    record {
      loads = sym (leaves-loads w false 0 ms old run going leaves);
      reaches = leaves-pause w false 0 ms old run going leaves;
      loaded = refl;
      world = refl;
      keeps = λ k superseded runs. runs;
    }

-- a line that is none
pub no-return : (w : Setup) (here : Here) (line : Line) (fs : List PlacedFrame) → here_of fs ≡ Some here → line_at w.versions here.version here.place ≡ Some line
    → returns_by line.operation ≡ false → leaves_in w.versions fs ≡ false
no-return w here line fs stands found isnt =
    leaves-here w here fs stands
    ∙ and_right (not (is_off (mark_of w.versions here.version))) (is_return_line (line_at w.versions here.version here.place)) (ap is_return_line found ∙ isnt)
