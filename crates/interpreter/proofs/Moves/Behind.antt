-- An instruction that awaits a class: what its second attempt asks. Several steps leave a sound state.
use Rattle.std.proofs.Common.{◌≡◌, ℕ, zero, suc, true, List, length, Option, Some, None, sym, ap, subst, ◌∙◌}
use Rattle.std.specs.Prelude.{is_none, ◌&&◌}
use Rattle.std.proofs.lemmas.Bool.{and_parts}
use Rattle.frame_stack.specs.FrameLists.{has_frame}
use Rattle.jvm_model.specs.declared.state.State.{State}
use Rattle.jvm_model.specs.Running.Applies.{still}
use Rattle.jvm_model.specs.Running.Run.{is_ready}
use Rattle.jvm_model.specs.Basis.SharedState.{phase_of}
use Rattle.jvm_model.proofs.Soundness.SoundListingRuns.{sound-step}
use Rattle.jvm_model.proofs.Soundness.SoundListingSteps.{sound-settled}
use Rattle.prepared_code.specs.declared.initializations.Initialization.{Initialization}
use Rattle.prepared_code.specs.declared.parts.Parts.{Parts}
use Rattle.instructions.specs.Acts.{attempts_on, awaited_in, goes_on_in}
use Rattle.prepared_code.specs.Initializations.{is_executing, initialization_on, state_of}
use Rattle.prepared_code.specs.Runs.{Leads, steps_from, steps_from-zero, steps_from-suc}
use Rattle.instructions.proofs.Moves.LineSteps.{IsGoing, behind, going-again, going-on, none-of, executing}
use Rattle.instructions.proofs.Moves.Sounded.{attempted-sound}
use Rattle.prepared_code.specs.Versions.{Setup, listing_of}
use Rattle.prepared_code.specs.Ready.{CanRun, IsSoundIn, RunsIn}

-- a frame that stands on top goes on
goes-there : (ms : List Initialization) (p : Parts) → IsGoing (state_of ms p) → goes_on_in ms p ≡ true
goes-there ms p going = ap (λ e. is_none e && (has_frame p.frames.frames && is_executing ms p)) going.ending ∙ executing ms p going

pub none-there : (ms : List Initialization) (p : Parts) → goes_on_in ms p ≡ true → initialization_on (length p.frames.frames) ms ≡ None
none-there ms p goes =
    none-of ms (length p.frames.frames) (and_parts (has_frame p.frames.frames) (is_executing ms p) (and_parts (is_none p.ending) (has_frame p.frames.frames && is_executing ms p) goes).1).1

-- ---- a step whose instruction awaits a class

-- the parts before, with the attempt and the moves behind it
module _ (w : Setup) (run : CanRun w) (ms : List Initialization) (p : Parts) (goes : goes_on_in ms p ≡ true) (o : Option ℕ) (c : ℕ) (answer : o ≡ awaited_in w (state_of ms p)) (some : o ≡ Some c)
    (mid : State) (attempted : mid ≡ attempts_on w (state_of ms p) (state_of ms p).stack) (ms_then : List Initialization) (then_there : Parts)
    (settles : state_of ms_then then_there ≡ behind w mid) where
  going : IsGoing (state_of ms p)
  going = going-on ms p goes

  awaits : awaited_in w (state_of ms p) ≡ Some c
  awaits = sym answer ∙ some

  module _ (ready : is_ready (phase_of then_there.runtime.shared c) ≡ true) where
    pub executing-again : initialization_on (length then_there.frames.frames) ms_then ≡ None
    executing-again =
        none-there ms_then then_there
        (goes-there ms_then then_there (going-again w run (state_of ms p) going c awaits mid (state_of ms_then then_there) attempted settles ready))

  pub sound-again : IsSoundIn w (state_of ms p) → IsSoundIn w (state_of ms_then then_there)
  sound-again is =
      subst (IsSoundIn w) (sym settles)
      (sound-settled (RunsIn w.versions) w.world run.fit (listing_of w.versions) run.listing (still mid) (subst (IsSoundIn w) (sym attempted) (attempted-sound w run (state_of ms p) going is)))

-- ---- several steps leave a sound state

steps-sound : (w : Setup) → CanRun w → (n : ℕ) (s : State) → IsSoundIn w s → IsSoundIn w (steps_from w n s)
steps-sound w fit zero s is = subst (IsSoundIn w) (sym (steps_from-zero w s)) is
steps-sound w fit (suc n) s is = subst (IsSoundIn w) (sym (steps_from-suc w n s)) (sound-step (RunsIn w.versions) w.world fit.fit (listing_of w.versions) fit.listing (steps_from w n s) (steps-sound w fit n s is))

pub leads-sound : (w : Setup) → CanRun w → (old : State) (n : ℕ) (new : State) → Leads w old n new → IsSoundIn w old → IsSoundIn w new
leads-sound w fit old n new leads is = subst (IsSoundIn w) (sym leads.made) (steps-sound w fit n old is)
