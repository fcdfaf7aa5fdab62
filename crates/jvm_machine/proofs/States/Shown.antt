-- What a machine shows at rest is what the run has.
use Rattle.std.proofs.Common.{◌≡◌, ℕ, suc, Bool, true, false, List, [], ◌∷◌, length, refl, sym, ap, subst, ◌∙◌}
use Rattle.std.specs.Prelude.{is_some, if◌then◌else◌, ◌&&◌}
use Rattle.std.proofs.lemmas.Bool.{and_parts}
use Rattle.jvm_model.specs.declared.event.Mark.{Mark}
use Rattle.jvm_model.specs.declared.state.Entry.{Entry}
use Rattle.jvm_model.specs.declared.state.Entry.TheVariants.{Active, Initializing}
use Rattle.jvm_model.specs.declared.state.State.{State}
use Rattle.jvm_model.specs.Running.Applies.{live_in}
use Rattle.jvm_model.specs.Running.Run.{before, run}
use Rattle.jvm_model.specs.Codes.Moved.{at_homes}
use Rattle.jvm_model.specs.Rewriting.StandsForRun.{versions_forgotten}
use Rattle.jvm_model.specs.Turns.Told.{helds}
use Rattle.jvm_model.proofs.Relocated.AppliesMoves.{live-moves}
use Rattle.interpreter.specs.declared.turns.hands.Hand.{Hand}
use Rattle.prepared_code.specs.Versions.{Setup, mark_of, method_of}
use Rattle.jvm_machine.specs.Machine.{IsMachine, Stands, state_seen}
use Rattle.jvm_machine.specs.Turns.{Ends}
use Rattle.jvm_machine.specs.View.{View, step_begun, has_ended, is_resting, step_rested, run_state}

-- live activations are those of the frames
helds-live : (mark : ℕ → Mark) (stack : List Entry) → length (helds mark stack) ≡ live_in stack
helds-live mark [] = refl
helds-live mark (Active f ∷ below) = ap suc (helds-live mark below)
helds-live mark (Initializing class part ∷ below) = helds-live mark below

-- of a state that stands for another
pub record Shows (s from_original : State) : Type 0 where
  pub output : s.output ≡ from_original.output
  pub ending : s.ending ≡ from_original.ending
  pub loaded : s.shared.loaded ≡ from_original.shared.loaded
  pub live : live_in s.stack ≡ live_in from_original.stack

pub stands-shows : (w : Setup) (homes : ℕ → ℕ → ℕ) (s from_original : State) → Stands w homes s from_original → Shows s from_original
stands-shows w homes s from_original stands = record {
  output = ap (λ (z : State). z.output) stands.versioned_is ∙ sym (ap (λ (z : State). z.output) stands.original_is);
  ending = ap (λ (z : State). z.ending) stands.versioned_is ∙ sym (ap (λ (z : State). z.ending) stands.original_is);
  loaded = ap (λ (z : State). z.shared.loaded) stands.versioned_is ∙ sym (ap (λ (z : State). z.shared.loaded) stands.original_is);
  live = (ap (λ (z : State). live_in z.stack) stands.versioned_is ∙ live-moves (at_homes homes) stands.between.stack)
      ∙ sym (ap (λ (z : State). live_in z.stack) stands.original_is ∙ live-moves (versions_forgotten (method_of w.versions)) stands.between.stack);
}

same-shows : (s z : State) → s ≡ z → Shows s z
same-shows s z e = record {
  output = ap (λ (x : State). x.output) e;
  ending = ap (λ (x : State). x.ending) e;
  loaded = ap (λ (x : State). x.shared.loaded) e;
  live = ap (λ (x : State). live_in x.stack) e;
}

module _ (w : Setup) (hand : Hand) (started broken : Bool) (clock : ℕ) (s : State) (is : IsMachine w hand (state_seen w s started broken clock hand) s)
    (v : View) (view : state_seen w s started broken clock hand ≡ v) (whole : v.broken ≡ false) where
  unbroken : broken ≡ false
  unbroken = ap (λ (x : View). x.broken) view ∙ whole

  shows-by : (b : Bool) → started ≡ b → is_resting (state_seen w s started broken clock hand) ≡ true → Shows s (if b then run w.world clock else before w.world)
  shows-by true e resting =
      stands-shows w is.homes s (run w.world clock)
      (subst (λ b. Stands w is.homes s (if b then run w.world clock else before w.world)) e ((is.whole unbroken).stands resting e))
  shows-by false e resting = same-shows s (before w.world) ((is.whole unbroken).first e).before

  pub rest-shows : is_resting v ≡ true → Shows s (run_state v)
  rest-shows resting = subst (λ (x : View). Shows s (run_state x)) view (shows-by started refl (ap is_resting view ∙ resting))

  -- as many activations are live
  pub rest-live : is_resting v ≡ true → length v.live ≡ live_in (run_state v).stack
  rest-live resting =
      ap (λ (x : View). length x.live) (sym view)
      ∙ (helds-live (mark_of w.versions) s.stack ∙ (rest-shows resting).live)

  pub over-is : is_resting v ≡ true → is_some s.ending ≡ (is_resting v && has_ended v)
  over-is resting = ap is_some (rest-shows resting).ending ∙ ap (λ b. b && has_ended v) (sym resting)

-- ---- turns without a step

pub over-ends : (v : View) → v.broken ≡ false → (is_resting v && has_ended v) ≡ true → Ends v v
over-ends v whole over = record {
  whole = whole;
  loads = λ going. absurd (let e : true ≡ false = sym over ∙ going in cc);
  all = λ going. absurd (let e : true ≡ false = sym over ∙ going in cc);
  stepped = ap (λ b. if b then v else step_rested (step_begun v)) (sym over);
  ended = (and_parts (is_resting v) (has_ended v) over).1;
}
