-- A machine that has passed steps, and the next one up to where a probe tells of it.
use Rattle.std.proofs.Common.{◌≡◌, ℕ, ◌+◌, Bool, true, false, List, Option, Some, None, sym, ap, subst, ◌∙◌, refl}
use Rattle.interpreter.specs.declared.turns.hands.Gone.{Gone}
use Rattle.interpreter.specs.declared.turns.hands.Hand.{Hand}
use Rattle.interpreter.specs.Moves.Passing.{Passes as Silent}
use Rattle.interpreter.specs.Moves.Onward.{StopsIf, empty_hand}
use Rattle.jvm_model.specs.declared.due.Due.{Due}
use Rattle.jvm_model.specs.Basis.Data.{World}
use Rattle.prepared_code.specs.declared.initializations.Initialization.{Initialization}
use Rattle.prepared_code.specs.declared.parts.Parts.{Parts}
use Rattle.prepared_code.specs.Initializations.{state_of}
use Rattle.prepared_code.specs.Originals.{OriginalsView, setup_in, setup_of}
use Rattle.prepared_code.specs.Versions.{Setup}
use Rattle.jvm_machine.specs.Advances.{left_in}
use Rattle.jvm_machine.specs.Machine.{IsMachine, IsTidy, Keeps, state_seen, state_viewed}
use Rattle.jvm_machine.specs.Several.{Passes, PassesUpTo}
use Rattle.jvm_machine.specs.View.{View, is_resting}
use Rattle.jvm_machine.proofs.Steps.Quickly.{quick-going, quick-leaves, quick-machine, quick-stops, quick-tidy}
use Rattle.jvm_machine.proofs.States.KeptOn.{keeps-on}
use Rattle.jvm_machine.proofs.Versions.HeldVersions.{plain-view, seen-is}
use Rattle.jvm_machine.proofs.Steps.QuietSteps.{plain-machine, plain-passes, plain-tidy}

module _ (o : OriginalsView) (hand : Hand) (started broken : Bool) (clock : ℕ) (ms : List Initialization) (p : Parts) (v : View)
    (keeps : Keeps o p.runtime hand started broken clock (state_of ms p)) (viewed : state_viewed (setup_in p.runtime o) (state_of ms p) started broken clock hand ≡ v)
    (begun_is : started ≡ true) (whole : broken ≡ false) (rests : is_resting v ≡ true)
    (n : ℕ) (between : Parts) (silent : Silent (setup_in p.runtime o) ms p n between) where
  abbrev w : Setup
  w = setup_in p.runtime o

  view : state_seen w (state_of ms p) started broken clock hand ≡ v
  view = seen-is keeps viewed

  abbrev mid : View
  mid = state_seen w (state_of ms between) started broken (clock + n) hand

  mid-machine : IsMachine w hand mid (state_of ms between)
  mid-machine = plain-machine w hand started broken clock ms p keeps.machine v view begun_is whole rests n between silent

  mid-tidy : IsTidy w.versions (state_of ms between).stack
  mid-tidy = plain-tidy w hand started broken clock ms p keeps.machine v view begun_is whole rests n between silent (keeps.tidy whole)

  mid-passes : Passes v n mid
  mid-passes = plain-passes w hand started broken clock ms p keeps.machine v view begun_is whole rests n between silent

  mid-rests : true ≡ is_resting mid
  mid-rests = sym (ap is_resting view ∙ rests)

  -- what holds behind them
  pub record Behind (h : Hand) (c : ℕ) (due : Option Due) (after : Parts) : Type 0 where
    pub kept : Keeps o after.runtime h started broken c (state_of ms after)
    pub passes : PassesUpTo v n due (state_viewed (setup_in after.runtime o) (state_of ms after) started broken c h)

  behind-seen : (h : Hand) (c : ℕ) (due : Option Due) (after : Parts) → after.runtime.world ≡ p.runtime.world → after.runtime.shared.loaded ≡ p.runtime.shared.loaded → IsMachine w h (state_seen w (state_of ms after) started broken c h) (state_of ms after)
      → IsTidy w.versions (state_of ms after).stack → PassesUpTo v n due (state_seen w (state_of ms after) started broken c h) → Behind h c due after
  behind-seen h c due after world loaded machine tidy passes = record {
    kept = keeps-on o p.runtime after.runtime world loaded keeps.program keeps.known machine (λ same. tidy);
    passes = subst (λ (x : World). PassesUpTo v n due (state_viewed (setup_of x o) (state_of ms after) started broken c h)) (sym world)
        (subst (PassesUpTo v n due) (sym (plain-view w h started broken c (state_of ms after) (λ same. tidy))) passes);
  }

  pub behind-none : (gone : Option Gone) (after : Parts) → None ≡ gone → StopsIf w ms between gone after → Behind hand (clock + n) None after
  behind-none None after e same =
      subst (Behind hand (clock + n) None) (sym same)
      (behind-seen hand (clock + n) None between silent.world silent.loaded mid-machine mid-tidy (record { between = mid; passes = mid-passes; reaches = refl }))
  behind-none (Some gone) after e stops = absurd cc

  pub behind-some : (all : Option Gone) (gone : Gone) (after : Parts) → Some gone ≡ all → StopsIf w ms between all after → (c : ℕ) → c ≡ clock + n + 1 → (h : Hand) → h ≡ left_in gone
      → Behind h c (Some gone.due) after
  behind-some None gone after e stops c ticks h left = absurd cc
  behind-some (Some other) gone after e stops c ticks h left =
      let is : other ≡ gone = cc in
      subst (λ (g : Gone). h ≡ left_in g → Behind h c (Some g.due) after) is
      (λ left. behind-seen h c (Some other.due) after (stops.goes.world ∙ silent.world) (stops.goes.loaded ∙ silent.loaded)
      (quick-machine w hand started broken (clock + n) ms between mid-machine mid refl begun_is whole true mid-rests empty_hand refl after other stops.goes stops.hands stops.sound
      (λ no. absurd (let e : false ≡ true = no in cc)) c ticks h left)
      (quick-tidy w hand started broken (clock + n) ms between mid-machine mid refl begun_is whole true mid-rests empty_hand refl after other stops.goes stops.hands stops.sound
      (λ no. absurd (let e : false ≡ true = no in cc)) c ticks h left mid-tidy)
      (record {
        between = mid;
        passes = mid-passes;
        reaches = record {
          whole = whole;
          went_on = quick-going w hand started broken (clock + n) ms between mid-machine mid refl begun_is whole true mid-rests silent.at_instruction.ending;
          stops = quick-stops w hand started broken (clock + n) ms between mid-machine mid refl begun_is whole true mid-rests empty_hand refl after other stops.goes stops.hands stops.sound
              (λ no. absurd (let e : false ≡ true = no in cc)) c ticks h left;
          leaves = quick-leaves w hand started broken (clock + n) ms between mid-machine mid refl begun_is whole true mid-rests empty_hand refl after other stops.goes stops.hands stops.sound
              (λ no. absurd (let e : false ≡ true = no in cc)) c ticks h left;
          after = whole;
        };
      }))
      left
