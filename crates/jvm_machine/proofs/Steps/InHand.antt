-- A machine that has ended the step in hand, and has passed steps behind it.
use Rattle.std.proofs.Common.{◌≡◌, ℕ, ◌+◌, Bool, true, false, List, length, Option, Some, None, refl, sym, ap, ap₂, subst, ◌∙◌}
use Rattle.std.specs.Prelude.{◌&&◌}
use Rattle.interpreter.specs.declared.turns.hands.Gone.{Gone}
use Rattle.interpreter.specs.declared.turns.hands.Hand.{Hand}
use Rattle.interpreter.specs.Moves.Passing.{Passes as Silent}
use Rattle.interpreter.specs.Moves.Quickly.{GoesQuickly}
use Rattle.interpreter.specs.Moves.Onward.{StopsIf}
use Rattle.jvm_model.specs.Basis.Data.{World}
use Rattle.jvm_model.specs.declared.due.Due.{Due}
use Rattle.jvm_model.specs.declared.due.Due.TheVariants.{Nothing}
use Rattle.jvm_model.specs.Running.Run.{starts_with}
use Rattle.jvm_model.specs.Turns.Pauses.{told_at}
use Rattle.prepared_code.specs.declared.initializations.Initialization.{Initialization}
use Rattle.prepared_code.specs.declared.parts.Parts.{Parts}
use Rattle.prepared_code.specs.Initializations.{state_of}
use Rattle.prepared_code.specs.Originals.{AreNamesKnown, OriginalsView, setup_in, setup_of}
use Rattle.prepared_code.specs.Ready.{CanRun, IsSoundIn}
use Rattle.prepared_code.specs.Runs.{IsAtInstruction}
use Rattle.prepared_code.specs.Versions.{Setup}
use Rattle.prepared_code.proofs.Tables.StandingSteps.{set-up-runs}
use Rattle.jvm_machine.specs.declared.advancing.Telling.TheVariants as telling
use Rattle.jvm_machine.specs.Advances.{Stops, left_in}
use Rattle.jvm_machine.specs.Machine.{IsMachine, IsTidy, Keeps, state_seen, state_viewed}
use Rattle.jvm_machine.specs.Probes.{IfLeaves}
use Rattle.jvm_machine.specs.Several.{EndsUpTo}
use Rattle.jvm_machine.specs.Turns.{Settles, Turns, turn_by}
use Rattle.jvm_machine.specs.View.{View, has_ended, is_resting}
use Rattle.jvm_machine.proofs.Steps.Quickly.{quick-going, quick-leaves, quick-machine, quick-stops, quick-tidy}
use Rattle.jvm_machine.proofs.Steps.Exits.{GoesOnFrom}
use Rattle.jvm_machine.proofs.States.KeptOn.{keeps-on}
use Rattle.jvm_machine.proofs.Versions.HeldVersions.{plain-view, seen-is}
use Rattle.jvm_machine.proofs.Steps.Onward.{behind-none, behind-some}
use Rattle.jvm_machine.proofs.Steps.Turned.{rests-then, turned}

-- what is not going on where no step is in hand has not ended
not-ended : (rests ended : Bool) → rests ≡ true → (rests && ended) ≡ false → ended ≡ false
not-ended true ended e going = going
not-ended false ended e going = absurd (let h : false ≡ true = e in cc)

module _ (o : OriginalsView) (hand : Hand) (started broken : Bool) (clock : ℕ) (ms : List Initialization) (p : Parts) (v : View)
    (keeps : Keeps o p.runtime hand started broken clock (state_of ms p)) (viewed : state_viewed (setup_in p.runtime o) (state_of ms p) started broken clock hand ≡ v)
    (begun_is : started ≡ true) (whole : broken ≡ false) (in_hand : is_resting v ≡ false)
    (after : Parts) (gone : Gone) (goes : GoesQuickly (setup_in p.runtime o) ms hand p gone after) (hands : GoesOnFrom (setup_in p.runtime o) hand (state_of ms p) gone (state_of ms after))
    (sound : IsSoundIn (setup_in p.runtime o) (state_of ms p) → IsSoundIn (setup_in p.runtime o) (state_of ms after))
    (starts : hand.moves ≡ true → hand.delivered ≡ false → state_of ms p ≡ starts_with p.runtime.world → IsSoundIn (setup_in p.runtime o) (state_of ms after))
    (done : gone.due ≡ Nothing) (at_instruction : IsAtInstruction (length after.frames.frames) ms after) where
  abbrev w : Setup
  w = setup_in p.runtime o

  view : state_seen w (state_of ms p) started broken clock hand ≡ v
  view = seen-is keeps viewed

  abbrev first : View
  first = state_seen w (state_of ms after) started broken clock (left_in gone)

  machine : IsMachine w (left_in gone) first (state_of ms after)
  machine =
      quick-machine w hand started broken clock ms p keeps.machine v view begun_is whole false (sym in_hand) hand refl after gone goes hands sound starts clock refl (left_in gone) refl

  tidy : IsTidy w.versions (state_of ms after).stack
  tidy =
      quick-tidy w hand started broken clock ms p keeps.machine v view begun_is whole false (sym in_hand) hand refl after gone goes hands sound starts clock refl (left_in gone) refl
      (keeps.tidy whole)

  first-keeps : Keeps o after.runtime (left_in gone) started broken clock (state_of ms after)
  first-keeps = keeps-on o p.runtime after.runtime goes.world goes.loaded keeps.program keeps.known machine (λ same. tidy)

  first-viewed : state_viewed (setup_in after.runtime o) (state_of ms after) started broken clock (left_in gone) ≡ first
  first-viewed =
      subst (λ (x : World). state_viewed (setup_of x o) (state_of ms after) started broken clock (left_in gone) ≡ first) (sym goes.world)
      (plain-view w (left_in gone) started broken clock (state_of ms after) (λ same. tidy))

  stops : Stops v gone.due first
  stops =
      quick-stops w hand started broken clock ms p keeps.machine v view begun_is whole false (sym in_hand) hand refl after gone goes hands sound starts clock refl (left_in gone) refl

  leaves : IfLeaves (telling.Due gone.due) first
  leaves =
      quick-leaves w hand started broken clock ms p keeps.machine v view begun_is whole false (sym in_hand) hand refl after gone goes hands sound starts clock refl (left_in gone) refl

  untold : told_at gone.due first.clock first.live ≡ None
  untold = ap (λ d. told_at d first.clock first.live) done

  rests : is_resting first ≡ true
  rests = rests-then v first gone.due stops untold

  runs : has_ended first ≡ false
  runs =
      not-ended (is_resting first) (has_ended first) rests
      (quick-going w (left_in gone) started broken clock ms after machine first refl begun_is whole true (sym rests) at_instruction.ending)

  ends : Settles v first
  ends =
      subst (λ t. Turns v t first) (ap₂ turn_by untold runs)
      (turned v first gone.due (ap (λ (x : View). x.broken) (sym view) ∙ whole) (ap (λ b. b && has_ended v) in_hand) stops leaves)

  -- what steps behind it ask
  pub known-behind : AreNamesKnown o after.runtime
  known-behind = first-keeps.known whole

  pub run-behind : CanRun (setup_in after.runtime o)
  run-behind = set-up-runs (setup_in after.runtime o) first-keeps.machine.homes first-keeps.machine.has

  pub sound-behind : IsSoundIn (setup_in after.runtime o) (state_of ms after)
  sound-behind = subst (λ (x : World). IsSoundIn (setup_of x o) (state_of ms after)) (sym goes.world) ((machine.whole whole).rests rests begun_is)

  module _ (n : ℕ) (between : Parts) (silent : Silent (setup_in after.runtime o) ms after n between) where
    -- what holds behind them
    pub record Ended (h : Hand) (c : ℕ) (due : Option Due) (new : Parts) : Type 0 where
      pub kept : Keeps o new.runtime h started broken c (state_of ms new)
      pub passes : EndsUpTo v n due (state_viewed (setup_in new.runtime o) (state_of ms new) started broken c h)

    pub ends-none : (all : Option Gone) (new : Parts) → None ≡ all → StopsIf (setup_in after.runtime o) ms between all new → (h : Hand) → h ≡ left_in gone → Ended h (clock + n) None new
    ends-none all new e is h left =
        let behind = behind-none o (left_in gone) started broken clock ms after first first-keeps first-viewed begun_is
        whole rests n between silent all new e is in
        subst (λ x. Ended x (clock + n) None new) (sym left)
        (record { kept = behind.kept; passes = record { first = first; ends = ends; behind = behind.passes } })

    pub ends-some : (all : Option Gone) (next : Gone) (new : Parts) → Some next ≡ all → StopsIf (setup_in after.runtime o) ms between all new → (c : ℕ) → c ≡ clock + n + 1 → (h : Hand) → h ≡ left_in next
        → Ended h c (Some next.due) new
    ends-some all next new e is c ticks h left =
        let behind = behind-some o (left_in gone) started broken clock ms after first first-keeps first-viewed begun_is
        whole rests n between silent all next new e is c ticks h left in
        record { kept = behind.kept; passes = record { first = first; ends = ends; behind = behind.passes } }
