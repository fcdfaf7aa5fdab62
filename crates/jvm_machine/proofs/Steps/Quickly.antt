-- A machine that has gone on quickly, its run standing at an instruction.
use Rattle.std.proofs.Common.{◌≡◌, ℕ, Bool, true, false, List, [], refl, sym, ap, ap₂, subst, ◌∙◌, None, inl, inr}
use Rattle.std.specs.Prelude.{is_some, ◌&&◌, ◌||◌}
use Rattle.jvm_model.specs.declared.state.State.{State}
use Rattle.jvm_model.specs.Running.Run.{starts_with}
use Rattle.prepared_code.specs.declared.initializations.Initialization.{Initialization}
use Rattle.interpreter.specs.declared.turns.hands.Gone.{Gone}
use Rattle.interpreter.specs.declared.turns.hands.Hand.{Hand}
use Rattle.prepared_code.specs.declared.parts.Parts.{Parts}
use Rattle.prepared_code.specs.Versions.{Setup}
use Rattle.prepared_code.specs.Initializations.{state_of}
use Rattle.prepared_code.specs.Ready.{IsSoundIn}
use Rattle.interpreter.specs.Moves.Quickly.{GoesQuickly}
use Rattle.interpreter.specs.Moves.Hands.{IsLeft}
use Rattle.activations.specs.Turning.{loads_none}
use Rattle.jvm_machine.specs.declared.advancing.Telling.TheVariants as telling
use Rattle.jvm_machine.specs.Advances.{Stops, clock_in, left_in, taken_hand, taken_loads, taken_state}
use Rattle.jvm_machine.specs.Machine.{IsMachine, IsSoundOnce, IsTidy, state_seen}
use Rattle.jvm_machine.specs.Probes.{IfLeaves}
use Rattle.jvm_machine.specs.View.{View, IsGoingOn, has_ended, is_resting}
use Rattle.jvm_machine.proofs.Probes.BeforeReturns.{leaves-by}
use Rattle.jvm_machine.proofs.Steps.Exits.{GoesOnFrom}
use Rattle.jvm_machine.proofs.States.Machines.{goes-stops, gone-machine}
use Rattle.jvm_machine.proofs.States.Shown.{over-is}

-- what was taken up of a machine that was started: the step in hand, or the next one
module _ (w : Setup) (h : Hand) (clock : ℕ) (s : State) (is : IsMachine w h (state_seen w s true false clock h) s) (taken : Hand)
    (handed : taken ≡ taken_hand w.world (is_resting (state_seen w s true false clock h)) true h) where
  abbrev now : Bool
  now = is_resting (state_seen w s true false clock h)

  nothing : taken_loads w.world now true ≡ []
  nothing = by now where
    by : (b : Bool) → taken_loads w.world b true ≡ []
    by true = refl
    by false = refl

  same : taken_state w.world now true s ≡ s
  same = by now where
    by : (b : Bool) → taken_state w.world b true s ≡ s
    by true = refl
    by false = refl

  -- an attempt is from a sound state
  attempted : taken.moves ≡ false → IsSoundIn w s
  attempted moves = by now refl (sym (ap (λ (x : Hand). x.moves) handed) ∙ moves) where
    once : (hand : Hand) → hand.moves ≡ false → IsSoundOnce w hand s → IsSoundIn w s
    once hand attempt (inl sound) = sound
    once hand attempt (inr starting) = absurd (let e : true ≡ false = sym starting.moves ∙ attempt in cc)

    by : (b : Bool) → now ≡ b → (taken_hand w.world b true h).moves ≡ false → IsSoundIn w s
    by true e attempt = (is.whole refl).rests e refl
    by false e attempt = once h attempt ((is.whole refl).sound e)

  module _ (new : State) (gone : Gone) (some : (taken.moves || loads_none w s) ≡ true) (left : IsLeft gone) (hands : GoesOnFrom w taken s gone new)
      (sound : IsSoundIn w s → IsSoundIn w new) (starts : taken.moves ≡ true → taken.delivered ≡ false → s ≡ starts_with w.world → IsSoundIn w new) where
    abbrev Some' : Hand → State → Type 0
    Some' hand z = (hand.moves || loads_none w z) ≡ true

    abbrev Starts : Hand → State → Type 0
    Starts hand z = hand.moves ≡ true → hand.delivered ≡ false → z ≡ starts_with w.world → IsSoundIn w new

    carried : (P : Hand → State → Type 0) → P taken s → P (taken_hand w.world now true h) (taken_state w.world now true s)
    carried P holds = subst (λ z. P (taken_hand w.world now true h) z) (sym same) (subst (λ x. P x s) handed holds)

    abbrev then_clock : ℕ
    then_clock = clock_in now true clock

    abbrev there : View
    there = state_seen w new true false then_clock (left_in gone)

    stops : Stops (state_seen w s true false clock h) gone.due there
    stops = goes-stops w h true clock s is nothing (carried Some' some) new gone left (carried (λ hand z. GoesOnFrom w hand z gone new) hands)

    machine : IsMachine w (left_in gone) there new
    machine =
        gone-machine w h true clock s is nothing (carried Some' some) new gone left (carried (λ hand z. GoesOnFrom w hand z gone new) hands)
        (carried (λ hand z. IsSoundIn w z → IsSoundIn w new) sound) (carried Starts starts)

-- ---- of the parts of a machine

module _ (w : Setup) (h : Hand) (started broken : Bool) (clock : ℕ) (ms : List Initialization) (p : Parts)
    (is : IsMachine w h (state_seen w (state_of ms p) started broken clock h) (state_of ms p)) (v : View) (view : state_seen w (state_of ms p) started broken clock h ≡ v)
    (begun_is : started ≡ true) (whole : broken ≡ false) (resting : Bool) (rests : resting ≡ is_resting v) where
  abbrev s : State
  s = state_of ms p

  is-now : IsMachine w h (state_seen w s true false clock h) s
  is-now =
      subst (λ b. IsMachine w h (state_seen w s b false clock h) s) begun_is
      (subst (λ b. IsMachine w h (state_seen w s started b clock h) s) whole is)

  view-now : state_seen w s true false clock h ≡ v
  view-now = ap₂ (λ a b. state_seen w s a b clock h) (sym begun_is) (sym whole) ∙ view

  resting-is : is_resting (state_seen w s true false clock h) ≡ resting
  resting-is = ap is_resting view-now ∙ sym rests

  -- the run goes on
  pub quick-going : p.ending ≡ None → IsGoingOn v
  quick-going ending = by (is_resting v) refl where
    by : (b : Bool) → is_resting v ≡ b → (is_resting v && has_ended v) ≡ false
    by true e =
        sym (over-is w h started broken clock s is v view (ap (λ (x : View). x.broken) (sym view) ∙ whole) e) ∙ ap is_some ending
    by false e = ap (λ b. b && has_ended v) e

  pub was-whole : v.broken ≡ false
  was-whole = ap (λ (x : View). x.broken) (sym view) ∙ whole

  module _ (taken : Hand) (handed : taken ≡ taken_hand w.world resting true h) where
    handed-now : taken ≡ taken_hand w.world (is_resting (state_seen w s true false clock h)) true h
    handed-now = handed ∙ ap (λ b. taken_hand w.world b true h) (sym resting-is)

    pub quick-attempted : taken.moves ≡ false → IsSoundIn w s
    quick-attempted = attempted w h clock s is-now taken handed-now

    module _ (after : Parts) (gone : Gone) (goes : GoesQuickly w ms taken p gone after) (hands : GoesOnFrom w taken s gone (state_of ms after))
        (sound : IsSoundIn w s → IsSoundIn w (state_of ms after))
        (starts : taken.moves ≡ true → taken.delivered ≡ false → s ≡ starts_with w.world → IsSoundIn w (state_of ms after))
        (clock' : ℕ) (ticks : clock' ≡ clock_in resting true clock) (h' : Hand) (left : h' ≡ left_in gone) where
      abbrev new : State
      new = state_of ms after

      ticks-now : clock_in (is_resting (state_seen w s true false clock h)) true clock ≡ clock'
      ticks-now = ap (λ b. clock_in b true clock) resting-is ∙ sym ticks

      as-now : (P : View → Type 0) → P (state_seen w new true false (clock_in (is_resting (state_seen w s true false clock h)) true clock) (left_in gone))
          → P (state_seen w new started broken clock' h')
      as-now P holds =
          subst (λ b. P (state_seen w new started b clock' h')) (sym whole)
          (subst (λ b. P (state_seen w new b false clock' h')) (sym begun_is)
          (subst (λ x. P (state_seen w new true false clock' x)) (sym left)
          (subst (λ c. P (state_seen w new true false c (left_in gone))) ticks-now holds)))

      pub quick-stops : Stops v gone.due (state_seen w new started broken clock' h')
      quick-stops =
          as-now (Stops v gone.due)
          (subst (λ x. Stops x gone.due (state_seen w new true false (clock_in (is_resting (state_seen w s true false clock h)) true clock) (left_in gone))) view-now
          (stops w h clock s is-now taken handed-now new gone goes.loads goes.left hands sound starts))

      pub quick-machine : IsMachine w h' (state_seen w new started broken clock' h') new
      quick-machine =
          as-now (λ x. IsMachine w h' x new)
          (subst (λ x. IsMachine w x (state_seen w new true false (clock_in (is_resting (state_seen w s true false clock h)) true clock) (left_in gone)) new) (sym left)
          (machine w h clock s is-now taken handed-now new gone goes.loads goes.left hands sound starts))

      pub quick-leaves : IfLeaves (telling.Due gone.due) (state_seen w new started broken clock' h')
      quick-leaves =
          as-now (IfLeaves (telling.Due gone.due))
          (leaves-by w (left_in gone) (clock_in (is_resting (state_seen w s true false clock h)) true clock) new gone refl goes.left
          (machine w h clock s is-now taken handed-now new gone goes.loads goes.left hands sound starts))

      pub quick-tidy : IsTidy w.versions s.stack → IsTidy w.versions new.stack
      quick-tidy tidy k superseded = goes.keeps k superseded (tidy k superseded)
