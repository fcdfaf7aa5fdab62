-- How a machine is left by one call, in terms of what the calls within it have answered.
use Rattle.std.proofs.Common.{◌≡◌, ℕ, ◌+◌, Bool, true, false, List, ◌∷◌, drop, length, Option, Some, None, refl, sym, ap, ap₂, subst, ◌∙◌, inl, inr}
use Rattle.std.specs.Prelude.{Result, Ok, Err, OnErr, IfNone, is_some, if◌then◌else◌, ◌==◌, ◌||◌}
use Rattle.std.specs.Option.{IfSome}
use Rattle.jf_bytes.proofs.Lists.{empty_from_length}
use Rattle.frame_stack.specs.FrameLists.{PlacedFrame}
use Rattle.jvm_model.specs.declared.state.State.{State}
use Rattle.jvm_model.specs.Basis.Data.{Turn, World}
use Rattle.jvm_model.specs.Running.Run.{starts_with, with_classes_loaded}
use Rattle.jvm_model.specs.Turns.Told.{Held, helds}
use Rattle.interpreter.specs.declared.turns.hands.Gone.{Gone}
use Rattle.interpreter.specs.declared.turns.hands.Hand.{Hand}
use Rattle.interpreter.specs.Moves.Hands.{HasGoneOn, HasInHand, IsLeft}
use Rattle.prepared_code.specs.Ready.{CanRun, IsSoundIn}
use Rattle.prepared_code.specs.Standing.{HasVersions, IsPinned}
use Rattle.prepared_code.specs.Tables.{Releases}
use Rattle.activations.specs.Turning.{loads_in, loads_none}
use Rattle.prepared_code.specs.Versions.{Setup, mark_of}
use Rattle.prepared_code.proofs.Tables.StandingSteps.{set-up-runs}
use Rattle.jvm_machine.specs.Advances.{Stops, TellsClasses, broken_in, clock_in, left_in, taken_hand, taken_loads, taken_state}
use Rattle.jvm_machine.specs.Machine.{IsMachine, IsSoundOnce, state_seen}
use Rattle.jvm_machine.specs.View.{View, clock_advanced, is_resting}
use Rattle.jvm_machine.proofs.States.Machines.{at_rest, clock-more, drop-front, goes-stops, gone-machine, loads-machine, loads-tell, released-machine, released-seen, same-state, some-front, start-machine, start-tells, started-if}

pub on-err : {A E : Type 0} (X : Type 0) (r : Result A E) → X → OnErr r X
on-err X (Ok a) x = tt
on-err X (Err e) x = x

-- ---- what the calls have answered

-- the start has loaded classes
abbrev pub TellsStart : Setup → List ℕ → Hand → State → ℕ → View → Type 0
TellsStart w l h s c v = (length l == 0) ≡ false
    → TellsClasses v l (state_seen w s true false c h) × IsMachine w h (state_seen w s true false c h) s

abbrev pub one_passed : Hand → Hand
one_passed h = record h { passed = 1 }

-- the step has loaded classes, and they are the last ones
abbrev pub TellsStep : Setup → List ℕ → Hand → State → ℕ → View → Type 0
TellsStep w l h s c v = (o : Option Gone) → ((g : Gone) → o ≡ Some g → ⊥) → is_some o ≡ (h.moves || loads_none w s) → (s' : State)
    → IfNone o (s' ≡ with_classes_loaded (loads_in w s) s) → (IsSoundIn w s → IsSoundIn w s')
    → TellsClasses v (drop (length s.shared.loaded) s'.shared.loaded) (state_seen w s' true false c (one_passed h)) × IsMachine w (one_passed h) (state_seen w s' true false c (one_passed h)) s'

abbrev pub GoesOnFrom : Setup → Hand → State → Gone → State → Type 0
GoesOnFrom w h s gone new = (homes : ℕ → ℕ → ℕ) (whole : Turn) (live : List Held) → HasVersions w homes → HasInHand w homes whole h live s → HasGoneOn w homes whole h live gone new

-- it has gone on, and superseded versions were dropped
abbrev pub GoesThere : Setup → List ℕ → Hand → State → ℕ → View → Type 0
GoesThere w l h s c v = (length l == 0) ≡ true → (o : Option Gone) (gone : Gone) → o ≡ Some gone → is_some o ≡ (h.moves || loads_none w s) → (new : State)
    → IfSome o (λ gone. IsLeft gone) → (IsSoundIn w s → IsSoundIn w new) → (h.moves ≡ true → h.delivered ≡ false → s ≡ starts_with w.world → IsSoundIn w new)
    → IfSome o (λ gone. GoesOnFrom w h s gone new)
    → (fs : List PlacedFrame) → IsPinned fs new.stack → (w' : Setup) → w'.world ≡ w.world → Releases fs w.versions w'.versions → (h' : Hand) → h' ≡ left_in gone
    → Stops v gone.due (state_seen w' new true false c h') × IsMachine w' h' (state_seen w' new true false c h') new

-- what an attempt asks
abbrev pub IsAttempted : Setup → List ℕ → Hand → State → ℕ → View → Type 0
IsAttempted w l h s c v = h.moves ≡ false → IsSoundIn w s

-- ---- one call

module _ (w : Setup) (h : Hand) (started broken : Bool) (clock : ℕ) (s : State) (whole : broken ≡ false) (is : IsMachine w h (state_seen w s started broken clock h) s)
    (oldv : View) (view : state_seen w s started broken clock h ≡ oldv) (resting : Bool) (rests : resting ≡ is_resting oldv) (clock' : ℕ) (ticks : clock' ≡ clock_in resting started clock) where
  unbroken : IsMachine w h (state_seen w s started false clock h) s
  unbroken = subst (λ b. IsMachine w h (state_seen w s started b clock h) s) whole is

  abbrev now : Bool
  now = is_resting (state_seen w s started false clock h)

  old-is : state_seen w s started false clock h ≡ oldv
  old-is = ap (λ b. state_seen w s started b clock h) (sym whole) ∙ view

  now-is : now ≡ resting
  now-is = ap is_resting view ∙ sym rests

  clock-is : clock_in now started clock ≡ clock'
  clock-is = ap (λ r. clock_in r started clock) now-is ∙ sym ticks

  -- ---- where memory has run out

  module _ (w1 : Setup) (same : w1 ≡ w) (h1 : Hand) (s1 : State) where
    pub broken-machine : IsMachine w1 h1 (state_seen w1 s1 true true clock' h1) s1
    broken-machine =
        subst (λ (x : Setup). IsMachine x h1 (state_seen x s1 true true clock' h1) s1) (sym same) (record {
          homes = is.homes;
          has = is.has;
          before_the_run = λ no. absurd (let e : true ≡ false = no in cc);
          whole = λ no. absurd (let e : true ≡ false = no in cc);
        })

    broken-by : (r : Bool) → now ≡ r → state_seen w s1 true true (clock_in r started clock) h1
        ≡ record (if r then clock_advanced (state_seen w s started false clock h) else state_seen w s started false clock h) { broken = true; passed = h1.passed; delivered = h1.delivered; live = helds (mark_of w.versions) s1.stack }
    broken-by true e = refl
    broken-by false e = ap (λ b. state_seen w s1 b true clock h1) (sym (started-if w h started clock s unbroken started refl e))

    pub broken-seen : state_seen w1 s1 true true clock' h1 ≡ broken_in oldv (state_seen w1 s1 true true clock' h1)
    broken-seen =
        subst (λ (x : Setup). state_seen x s1 true true clock' h1 ≡ broken_in oldv (state_seen x s1 true true clock' h1)) (sym same)
        (subst (λ v. state_seen w s1 true true clock' h1 ≡ broken_in v (state_seen w s1 true true clock' h1)) old-is
        (subst (λ c. state_seen w s1 true true c h1 ≡ broken_in (state_seen w s started false clock h) (state_seen w s1 true true c h1)) clock-is (broken-by now refl)))

  -- ---- what was taken up

  module _ (w1 : Setup) (same : w1 ≡ w) (loads : List ℕ) (loads_are : loads ≡ taken_loads w.world resting started) (h1 : Hand) (handed : h1 ≡ taken_hand w.world resting started h)
      (s1 : State) (there : s1 ≡ taken_state w.world resting started s) where
    carried : (P : Setup → List ℕ → Hand → State → ℕ → View → Type 0)
        → P w (taken_loads w.world now started) (taken_hand w.world now started h) (taken_state w.world now started s) (clock_in now started clock) (state_seen w s started false clock h)
        → P w1 loads h1 s1 clock' oldv
    carried P holds =
        subst (λ x. P x loads h1 s1 clock' oldv) (sym same)
        (subst (λ x. P w x h1 s1 clock' oldv) (ap (λ r. taken_loads w.world r started) now-is ∙ sym loads_are)
        (subst (λ x. P w (taken_loads w.world now started) x s1 clock' oldv) (ap (λ r. taken_hand w.world r started h) now-is ∙ sym handed)
        (subst (λ x. P w (taken_loads w.world now started) (taken_hand w.world now started h) x clock' oldv) (ap (λ r. taken_state w.world r started s) now-is ∙ sym there)
        (subst (λ x. P w (taken_loads w.world now started) (taken_hand w.world now started h) (taken_state w.world now started s) x oldv) clock-is
        (subst (λ x. P w (taken_loads w.world now started) (taken_hand w.world now started h) (taken_state w.world now started s) (clock_in now started clock) x) old-is holds)))))

    -- classes of the start
    start-by : TellsStart w (taken_loads w.world now started) (taken_hand w.world now started h) (taken_state w.world now started s) (clock_in now started clock) (state_seen w s started false clock h)
    start-by some =
        let front = some-front (taken_loads w.world now started) some in (
          subst (λ l. TellsClasses (state_seen w s started false clock h) l (state_seen w (taken_state w.world now started s) true false (clock_in now started clock) (taken_hand w.world now started h))) (sym front.2)
              (start-tells w h started clock s unbroken front.0 front.1 front.2),
          start-machine w h started clock s unbroken front.0 front.1 front.2,
        )

    pub tells-start : TellsStart w1 loads h1 s1 clock' oldv
    tells-start = carried TellsStart start-by

    -- ---- an attempt can be made

    pub can-run : CanRun w1
    can-run = subst CanRun (sym same) (set-up-runs w is.homes is.has)

    once-sound : (hand : Hand) (z : State) → hand.moves ≡ false → IsSoundOnce w hand z → IsSoundIn w z
    once-sound hand z attempt (inl sound) = sound
    once-sound hand z attempt (inr starting) = absurd (let e : true ≡ false = sym starting.moves ∙ attempt in cc)

    attempted-by : (r b : Bool) → now ≡ r → started ≡ b → (taken_hand w.world r b h).moves ≡ false → IsSoundIn w (taken_state w.world r b s)
    attempted-by true true e f attempt = (unbroken.whole refl).rests e f
    attempted-by true false e f attempt = absurd (let g : true ≡ false = attempt in cc)
    attempted-by false b e f attempt = once-sound h s attempt ((unbroken.whole refl).sound e)

    pub is-attempted : h1.moves ≡ false → IsSoundIn w1 s1
    is-attempted = carried IsAttempted (attempted-by now started refl refl)

    -- ---- classes of the step

    is-none : (o : Option Gone) → ((g : Gone) → o ≡ Some g → ⊥) → o ≡ None
    is-none None other = refl
    is-none (Some g) other = absurd (other g refl)

    step-by : TellsStep w (taken_loads w.world now started) (taken_hand w.world now started h) (taken_state w.world now started s) (clock_in now started clock) (state_seen w s started false clock h)
    step-by o other some s' loads' sound =
        let gone : o ≡ None = is-none o other in
        let none = sym some ∙ ap is_some gone in
        let rest = at_rest w h started clock s unbroken none in
        let front = some-front (loads_in w s) rest.loads in
        let same : taken_state w.world now started s ≡ s = same-state w h started clock s unbroken none in
        let made : s' ≡ with_classes_loaded (loads_in w s) s =
        subst (λ x. IfNone x (s' ≡ with_classes_loaded (loads_in w (taken_state w.world now started s)) (taken_state w.world now started s))) gone loads'
        ∙ ap (λ (z : State). with_classes_loaded (loads_in w z) z) same in
        let hand : one_passed (taken_hand w.world now started h) ≡ record { moves = false; delivered = false; passed = 1 } =
        ap₂ (λ r b. one_passed (taken_hand w.world r b h)) rest.first rest.begun in
        let ticks : clock_in now started clock ≡ clock + 1 = clock-more w h started clock s unbroken none in
        let next : State = with_classes_loaded (loads_in w s) s in
        let lasts : front.0 ∷ front.1 ≡ drop (length (taken_state w.world now started s).shared.loaded) s'.shared.loaded =
        sym (ap₂ (λ (a b : State). drop (length a.shared.loaded) b.shared.loaded) same made ∙ (ap (λ l. drop (length s.shared.loaded) (with_classes_loaded l s).shared.loaded) front.2 ∙ drop-front s.shared.loaded (front.0 ∷ front.1))) in (
          subst (λ l. TellsClasses (state_seen w s started false clock h) l (state_seen w s' true false (clock_in now started clock) (one_passed (taken_hand w.world now started h)))) lasts
              (subst (λ (z : State). TellsClasses (state_seen w s started false clock h) (front.0 ∷ front.1) (state_seen w z true false (clock_in now started clock) (one_passed (taken_hand w.world now started h)))) (sym made)
              (subst (λ c. TellsClasses (state_seen w s started false clock h) (front.0 ∷ front.1) (state_seen w next true false c (one_passed (taken_hand w.world now started h)))) (sym ticks)
              (subst (λ (k : Hand). TellsClasses (state_seen w s started false clock h) (front.0 ∷ front.1) (state_seen w next true false (clock + 1) k)) (sym hand)
              (loads-tell w h started clock s unbroken none front.0 front.1 front.2)))),
          subst (λ (z : State). IsMachine w (one_passed (taken_hand w.world now started h)) (state_seen w z true false (clock_in now started clock) (one_passed (taken_hand w.world now started h))) z) (sym made)
              (subst (λ c. IsMachine w (one_passed (taken_hand w.world now started h)) (state_seen w next true false c (one_passed (taken_hand w.world now started h))) next) (sym ticks)
              (subst (λ (k : Hand). IsMachine w k (state_seen w next true false (clock + 1) k) next) (sym hand)
              (loads-machine w h started clock s unbroken none front.0 front.1 front.2
              (λ is. subst (IsSoundIn w) made (sound (subst (IsSoundIn w) (sym same) is)))))),
        )

    pub tells-step : TellsStep w1 loads h1 s1 clock' oldv
    tells-step = carried TellsStep step-by

    -- ---- it goes on

    goes-by : GoesThere w (taken_loads w.world now started) (taken_hand w.world now started h) (taken_state w.world now started s) (clock_in now started clock) (state_seen w s started false clock h)
    goes-by none o gone is_gone some new left sound starts hands fs pinned w' world released h' handed' =
        let nothing = empty_from_length (taken_loads w.world now started) none in
        let enough = sym some ∙ ap is_some is_gone in
        let left_there : IsLeft gone = subst (λ o. IfSome o (λ gone. IsLeft gone)) is_gone left in
        let on : GoesOnFrom w (taken_hand w.world now started h) (taken_state w.world now started s) gone new =
        subst (λ o. IfSome o (λ gone. GoesOnFrom w (taken_hand w.world now started h) (taken_state w.world now started s) gone new)) is_gone hands in
        let u : Setup = record w { versions = w'.versions } in
        let same : u ≡ w' = ap (λ (x : World). let z : Setup = record { world = x; versions = w'.versions } in z) (sym world) in
        let c : ℕ = clock_in now started clock in
        let machine = gone-machine w h started clock s unbroken nothing enough new gone left_there on sound starts in
        let stops = goes-stops w h started clock s unbroken nothing enough new gone left_there on in (
          subst (λ (x : Setup). Stops (state_seen w s started false clock h) gone.due (state_seen x new true false c h')) same
              (subst (λ (k : Hand). Stops (state_seen w s started false clock h) gone.due (state_seen u new true false c k)) (sym handed')
              (subst (Stops (state_seen w s started false clock h) gone.due) (sym (released-seen w fs w'.versions released (left_in gone) c new pinned machine)) stops)),
          subst (λ (x : Setup). IsMachine x h' (state_seen x new true false c h') new) same
              (subst (λ (k : Hand). IsMachine u k (state_seen u new true false c k) new) (sym handed')
              (released-machine w fs w'.versions released (left_in gone) c new pinned machine)),
        )

    pub goes-there : GoesThere w1 loads h1 s1 clock' oldv
    goes-there = carried GoesThere goes-by
