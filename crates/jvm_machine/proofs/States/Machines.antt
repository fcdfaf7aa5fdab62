-- What a machine keeps to, from turn to turn.
use Rattle.std.proofs.Common.{◌≡◌, ℕ, ◌+◌, Bool, true, false, List, [], ◌∷◌, ◌++◌, drop, length, refl, sym, ap, ap₂, subst, ◌∙◌, inl, inr, arith}
use Rattle.std.specs.Prelude.{not, ◌==◌, ◌&&◌, ◌||◌, if◌then◌else◌}
use Rattle.std.proofs.lemmas.Bool.{and_parts, not-true, eqb-true}
use Rattle.jf_bytes.proofs.Lists.{empty_from_length}
use Rattle.frame_stack.specs.FrameLists.{PlacedFrame}
use Rattle.jvm_model.specs.declared.due.Due.{Due}
use Rattle.jvm_model.specs.declared.due.Due.TheVariants.{Nothing, Ends, Begins}
use Rattle.jvm_model.specs.declared.state.State.{State}
use Rattle.jvm_model.specs.Basis.Data.{Turn}
use Rattle.jvm_model.specs.Turns.InHand.{behind_load}
use Rattle.jvm_model.specs.Turns.Pauses.{is_end}
use Rattle.jvm_model.specs.Turns.Rest.{loads_first}
use Rattle.jvm_model.specs.Running.Run.{before, main_loads, run, starts_with, turn, with_classes_loaded}
use Rattle.jvm_model.specs.Turns.Told.{Held, helds}
use Rattle.interpreter.specs.declared.turns.hands.Gone.{Gone}
use Rattle.interpreter.specs.declared.turns.hands.Hand.{Hand}
use Rattle.interpreter.specs.Moves.Hands.{HasGoneOn, HasInHand, IsLeft}
use Rattle.prepared_code.specs.Ready.{IsSoundIn}
use Rattle.prepared_code.specs.Standing.{HasVersions, IsPinned}
use Rattle.prepared_code.specs.Tables.{Releases, Versions}
use Rattle.activations.specs.Turning.{loads_in, loads_none}
use Rattle.prepared_code.specs.Versions.{Setup, mark_of}
use Rattle.jvm_machine.specs.Advances.{Stops, TellsClasses, clock_in, left_in, passed_then, taken_hand, taken_loads, taken_state, told_in}
use Rattle.jvm_machine.specs.Machine.{IsMachine, IsSoundOnce, IsWhole, Stands, state_seen}
use Rattle.jvm_machine.specs.View.{View, clock_advanced, step_begun, is_resting, loads_next, next_stop}
use Rattle.jvm_machine.proofs.Steps.Going.{due-is, goes-hand, goes-rests, goes-stopped, in-hand-loads, no-loads, passed-some, start-first, start-hand, starts-held, step-first, step-hand}
use Rattle.jvm_machine.proofs.Versions.Kept.{AreKept, kept-of-sound, kept-once}
use Rattle.jvm_machine.proofs.Versions.Released.{hand-left, has-then, helds-left, same-marks, sound-left, stands-left, then_homes}

-- ---- lists

pub some-front : (l : List ℕ) → (length l == 0) ≡ false → (c : ℕ) × (more : List ℕ) × (l ≡ c ∷ more)
some-front [] e = absurd (let h : true ≡ false = e in cc)
some-front (c ∷ more) e = (c, more, refl)

pub drop-front : (front more : List ℕ) → drop (length front) (front ++ more) ≡ more
drop-front [] more = refl
drop-front (c ∷ front) more = drop-front front more

-- ---- superseded versions are dropped

module _ (w : Setup) (fs : List PlacedFrame) (after : Versions) (released : Releases fs w.versions after) (hand : Hand) (clock : ℕ) (s : State) (pinned : IsPinned fs s.stack)
    (is : IsMachine w hand (state_seen w s true false clock hand) s) where
  abbrev u : Setup
  u = record w { versions = after }

  machine-kept : (resting : Bool) → is_resting (state_seen w s true false clock hand) ≡ resting → AreKept w.versions s.stack
  machine-kept true e = kept-of-sound w s ((is.whole refl).rests e refl)
  machine-kept false e = kept-once w hand s ((is.whole refl).sound e)

  are : AreKept w.versions s.stack
  are = machine-kept (is_resting (state_seen w s true false clock hand)) refl

  pub released-seen : state_seen u s true false clock hand ≡ state_seen w s true false clock hand
  released-seen =
      ap₂ (λ marks live. record (state_seen w s true false clock hand) { marks = marks; live = live })
      (same-marks w is.homes is.has fs after released) (helds-left w is.homes is.has fs after released s are pinned)

  sound-then : IsSoundOnce w hand s → IsSoundOnce u hand s
  sound-then (inl sound) = inl (sound-left w is.homes is.has fs after released s pinned sound)
  sound-then (inr starting) = inr (record { moves = starting.moves; undelivered = starting.undelivered; begins = starting.begins })

  pub released-machine : IsMachine u hand (state_seen u s true false clock hand) s
  released-machine =
      let whole = is.whole refl in
      record {
        homes = then_homes w is.homes is.has fs after released;
        has = has-then w is.homes is.has fs after released;
        before_the_run = λ no. absurd (let e : true ≡ false = no in cc);
        whole = λ same. record {
          stands = λ resting yes. stands-left w is.homes is.has fs after released s (run w.world clock) pinned (whole.rests resting refl) (whole.stands resting refl);
          rests = λ resting yes. sound-left w is.homes is.has fs after released s pinned (whole.rests resting refl);
          in_hand = λ busy. subst (λ live. HasInHand u (then_homes w is.homes is.has fs after released) (turn w.world clock) hand live s)
              (sym (helds-left w is.homes is.has fs after released s are pinned))
              (hand-left w is.homes is.has fs after released (turn w.world clock) hand (helds (mark_of w.versions) s.stack) s are pinned (whole.in_hand busy));
          sound = λ busy. sound-then (whole.sound busy);
          first = λ no. absurd (let e : true ≡ false = no in cc);
        };
      }

-- ---- what is taken up

module _ (w : Setup) (hand : Hand) (started : Bool) (clock : ℕ) (s : State) (is : IsMachine w hand (state_seen w s started false clock hand) s) where
  abbrev pub old : View
  old = state_seen w s started false clock hand

  abbrev pub resting_now : Bool
  resting_now = is_resting old

  abbrev pub then_hand : Hand
  then_hand = taken_hand w.world resting_now started hand

  abbrev pub then_state : State
  then_state = taken_state w.world resting_now started s

  abbrev pub then_clock : ℕ
  then_clock = clock_in resting_now started clock

  homes : ℕ → ℕ → ℕ
  homes = is.homes

  whole_now : IsWhole w is.homes hand old s
  whole_now = is.whole refl

  stands_now : resting_now ≡ true → started ≡ true → Stands w is.homes s (run w.world clock)
  stands_now e f = subst (λ b. Stands w is.homes s (if b then run w.world clock else before w.world)) f (whole_now.stands e f)

  resting-parts : resting_now ≡ true → (hand.passed ≡ 0) × (hand.delivered ≡ false)
  resting-parts e = let both = and_parts (hand.passed == 0) (not hand.delivered) e in (eqb-true hand.passed 0 both.0, not-true hand.delivered both.1)

  -- it was started, or nothing is in hand
  pub started-if : (b : Bool) → started ≡ b → resting_now ≡ false → b ≡ true
  started-if true e busy = refl
  started-if false e busy =
      let before_the_run = is.before_the_run e in
      absurd (let h : true ≡ false = sym (ap₂ (λ n delivered. n == 0 && not delivered) before_the_run.passed before_the_run.delivered) ∙ busy in cc)

  no-frames : started ≡ false → helds (mark_of w.versions) s.stack ≡ []
  no-frames e = ap (λ (z : State). helds (mark_of w.versions) z.stack) (whole_now.first e).before

  -- ---- what is seen then

  abbrev seen_by : Bool → Bool → View
  seen_by resting started = state_seen w (taken_state w.world resting started s) true false (clock_in resting started clock) (taken_hand w.world resting started hand)

  abbrev begun_by : Bool → ℕ → View
  begun_by resting n = record (if resting then clock_advanced old else old) { passed = n }

  rest-seen : (b : Bool) → started ≡ b → resting_now ≡ true → seen_by true b ≡ begun_by true (taken_hand w.world true b hand).passed
  rest-seen true e rests =
      ap₂ (λ (b delivered : Bool). record (seen_by true true) { clock = if b then clock + 1 else 0; delivered = delivered }) (sym e) (sym (resting-parts rests).1)
  rest-seen false e rests =
      ap₂ (λ (b delivered : Bool). record (seen_by true false) { clock = if b then clock + 1 else 0; delivered = delivered }) (sym e) (sym (resting-parts rests).1)
      ∙ ap (λ live. record (begun_by true (behind_load (main_loads w.world))) { live = live }) (starts-held (mark_of w.versions) w.world ∙ sym (no-frames e))

  taken-seen : (resting : Bool) → resting_now ≡ resting → seen_by resting started ≡ record (step_begun old) { passed = (taken_hand w.world resting started hand).passed }
  taken-seen true e =
      rest-seen started refl e ∙ ap (λ r. begun_by r (taken_hand w.world true started hand).passed) (sym e)
  taken-seen false e =
      ap (λ b. state_seen w s b false clock hand) (sym (started-if started refl e)) ∙ ap (λ r. begun_by r hand.passed) (sym e)

  -- where it has loaded nothing, that is the step in hand
  passed-same : (resting b : Bool) → resting_now ≡ resting → started ≡ b → taken_loads w.world resting b ≡ [] → (taken_hand w.world resting b hand).passed ≡ hand.passed
  passed-same true true e f none = sym (resting-parts e).0
  passed-same true false e f none = ap behind_load none ∙ sym (resting-parts e).0
  passed-same false b e f none = refl

  begun-same : (resting : Bool) → resting_now ≡ resting → begun_by resting hand.passed ≡ step_begun old
  begun-same resting e = ap (λ r. begun_by r hand.passed) (sym e) ∙ by resting_now where
    by : (r : Bool) → begun_by r hand.passed ≡ (if r then clock_advanced old else old)
    by true = refl
    by false = refl

  taken-begun : taken_loads w.world resting_now started ≡ [] → seen_by resting_now started ≡ step_begun old
  taken-begun none =
      taken-seen resting_now refl
      ∙ (ap (λ n. record (step_begun old) { passed = n }) (passed-same resting_now started refl refl none)
      ∙ begun-same resting_now refl)

  -- ---- what is in hand then

  abbrev HandBy : Bool → Bool → Type 0
  HandBy resting started = let h : Hand = taken_hand w.world resting started hand in let z : State = taken_state w.world resting started s in
      HasInHand w is.homes (turn w.world (clock_in resting started clock)) h (helds (mark_of w.versions) z.stack) z

  -- where the step loads nothing
  hand-by : (resting b : Bool) → resting_now ≡ resting → started ≡ b → ((taken_hand w.world resting b hand).moves || loads_none w (taken_state w.world resting b s)) ≡ true → HandBy resting b
  hand-by false b e f some = whole_now.in_hand e
  hand-by true false e f some = start-hand w is.homes is.has
  hand-by true true e f some =
      let none : loads_in w s ≡ [] = empty_from_length (loads_in w s) some in
      subst (λ l. HasInHand w is.homes (turn w.world (clock + 1)) (record { moves = false; delivered = false; passed = behind_load l }) (helds (mark_of w.versions) (with_classes_loaded l s).stack) (with_classes_loaded l s)) none
      (step-hand w is.homes is.has clock s (stands_now e f))

  -- ---- the start has loaded classes

  module _ (c : ℕ) (more : List ℕ) (loads : taken_loads w.world resting_now started ≡ c ∷ more) where
    record FromStart : Type 0 where
      first : resting_now ≡ true
      before_the_run : started ≡ false
      loading : main_loads w.world ≡ c ∷ more

    from-start : (resting b : Bool) → resting_now ≡ resting → started ≡ b → taken_loads w.world resting b ≡ c ∷ more → FromStart
    from-start true true e f is = absurd (let h : [] ≡ c ∷ more = is in cc)
    from-start true false e f is = record { first = e; before_the_run = f; loading = is }
    from-start false b e f is = absurd (let h : [] ≡ c ∷ more = is in cc)

    at_start : FromStart
    at_start = from-start resting_now started refl refl loads

    start-clock : (step_begun old).clock ≡ 0
    start-clock = ap (λ r. (if r then clock_advanced old else old).clock) at_start.first ∙ ap (λ b. if b then clock + 1 else 0) at_start.before_the_run

    one-passed : then_hand.passed ≡ 1
    one-passed = ap₂ (λ r b. (taken_hand w.world r b hand).passed) at_start.first at_start.before_the_run ∙ ap behind_load at_start.loading

    pub start-tells : TellsClasses old (c ∷ more) (state_seen w then_state true false then_clock then_hand)
    start-tells = record {
      first = at_start.first;
      some = omega arith;
      loads = ap (λ r. loads_next (if r then clock_advanced old else old)) at_start.first
          ∙ (ap₂ (λ n b. loads_first (drop n (turn w.world (if b then clock + 1 else 0)).changes)) (resting-parts at_start.first).0 at_start.before_the_run
          ∙ start-first w is.homes is.has c more at_start.loading);
      stepped = taken-seen resting_now refl ∙ ap (λ n. record (step_begun old) { passed = n }) one-passed;
    }

    start-machine-by : (resting b : Bool) → resting ≡ true → b ≡ false
        → IsMachine w (taken_hand w.world resting b hand) (state_seen w (taken_state w.world resting b s) true false (clock_in resting b clock) (taken_hand w.world resting b hand)) (taken_state w.world resting b s)
    start-machine-by true false e f = record {
      homes = is.homes;
      has = is.has;
      before_the_run = λ no. absurd (let e : true ≡ false = no in cc);
      whole = λ same. record {
        stands = λ resting yes. absurd (busy resting);
        rests = λ resting yes. absurd (busy resting);
        in_hand = λ other. start-hand w is.homes is.has;
        sound = λ other. inr (record { moves = refl; undelivered = refl; begins = refl });
        first = λ no. absurd (let e : true ≡ false = no in cc);
      };
    } where
      busy : is_resting (state_seen w (starts_with w.world) true false 0 (taken_hand w.world true false hand)) ≡ true → ⊥
      busy resting = (let h : false ≡ true = sym (ap (λ l. behind_load l == 0 && not false) at_start.loading) ∙ resting in cc)
    start-machine-by true true e f = absurd (let h : true ≡ false = f in cc)
    start-machine-by false b e f = absurd (let h : false ≡ true = e in cc)

    pub start-machine : IsMachine w then_hand (state_seen w then_state true false then_clock then_hand) then_state
    start-machine = start-machine-by resting_now started at_start.first at_start.before_the_run

  -- ---- the step has loaded classes

  module _ (none : (then_hand.moves || loads_none w then_state) ≡ false) where
    pub record FromRest : Type 0 where
      pub first : resting_now ≡ true
      pub begun : started ≡ true
      pub loads : loads_none w s ≡ false

    busy-loads : (moves : Bool) → hand.moves ≡ moves → resting_now ≡ false → (moves || loads_none w s) ≡ true
    busy-loads true e busy = refl
    busy-loads false e busy = in-hand-loads w is.homes is.has (turn w.world clock) hand old.live s (whole_now.in_hand busy) e

    from-rest : (resting b : Bool) → resting_now ≡ resting → started ≡ b → ((taken_hand w.world resting b hand).moves || loads_none w (taken_state w.world resting b s)) ≡ false → FromRest
    from-rest true true e f is = record { first = e; begun = f; loads = is }
    from-rest true false e f is = absurd (let h : true ≡ false = is in cc)
    from-rest false b e f is = absurd (let h : true ≡ false = sym (busy-loads hand.moves refl e) ∙ is in cc)

    pub at_rest : FromRest
    at_rest = from-rest resting_now started refl refl none

    pub same-state : then_state ≡ s
    same-state = ap₂ (λ r b. taken_state w.world r b s) at_rest.first at_rest.begun

    abbrev next_state : State
    next_state = with_classes_loaded (loads_in w s) s

    abbrev loads_hand : Hand
    loads_hand = record { moves = false; delivered = false; passed = 1 }

    pub clock-more : then_clock ≡ clock + 1
    clock-more = ap₂ (λ r b. clock_in r b clock) at_rest.first at_rest.begun

    -- with these classes
    module _ (c : ℕ) (more : List ℕ) (loads : loads_in w s ≡ c ∷ more) where
      loads-seen : state_seen w next_state true false (clock + 1) loads_hand ≡ record (step_begun old) { passed = 1 }
      loads-seen =
          ap (λ l. state_seen w (with_classes_loaded l s) true false (clock + 1) loads_hand) loads
          ∙ (ap₂ (λ (b delivered : Bool). record (state_seen w s true false (if b then clock + 1 else 0) loads_hand) { delivered = delivered }) (sym at_rest.begun) (sym (resting-parts at_rest.first).1)
          ∙ ap (λ r. begun_by r 1) (sym at_rest.first))

      pub loads-tell : TellsClasses old (c ∷ more) (state_seen w next_state true false (clock + 1) loads_hand)
      loads-tell = record {
        first = at_rest.first;
        some = omega arith;
        loads = ap (λ r. loads_next (if r then clock_advanced old else old)) at_rest.first
            ∙ (ap₂ (λ n b. loads_first (drop n (turn w.world (if b then clock + 1 else 0)).changes)) (resting-parts at_rest.first).0 at_rest.begun
            ∙ step-first w is.homes is.has clock s (stands_now at_rest.first at_rest.begun) c more loads);
        stepped = loads-seen;
      }

      pub loads-machine : (IsSoundIn w s → IsSoundIn w next_state)
          → IsMachine w loads_hand (state_seen w next_state true false (clock + 1) loads_hand) next_state
      loads-machine sound = record {
        homes = is.homes;
        has = is.has;
        before_the_run = λ no. absurd (let e : true ≡ false = no in cc);
        whole = λ same. record {
          stands = λ resting yes. absurd (let e : false ≡ true = resting in cc);
          rests = λ resting yes. absurd (let e : false ≡ true = resting in cc);
          in_hand = λ busy. subst (λ n. HasInHand w is.homes (turn w.world (clock + 1)) (record { moves = false; delivered = false; passed = n }) (helds (mark_of w.versions) next_state.stack) next_state)
              (ap behind_load loads) (step-hand w is.homes is.has clock s (stands_now at_rest.first at_rest.begun));
          sound = λ busy. inl (sound (whole_now.rests at_rest.first at_rest.begun));
          first = λ no. absurd (let e : true ≡ false = no in cc);
        };
      }

  -- ---- it goes on

  module _ (nothing : taken_loads w.world resting_now started ≡ []) (some : (then_hand.moves || loads_none w then_state) ≡ true) (new : State) (gone : Gone) (left : IsLeft gone)
      (hands : (homes : ℕ → ℕ → ℕ) (whole : Turn) (live : List Held) → HasVersions w homes → HasInHand w homes whole then_hand live then_state → HasGoneOn w homes whole then_hand live gone new) where
    in_hand_then : HasInHand w is.homes (turn w.world then_clock) then_hand (helds (mark_of w.versions) then_state.stack) then_state
    in_hand_then = hand-by resting_now started refl refl some

    goes_on : HasGoneOn w is.homes (turn w.world then_clock) then_hand (helds (mark_of w.versions) then_state.stack) gone new
    goes_on = hands is.homes (turn w.world then_clock) (helds (mark_of w.versions) then_state.stack) is.has in_hand_then

    abbrev pub there : View
    there = state_seen w new true false then_clock (left_in gone)

    pub goes-stops : Stops old gone.due there
    goes-stops = record {
      loads = subst (λ (v : View). loads_next v ≡ []) (taken-begun nothing) (no-loads w is.homes is.has true false then_clock then_hand then_state in_hand_then);
      due_is = subst (λ (v : View). (next_stop v).due ≡ gone.due) (taken-begun nothing) (due-is w is.homes is.has true false then_clock then_hand then_state in_hand_then gone new goes_on left);
      stepped = subst (λ (v : View). there ≡ told_in v gone.due) (taken-begun nothing) (goes-stopped w is.homes is.has true false then_clock then_hand then_state in_hand_then gone new goes_on left);
    }

    resting-nothing : (d : Due) → gone.due ≡ d → is_resting there ≡ true → gone.due ≡ Nothing
    resting-nothing Nothing e resting = e
    resting-nothing (Ends k) e resting =
        let both = and_parts (passed_then gone.due gone.hand.passed == 0) (not gone.hand.delivered) resting in
        absurd (let f : false ≡ true = sym (ap not (left.delivered ∙ ap is_end e)) ∙ both.1 in cc)
    resting-nothing Begins e resting =
        let both = and_parts (passed_then gone.due gone.hand.passed == 0) (not gone.hand.delivered) resting in
        absurd (let f : false ≡ true = sym (passed-some w is.homes is.has true false then_clock then_hand then_state in_hand_then gone new goes_on left e)
        ∙ (ap (λ d. passed_then d gone.hand.passed == 0) (sym e) ∙ both.0) in cc)

    busy-something : is_resting there ≡ false → gone.due ≡ Nothing → ⊥
    busy-something busy e = (let f : true ≡ false = sym (ap₂ (λ n delivered. n == 0 && not delivered) (ap (λ d. passed_then d gone.hand.passed) e) (left.delivered ∙ ap is_end e)) ∙ busy in cc)

    -- the same is in hand
    left-hand : (d : Due) → gone.due ≡ d → (gone.due ≡ Nothing → ⊥) → HasInHand w is.homes (turn w.world then_clock) (record gone.hand { passed = passed_then d gone.hand.passed }) (helds (mark_of w.versions) new.stack) new
    left-hand Nothing e other = absurd (other e)
    left-hand (Ends k) e other = goes-hand w is.homes is.has true false then_clock then_hand then_state in_hand_then gone new goes_on left other
    left-hand Begins e other = goes-hand w is.homes is.has true false then_clock then_hand then_state in_hand_then gone new goes_on left other

    -- it is sound, also behind the moves of the start
    module _ (sound : IsSoundIn w then_state → IsSoundIn w new) (starts : then_hand.moves ≡ true → then_hand.delivered ≡ false → then_state ≡ starts_with w.world → IsSoundIn w new) where
      from-once : (h : Hand) (z : State) → (IsSoundIn w z → IsSoundIn w new) → (h.moves ≡ true → h.delivered ≡ false → z ≡ starts_with w.world → IsSoundIn w new) → IsSoundOnce w h z → IsSoundIn w new
      from-once h z by_sound by_start (inl is) = by_sound is
      from-once h z by_sound by_start (inr is) = by_start is.moves is.undelivered is.begins

      sound-by : (resting b : Bool) → resting_now ≡ resting → started ≡ b → (IsSoundIn w (taken_state w.world resting b s) → IsSoundIn w new)
          → ((taken_hand w.world resting b hand).moves ≡ true → (taken_hand w.world resting b hand).delivered ≡ false → taken_state w.world resting b s ≡ starts_with w.world → IsSoundIn w new) → IsSoundIn w new
      sound-by false b e f by_sound by_start = from-once hand s by_sound by_start (whole_now.sound e)
      sound-by true true e f by_sound by_start = by_sound (whole_now.rests e f)
      sound-by true false e f by_sound by_start = by_start refl refl refl

      is_sound : IsSoundIn w new
      is_sound = sound-by resting_now started refl refl sound starts

      pub gone-machine : IsMachine w (left_in gone) there new
      gone-machine = record {
        homes = is.homes;
        has = is.has;
        before_the_run = λ no. absurd (let e : true ≡ false = no in cc);
        whole = λ same. record {
          stands = λ resting yes. goes-rests w is.homes is.has true false then_clock then_hand then_state in_hand_then gone new goes_on left (resting-nothing gone.due refl resting);
          rests = λ resting yes. is_sound;
          in_hand = λ busy. left-hand gone.due refl (busy-something busy);
          sound = λ busy. inl is_sound;
          first = λ no. absurd (let e : true ≡ false = no in cc);
        };
      }
