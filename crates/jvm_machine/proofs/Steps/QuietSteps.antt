-- Steps that tell nothing are settled in one turn each.
use Rattle.std.proofs.Common.{◌≡◌, ℕ, zero, suc, ◌+◌, ◌<◌, Bool, true, false, List, [], drop, refl, sym, ap, ap₂, subst, ◌∙◌, arith}
use Rattle.std.specs.Prelude.{is_some, not, ◌==◌, ◌&&◌, if◌then◌else◌}
use Rattle.std.proofs.lemmas.Bool.{and_parts, not-true, eqb-true}
use Rattle.jvm_model.specs.declared.due.Due.TheVariants.{Nothing}
use Rattle.jvm_model.specs.declared.event.Mark.{Mark}
use Rattle.jvm_model.specs.declared.state.State.{State}
use Rattle.jvm_model.specs.Basis.Data.{Change, Listing, Turn}
use Rattle.jvm_model.specs.Codes.Originals.{original}
use Rattle.jvm_model.specs.Turns.Pauses.{Pause, Stop, stop_from, stop_in}
use Rattle.jvm_model.specs.Turns.Rest.{Attempt, loads_first}
use Rattle.jvm_model.specs.Running.Run.{before, run, step, turn, turn_in-more}
use Rattle.jvm_model.specs.Rewriting.StandsFor.{mark_at}
use Rattle.jvm_model.specs.Turns.StepPauses.{step_pause}
use Rattle.jvm_model.specs.Turns.Told.{Held, helds, mark_now}
use Rattle.jvm_model.proofs.Relocated.ClosedPrograms.{program-agrees}
use Rattle.jvm_model.proofs.Running.OnlyReturns.{ends-by-return}
use Rattle.jvm_model.proofs.Turns.RestStands.{rest-same_changes}
use Rattle.jvm_model.proofs.Turns.RestTells.{no-first, rest-no}
use Rattle.jvm_model.proofs.Turns.StepPausing.{step-paused}
use Rattle.interpreter.specs.declared.turns.hands.Hand.{Hand}
use Rattle.prepared_code.specs.declared.initializations.Initialization.{Initialization}
use Rattle.prepared_code.specs.declared.parts.Parts.{Parts}
use Rattle.prepared_code.specs.Initializations.{state_of}
use Rattle.interpreter.specs.Moves.Passing.{AreSilent, IsSilent, Passes as Silent, runs}
use Rattle.prepared_code.specs.Runs.{Leads, steps_from, steps_from-suc, steps_from-zero}
use Rattle.prepared_code.specs.Standing.{IsRunOf, places_of}
use Rattle.prepared_code.specs.Versions.{Setup, current_of, mark_of, method_of, listing_of}
use Rattle.prepared_code.proofs.Tables.StandingSteps.{run-of-more}
use Rattle.prepared_code.proofs.Tables.VersionsAgree.{versions-agree}
use Rattle.jvm_machine.specs.Machine.{IsMachine, IsTidy, Stands, marks_of, state_seen}
use Rattle.jvm_machine.proofs.Steps.Going.{marks-same}
use Rattle.jvm_machine.specs.Several.{Passes, more, none}
use Rattle.jvm_machine.specs.Turns.{Settles}
use Rattle.jvm_machine.specs.View.{View, clock_advanced, step_begun, has_ended, is_resting, loads_next, next_stop, step_rested, world}
use Rattle.jvm_machine.proofs.States.Shown.{stands-shows}

-- ---- what is told of a step that tells nothing

-- no class is loaded, and no probe tells
record TellsNothing (marks : ℕ → Mark) (live : List Held) (changes : List Change) : Type 0 where
  loads : loads_first changes ≡ []
  due : (stop_in marks 0 live changes).due ≡ Nothing

module _ (v : View) (resting : is_resting v ≡ true) (nothing : TellsNothing (mark_at v.marks) v.live (turn (world v) (clock_advanced v).clock).changes) where
  parts : (v.passed ≡ 0) × (v.delivered ≡ false)
  parts = let both = and_parts (v.passed == 0) (not v.delivered) resting in (eqb-true v.passed 0 both.0, not-true v.delivered both.1)

  abbrev changes : List Change
  changes = (turn (world v) (clock_advanced v).clock).changes

  at-end : next_stop (clock_advanced v) ≡ stop_in (mark_at v.marks) 0 v.live changes
  at-end = ap₂ (λ n delivered. stop_from (mark_at v.marks) delivered n v.live (drop n changes)) parts.0 parts.1

  begun-is : step_begun v ≡ clock_advanced v
  begun-is = ap (λ b. if b then clock_advanced v else v) resting

  -- what is seen behind it
  abbrev after : View
  after = record (clock_advanced v) { live = (stop_in (mark_at v.marks) 0 v.live changes).live }

  silent-settles : v.broken ≡ false → has_ended v ≡ false → has_ended (clock_advanced v) ≡ false → Settles v after
  silent-settles whole going_before going_after = record {
    whole = whole;
    went_on = ap₂ (λ a b. a && b) resting going_before;
    loads = ap loads_next begun-is ∙ (ap (λ n. loads_first (drop n changes)) parts.0 ∙ nothing.loads);
    all = ap (λ (x : View). (next_stop x).due) begun-is ∙ (ap (λ (s : Stop). s.due) at-end ∙ nothing.due);
    stepped = ap₂ (λ n delivered. record after { passed = n; delivered = delivered }) parts.0 parts.1
        ∙ (ap (λ live. record (clock_advanced v) { passed = 0; delivered = false; live = live }) (sym (ap (λ (s : Stop). s.live) at-end))
        ∙ ap step_rested (sym begun-is));
    goes_on = going_after;
  }

-- ---- over versions

module _ (w : Setup) (s : State) (silent : IsSilent w s) where
  abbrev u : Listing
  u = listing_of w.versions

  abbrev marks : ℕ → Mark
  marks = mark_of w.versions

  abbrev stopped_at : Stop
  stopped_at = stop_in (mark_now marks u) 0 (helds marks s.stack) (step w.world u s).changes

  -- the live activations behind it
  silent-helds : helds marks (step w.world u s).after.stack ≡ stopped_at.live
  silent-helds =
      let p : Pause = step_pause w.world u marks false 0 s in
      let is = step-paused w.world u marks (ends-by-return w.world) false 0 s (λ delivered. absurd (let e : false ≡ true = delivered in cc)) silent.loads in
      let due : p.due ≡ Nothing = ap (λ (x : Stop). x.due) (sym is.stops) ∙ silent.undelivered in
      let there : (step w.world u s).after ≡ p.state = is.part.same ∙ ap (λ (a : Turn). a.after) (is.ends due) in
      ap (λ (z : State). helds marks z.stack) there ∙ ap (λ (x : Stop). x.live) (sym is.stops)

  -- the run's step has the same changes
  run-same : (clock : ℕ) → IsRunOf w clock s → (turn w.world (clock + 1)).changes ≡ (step w.world u s).changes
  run-same clock is =
      ap (λ (a : Turn). a.changes) (turn_in-more w.world (original w.world.program) clock)
      ∙ sym (rest-same_changes (places_of w.world.program) w.world (original w.world.program) (program-agrees w.world.program is.has.closed) (method_of w.versions) (current_of w.versions)
      is.homes u (versions-agree w.world.program (places_of w.world.program) is.homes w.versions is.has.are) s (run w.world clock) is.stands Attempt)

  same-stop : (clock : ℕ) (is : IsRunOf w clock s) → stop_in (mark_at (marks_of w.versions)) 0 (helds marks s.stack) (turn w.world (clock + 1)).changes ≡ stopped_at
  same-stop clock is = ap₂ (λ f cs. stop_in f 0 (helds marks s.stack) cs) (marks-same w is.homes is.has) (run-same clock is)

  tells-nothing : (clock : ℕ) → IsRunOf w clock s → TellsNothing (mark_at (marks_of w.versions)) (helds marks s.stack) (turn w.world (clock + 1)).changes
  tells-nothing clock is = record {
    loads = ap loads_first (run-same clock is) ∙ no-first (step w.world u s).changes (rest-no w.world u Attempt s silent.loads);
    due = ap (λ (x : Stop). x.due) (same-stop clock is) ∙ silent.undelivered;
  }

-- ---- several

module _ (w : Setup) (hand : Hand) (clock : ℕ) (s : State) (is : IsRunOf w clock s) (resting : is_resting (state_seen w s true false clock hand) ≡ true) where
  abbrev v : View
  v = state_seen w s true false clock hand

  abbrev later : ℕ → View
  later n = state_seen w (steps_from w n s) true false (clock + n) hand

  runs_then : (n : ℕ) → IsRunOf w (clock + n) (steps_from w n s)
  runs_then n = run-of-more w clock n s is

  going-then : (n : ℕ) → is_some (steps_from w n s).ending ≡ false → has_ended (later n) ≡ false
  going-then n going =
      sym (ap is_some (stands-shows w (runs_then n).homes (steps_from w n s) (run w.world (clock + n)) (runs_then n).stands).ending) ∙ going

  settles-at : (n : ℕ) → IsSilent w (steps_from w n s) → is_some (steps_from w n s).ending ≡ false → is_some (steps_from w (suc n) s).ending ≡ false
      → Settles (later n) (later (suc n))
  settles-at n silent going_before going_after =
      let mid = steps_from w n s in
      let one : clock + n + 1 ≡ clock + suc n = omega arith in
      let live = silent-helds w mid silent ∙ ap (λ (x : Stop). x.live) (sym (same-stop w mid silent (clock + n) (runs_then n))) in
      let there = ap (λ (z : State). helds (mark_of w.versions) z.stack) (steps_from-suc w n s) ∙ live in
      subst (λ (x : View). Settles (later n) x)
      (ap₂ (λ c live. record (later n) { clock = c; live = live }) one (sym there))
      (silent-settles (later n) resting (tells-nothing w mid silent (clock + n) (runs_then n)) refl (going-then n going_before)
      (ap (λ c. has_ended (record (later n) { clock = c })) one ∙ going-then (suc n) going_after))

  all-pass : (n : ℕ) → AreSilent w s n → ((k : ℕ) → k < n → is_some (steps_from w k s).ending ≡ false) → is_some (steps_from w n s).ending ≡ false → Passes v n (later n)
  all-pass zero silent going last =
      let here : clock ≡ clock + 0 = omega arith in
      subst (λ (x : View). Passes v 0 x) (ap₂ (λ c (z : State). state_seen w z true false c hand) here (sym (steps_from-zero w s))) none
  all-pass (suc n) silent going last =
      more n (later n) (later (suc n)) (all-pass n (λ k less. silent k (omega (arith, less))) (λ k less. going k (omega (arith, less))) (going n (omega arith)))
      (settles-at n (silent n (omega arith)) (going n (omega arith)) last)

  all-tidy : (n : ℕ) → AreSilent w s n → IsTidy w.versions s.stack → IsTidy w.versions (steps_from w n s).stack
  all-tidy zero silent tidy k superseded = ap (λ (z : State). runs k z.stack) (steps_from-zero w s) ∙ tidy k superseded
  all-tidy (suc n) silent tidy k superseded =
      ap (λ (z : State). runs k z.stack) (steps_from-suc w n s)
      ∙ (silent n (omega arith)).keeps k superseded (all-tidy n (λ k less. silent k (omega (arith, less))) tidy k superseded)

  -- ---- the machine behind them

  module _ (n : ℕ) (new : State) (leads : Leads w s n new) (silent : AreSilent w s n) (going : is_some new.ending ≡ false) where
    abbrev there : View
    there = state_seen w new true false (clock + n) hand

    pub silent-tidy : IsTidy w.versions s.stack → IsTidy w.versions new.stack
    silent-tidy tidy = subst (λ (z : State). IsTidy w.versions z.stack) (sym leads.made) (all-tidy n silent tidy)

    pub silent-passes : Passes v n there
    silent-passes =
        subst (λ (z : State). Passes v n (state_seen w z true false (clock + n) hand)) (sym leads.made)
        (all-pass n silent leads.before (ap (λ (z : State). is_some z.ending) (sym leads.made) ∙ going))

    pub silent-machine : IsMachine w hand there new
    silent-machine =
        let after : IsRunOf w (clock + n) new = subst (IsRunOf w (clock + n)) (sym leads.made) (runs_then n) in
        record {
          homes = after.homes;
          has = after.has;
          before_the_run = λ no. absurd (let e : true ≡ false = no in cc);
          whole = λ same. record {
            stands = λ rests yes. after.stands;
            rests = λ rests yes. after.sound;
            in_hand = λ busy. absurd (let e : true ≡ false = sym resting ∙ busy in cc);
            sound = λ busy. absurd (let e : true ≡ false = sym resting ∙ busy in cc);
            first = λ no. absurd (let e : true ≡ false = no in cc);
          };
        }

-- ---- of the parts of a machine

module _ (w : Setup) (hand : Hand) (started broken : Bool) (clock : ℕ) (ms : List Initialization) (p : Parts) (is : IsMachine w hand (state_seen w (state_of ms p) started broken clock hand) (state_of ms p))
    (v : View) (view : state_seen w (state_of ms p) started broken clock hand ≡ v) (begun_is : started ≡ true) (whole : broken ≡ false) (rests : is_resting v ≡ true)
    (n : ℕ) (after : Parts) (passed : Silent w ms p n after) where
  abbrev s : State
  s = state_of ms p

  abbrev new : State
  new = state_of ms after

  resting : is_resting (state_seen w s started broken clock hand) ≡ true
  resting = ap is_resting view ∙ rests

  run_now : IsRunOf w clock s
  run_now = record {
    homes = is.homes;
    has = is.has;
    stands = subst (λ b. Stands w is.homes s (if b then run w.world clock else before w.world)) begun_is ((is.whole whole).stands resting begun_is);
    sound = (is.whole whole).rests resting begun_is;
  }

  going-on : is_some new.ending ≡ false
  going-on = ap is_some passed.at_instruction.ending

  pub plain-passes : Passes v n (state_seen w new started broken (clock + n) hand)
  plain-passes =
      subst (λ x. Passes x n (state_seen w new started broken (clock + n) hand)) view
      (subst (λ b. Passes (state_seen w s started b clock hand) n (state_seen w new started b (clock + n) hand)) (sym whole)
      (subst (λ b. Passes (state_seen w s b false clock hand) n (state_seen w new b false (clock + n) hand)) (sym begun_is)
      (silent-passes w hand clock s run_now resting n new passed.leads passed.silent going-on)))

  pub plain-machine : IsMachine w hand (state_seen w new started broken (clock + n) hand) new
  plain-machine =
      subst (λ b. IsMachine w hand (state_seen w new started b (clock + n) hand) new) (sym whole)
      (subst (λ b. IsMachine w hand (state_seen w new b false (clock + n) hand) new) (sym begun_is)
      (silent-machine w hand clock s run_now resting n new passed.leads passed.silent going-on))

  pub plain-tidy : IsTidy w.versions s.stack → IsTidy w.versions new.stack
  plain-tidy tidy = silent-tidy w hand clock s run_now resting n new passed.leads passed.silent going-on tidy
