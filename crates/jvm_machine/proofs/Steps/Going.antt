-- What is in hand of a step goes on: where it stops is what is seen, and the rest of the same step is in hand there.
use Rattle.std.proofs.Common.{◌≡◌, ℕ, suc, ◌+◌, Bool, true, false, List, [], ◌∷◌, length, Option, Some, None, slice_get, refl, sym, ap, ap₂, subst, ◌∙◌, arith}
use Rattle.std.specs.Prelude.{unwrap_or, ◌==◌}
use Rattle.std.specs.Option.{option_map, option_map_or}
use Rattle.std.proofs.lemmas.Option.{slice_get-map}
use Rattle.jvm_model.specs.declared.due.Due.{Due}
use Rattle.jvm_model.specs.declared.due.Due.TheVariants.{Nothing, Ends, Begins}
use Rattle.jvm_model.specs.declared.event.Mark.{Mark}
use Rattle.jvm_model.specs.declared.event.Mark.TheVariants.{Off}
use Rattle.jvm_model.specs.declared.state.State.{State}
use Rattle.jvm_model.specs.Running.Applies.{still}
use Rattle.jvm_model.specs.Basis.Data.{Change, Listing, Turn, World}
use Rattle.jvm_model.specs.Turns.InHand.{InHand, behind_load, original_of}
use Rattle.jvm_model.specs.Classes.Load.{Fault}
use Rattle.jvm_model.specs.Running.Moves.{turn_settled}
use Rattle.jvm_model.specs.Codes.Originals.{original}
use Rattle.jvm_model.specs.Turns.Pauses.{Stop, change_due, is_end, stop_by, stop_from, stop_in}
use Rattle.jvm_model.specs.Turns.Rest.{Todo, loads_first, step_loads}
use Rattle.jvm_model.specs.Running.Run.{arguments_made, before, loaded_turn, main_classes, main_loading, main_loads, run_opened, run, starts_if, starts_unless, starts_with, step, turn, turn_in-more, turn_in-zero, with_classes_loaded}
use Rattle.jvm_model.specs.Basis.SharedState.{arguments_fit}
use Rattle.jvm_model.specs.Rewriting.StandsFor.{mark_at}
use Rattle.jvm_model.specs.Rewriting.StandsForRun.{StandsFor}
use Rattle.jvm_model.specs.Turns.StepPauses.{NeedsNoLoad}
use Rattle.jvm_model.specs.Turns.Told.{Held, held_after, helds}
use Rattle.jvm_model.proofs.Relocated.ClosedPrograms.{program-agrees}
use Rattle.jvm_model.proofs.Turns.HandBegins.{begin-loads, hand-begins, hand-starts}
use Rattle.jvm_model.proofs.Turns.RestStands.{step_loads-same}
use Rattle.jvm_model.proofs.Turns.RestTells.{NoLoads, no-first, rest-no}
use Rattle.interpreter.specs.declared.turns.hands.Gone.{Gone}
use Rattle.interpreter.specs.declared.turns.hands.Hand.{Hand}
use Rattle.interpreter.specs.Moves.Hands.{HasGoneOn, HasInHand, IsLeft, todo_of, versioned_in}
use Rattle.prepared_code.specs.Standing.{HasVersions, places_of}
use Rattle.prepared_code.specs.Tables.{Version}
use Rattle.activations.specs.Turning.{loads_in, loads_none}
use Rattle.prepared_code.specs.Versions.{Setup, current_of, mark_of, method_of, listing_of}
use Rattle.prepared_code.proofs.Tables.VersionsAgree.{versions-agree}
use Rattle.jvm_machine.specs.Advances.{left_in, passed_then, told_in}
use Rattle.jvm_machine.specs.Machine.{Stands, marks_of, state_seen}
use Rattle.jvm_machine.specs.View.{View, loads_next, next_stop, to_come}

-- ---- frames behind a load

pub loaded-held : (v : ℕ → Mark) (classes : List ℕ) (s : State) → helds v (with_classes_loaded classes s).stack ≡ helds v s.stack
loaded-held v [] s = refl
loaded-held v (c ∷ more) s = refl

-- the start has none
pub starts-held : (v : ℕ → Mark) (w : World) → helds v (starts_with w).stack ≡ []
starts-held v w = by (arguments_fit w.program) where
  unless-none : (o : Option Fault) → helds v (starts_unless w o (run_opened w)).stack ≡ []
  unless-none None = refl
  unless-none (Some fault) = loaded-held v (main_classes w) (arguments_made w (before w))

  by : (b : Bool) → helds v (starts_if w b).stack ≡ []
  by true = unless-none (main_loading w).fault
  by false = refl

-- ---- a stop behind a begin is behind a change

begins-in : (marks : ℕ → Mark) (n : ℕ) (live : List Held) (cs : List Change) → (stop_in marks n live cs).due ≡ Begins → ((stop_in marks n live cs).passed == 0) ≡ false
begins-in marks n live [] e = absurd (let h : Nothing ≡ Begins = e in cc)
begins-in marks n live (c ∷ more) e = by (change_due marks live c) (begins-in marks (suc n) (held_after marks live c) more) e where
  by : (d : Due) → ((stop_in marks (suc n) (held_after marks live c) more).due ≡ Begins → ((stop_in marks (suc n) (held_after marks live c) more).passed == 0) ≡ false)
      → (stop_by live (held_after marks live c) n d (stop_in marks (suc n) (held_after marks live c) more)).due ≡ Begins
      → ((stop_by live (held_after marks live c) n d (stop_in marks (suc n) (held_after marks live c) more)).passed == 0) ≡ false
  by Nothing later e = later e
  by (Ends k) later e = absurd (let h : Ends k ≡ Begins = e in cc)
  by Begins later e = grind (arith)

pub stop-begins : (marks : ℕ → Mark) (delivered : Bool) (n : ℕ) (live : List Held) (cs : List Change) → (stop_from marks delivered n live cs).due ≡ Begins → ((stop_from marks delivered n live cs).passed == 0) ≡ false
stop-begins marks false n live cs e = begins-in marks n live cs e
stop-begins marks true n live [] e = begins-in marks n live [] e
stop-begins marks true n live (c ∷ more) e = begins-in marks (suc n) (held_after marks live c) more e

module _ (w : Setup) (homes : ℕ → ℕ → ℕ) (has : HasVersions w homes) where
  abbrev t : Listing
  t = original w.world.program

  abbrev marked : ℕ → Mark
  marked = mark_of w.versions

  -- ---- the marks that are seen

  by-current : (m : ℕ) (o : Option ℕ) → unwrap_or (option_map marked o) Off ≡ marked (unwrap_or o (4294967296 + m))
  by-current m None = sym (ap (λ (o : Option Version). option_map_or (λ x. x.prepared.mark) o Off) (has.are.far (4294967296 + m) (omega arith)))
  by-current m (Some version) = refl

  each-mark : (m : ℕ) → mark_at (marks_of w.versions) m ≡ marked (current_of w.versions m)
  each-mark m = ap (λ o. unwrap_or o Off) (slice_get-map marked w.versions.current m) ∙ by-current m (slice_get w.versions.current m)

  pub marks-same : mark_at (marks_of w.versions) ≡ (λ m. marked (current_of w.versions m))
  marks-same = λ i m. each-mark m i

  -- ---- what is in hand goes on

  module _ (started broken : Bool) (clock : ℕ) (hand : Hand) (s : State) (in_hand : HasInHand w homes (turn w.world clock) hand (helds marked s.stack) s) where
    abbrev v : View
    v = state_seen w s started broken clock hand

    -- nothing is loaded any more
    pub no-loads : loads_next v ≡ []
    no-loads = no-first (to_come v) (subst NoLoads in_hand.tells
        (rest-no w.world t (todo_of hand.moves) (original_of (versioned_in w homes) in_hand.between) in_hand.loaded))

    module _ (gone : Gone) (new : State) (goes : HasGoneOn w homes (turn w.world clock) hand (helds marked s.stack) gone new) (left : IsLeft gone) where
      stop-is : next_stop v ≡ record { live = helds marked new.stack; passed = gone.hand.passed; due = gone.due }
      stop-is = ap (λ ms. stop_from ms hand.delivered hand.passed v.live (to_come v)) marks-same ∙ goes.stops

      pub due-is : (next_stop v).due ≡ gone.due
      due-is = ap (λ (x : Stop). x.due) stop-is

      abbrev there : View
      there = state_seen w new started broken clock (left_in gone)

      pub goes-stopped : there ≡ told_in v gone.due
      goes-stopped = by gone.due refl where
        by : (d : Due) → gone.due ≡ d → state_seen w new started broken clock (record gone.hand { passed = passed_then d gone.hand.passed }) ≡ told_in v d
        by Nothing e =
            ap₂ (λ delivered live. record v { passed = 0; delivered = delivered; live = live }) (left.delivered ∙ ap is_end e) (sym (ap (λ (x : Stop). x.live) stop-is))
        by (Ends k) e =
            ap (λ delivered. record there { passed = gone.hand.passed; delivered = delivered }) left.delivered ∙ sym (ap (λ (x : Stop). record v { passed = x.passed; delivered = is_end x.due; live = x.live }) stop-is)
        by Begins e =
            ap (λ delivered. record there { passed = gone.hand.passed; delivered = delivered }) left.delivered ∙ sym (ap (λ (x : Stop). record v { passed = x.passed; delivered = is_end x.due; live = x.live }) stop-is)

      -- something is passed where a method has begun
      pub passed-some : gone.due ≡ Begins → (gone.hand.passed == 0) ≡ false
      passed-some begins =
          ap (λ (z : Stop). z.passed == 0) (sym stop-is)
          ∙ stop-begins (mark_at v.marks) v.delivered v.passed v.live (to_come v) (due-is ∙ begins)

      -- where the step is done it stands for the state after it
      pub goes-rests : gone.due ≡ Nothing → Stands w homes new (run w.world clock)
      goes-rests nothing = goes.ends nothing

      -- and else the rest of it is in hand
      pub goes-hand : (gone.due ≡ Nothing → ⊥) → HasInHand w homes (turn w.world clock) gone.hand (helds marked new.stack) new
      goes-hand other =
          in-hand-of gone.hand new (helds marked new.stack) (is_end gone.due) goes.later (sym left.delivered) (goes.later_is other ∙ sym left.moves) goes.hand
        where
          in-hand-of : (h : Hand) (z : State) (live : List Held) (delivered : Bool) (todo : Todo) → delivered ≡ h.delivered → todo ≡ todo_of h.moves
              → InHand w.world t (versioned_in w homes) (turn w.world clock) h.passed delivered live todo z → HasInHand w homes (turn w.world clock) h live z
          in-hand-of h z live delivered todo e f is =
              subst (λ d. InHand w.world t (versioned_in w homes) (turn w.world clock) h.passed h.delivered live d z) f
              (subst (λ b. InHand w.world t (versioned_in w homes) (turn w.world clock) h.passed b live todo z) e is)

  -- what is in hand loads nothing over the versions either
  pub in-hand-loads : (whole : Turn) (hand : Hand) (live : List Held) (s : State) → HasInHand w homes whole hand live s → hand.moves ≡ false → loads_none w s ≡ true
  in-hand-loads whole hand live s h attempt =
      let stands : StandsFor (places_of w.world.program) (method_of w.versions) homes s (original_of (versioned_in w homes) h.between) =
      record { between = h.between; versioned_is = h.versioned; original_is = refl; at_places = h.placed } in
      ap (λ (l : List ℕ). length l == 0)
      (step_loads-same (places_of w.world.program) w.world t (program-agrees w.world.program has.closed) (method_of w.versions) (current_of w.versions) homes (listing_of w.versions)
      (versions-agree w.world.program (places_of w.world.program) homes w.versions has.are) s (original_of (versioned_in w homes) h.between) stands
      ∙ loaded-by hand.moves attempt h.loaded)
    where
      loaded-by : (moves : Bool) → moves ≡ false → NeedsNoLoad w.world t (todo_of moves) (original_of (versioned_in w homes) h.between) → step_loads w.world t (original_of (versioned_in w homes) h.between) ≡ []
      loaded-by true e is = absurd (let f : true ≡ false = e in cc)
      loaded-by false e is = is

  -- ---- a step begins, behind what it loads

  module _ (clock : ℕ) (s : State) (stands : Stands w homes s (run w.world clock)) where
    abbrev begun_hand : Hand
    begun_hand = record { moves = false; delivered = false; passed = behind_load (loads_in w s) }

    pub step-hand : HasInHand w homes (turn w.world (clock + 1)) begun_hand (helds marked (with_classes_loaded (loads_in w s) s).stack) (with_classes_loaded (loads_in w s) s)
    step-hand =
        let begun = hand-begins w.world t (versioned_in w homes) (program-agrees w.world.program has.closed) (current_of w.versions) (listing_of w.versions)
        (versions-agree w.world.program (places_of w.world.program) homes w.versions has.are) s (run w.world clock) stands in
        subst (λ (a : Turn). HasInHand w homes a begun_hand (helds marked (with_classes_loaded (loads_in w s) s).stack) (with_classes_loaded (loads_in w s) s)) (sym (turn_in-more w.world t clock))
        (subst (λ live. HasInHand w homes (step w.world t (run w.world clock)) begun_hand live (with_classes_loaded (loads_in w s) s)) (sym (loaded-held marked (loads_in w s) s)) begun)

    -- what it loads is its first change
    pub step-first : (c : ℕ) (more : List ℕ) → loads_in w s ≡ c ∷ more → loads_first (turn w.world (clock + 1)).changes ≡ c ∷ more
    step-first c more loads =
        ap (λ (a : Turn). loads_first a.changes) (turn_in-more w.world t clock)
        ∙ (ap loads_first (begin-loads w.world t (versioned_in w homes) (program-agrees w.world.program has.closed) (current_of w.versions) (listing_of w.versions)
        (versions-agree w.world.program (places_of w.world.program) homes w.versions has.are) s (run w.world clock) stands)
        ∙ ap (λ cs. loads_first (loaded_turn cs (step w.world t (with_classes_loaded (step_loads w.world t (run w.world clock)) (run w.world clock)))).changes) loads)

  -- ---- the start

  abbrev start_hand : Hand
  start_hand = record { moves = true; delivered = false; passed = behind_load (main_loads w.world) }

  pub start-hand : HasInHand w homes (turn w.world 0) start_hand (helds marked (starts_with w.world).stack) (starts_with w.world)
  start-hand =
      subst (λ (a : Turn). HasInHand w homes a start_hand (helds marked (starts_with w.world).stack) (starts_with w.world))
      (sym (turn_in-zero w.world t)) (hand-starts w.world t (versioned_in w homes))

  pub start-first : (c : ℕ) (more : List ℕ) → main_loads w.world ≡ c ∷ more → loads_first (turn w.world 0).changes ≡ c ∷ more
  start-first c more loads =
      ap (λ (a : Turn). loads_first a.changes) (turn_in-zero w.world t)
      ∙ ap (λ cs. loads_first (loaded_turn cs (turn_settled w.world t (still (starts_with w.world)))).changes) loads
