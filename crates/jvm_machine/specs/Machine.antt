-- What a machine that runs versions keeps to.
use Rattle.std.specs.Prelude.{◌≡◌, ℕ, Bool, true, false, not, List, length, map, ◌⊎◌, ◌&&◌}
use Rattle.std.specs.List.{list_any, range_with_len}
use Rattle.method_versions.specs.Tables.{is_superseded_in}
use Rattle.jvm_model.specs.declared.event.Mark.{Mark}
use Rattle.jvm_model.specs.declared.state.Entry.{Entry}
use Rattle.jvm_model.specs.declared.state.State.{State}
use Rattle.jvm_model.specs.Running.Run.{starts_with, turn}
use Rattle.jvm_model.specs.Rewriting.StandsForRun.{StandsFor}
use Rattle.jvm_model.specs.Turns.Told.{helds}
use Rattle.interpreter.specs.declared.turns.hands.Hand.{Hand}
use Rattle.interpreter.specs.Machine.Before.{IsAtStart}
use Rattle.interpreter.specs.Moves.Hands.{HasInHand}
use Rattle.interpreter.specs.Moves.Passing.{runs}
use Rattle.prepared_code.specs.Originals.{AreNamesKnown, OriginalsView, setup_in}
use Rattle.prepared_code.specs.Ready.{IsSoundIn}
use Rattle.prepared_code.specs.Standing.{HasVersions, places_of}
use Rattle.prepared_code.specs.Tables.{Versions}
use Rattle.prepared_code.specs.Versions.{Setup, mark_of, method_of}
use Rattle.symbolic_references.specs.Runtimes.{RuntimeView}
use Rattle.jvm_machine.specs.View.{View, is_resting, run_state}

-- ---- what is seen

-- of the versions in which methods begin
abbrev pub marks_of : Versions → List Mark
marks_of v = map (mark_of v) v.current

-- what is seen where no version is held needlessly
abbrev pub state_seen : Setup → State → Bool → Bool → ℕ → Hand → View
state_seen w s started broken clock hand = record {
  program = w.world.program;
  input = w.world.input;
  marks = marks_of w.versions;
  started = started;
  broken = broken;
  clock = clock;
  passed = hand.passed;
  delivered = hand.delivered;
  live = helds (mark_of w.versions) s.stack;
  stale = false;
}

-- ---- the versions that are held

-- its method begins in another one, and no live activation runs it
abbrev pub is_stale : Versions → List Entry → ℕ → Bool
is_stale v stack k = is_superseded_in v.slots v.current k && not (runs k stack)

abbrev pub holds_stale : Versions → List Entry → Bool
holds_stale v stack = list_any (is_stale v stack) (range_with_len 0 (length v.slots))

-- what is seen; where memory has run out nothing is said of the versions
abbrev pub state_viewed : Setup → State → Bool → Bool → ℕ → Hand → View
state_viewed w s started broken clock hand =
    record (state_seen w s started broken clock hand) { stale = not broken && holds_stale w.versions s.stack }

-- each version that is held is the one in which its method begins, or a live activation runs it
abbrev pub IsTidy : Versions → List Entry → Type 0
IsTidy v stack = (k : ℕ) → is_superseded_in v.slots v.current k ≡ true → runs k stack ≡ true

-- ---- the invariant

abbrev pub Stands : Setup → (ℕ → ℕ → ℕ) → State → State → Type 0
Stands w homes s original = StandsFor (places_of w.world.program) (method_of w.versions) homes s original

-- what moves of the start are made from
pub record IsStarting (w : Setup) (hand : Hand) (s : State) : Type 0 where
  pub moves : hand.moves ≡ true
  pub undelivered : hand.delivered ≡ false
  pub begins : s ≡ starts_with w.world

-- it is sound, or the moves of the start make it so
abbrev pub IsSoundOnce : Setup → Hand → State → Type 0
IsSoundOnce w hand s = IsSoundIn w s ⊎ IsStarting w hand s

-- Between steps it stands for the run's state, and in a step the rest of it is in hand. Before the start nothing was
-- done.
pub record IsWhole (w : Setup) (homes : ℕ → ℕ → ℕ) (hand : Hand) (v : View) (s : State) : Type 0 where
  pub stands : is_resting v ≡ true → v.started ≡ true → Stands w homes s (run_state v)
  pub rests : is_resting v ≡ true → v.started ≡ true → IsSoundIn w s
  pub in_hand : is_resting v ≡ false → HasInHand w homes (turn w.world v.clock) hand v.live s
  pub sound : is_resting v ≡ false → IsSoundOnce w hand s
  pub first : v.started ≡ false → IsAtStart w.world s

-- before the start no step is in hand
pub record IsBeforeTheRun (v : View) : Type 0 where
  pub clock : v.clock ≡ 0
  pub passed : v.passed ≡ 0
  pub delivered : v.delivered ≡ false

-- unless memory has run out
pub record IsMachine (w : Setup) (hand : Hand) (v : View) (s : State) : Type 0 where
  pub homes : ℕ → ℕ → ℕ
  pub has : HasVersions w homes
  pub before_the_run : v.started ≡ false → IsBeforeTheRun v
  pub whole : v.broken ≡ false → IsWhole w homes hand v s

-- Its code and its runtime are of one program. Unless memory has run out what is kept of names is what they come to,
-- and no version is held needlessly.
pub record Keeps (o : OriginalsView) (r : RuntimeView) (hand : Hand) (started broken : Bool) (clock : ℕ) (s : State) : Type 0 where
  pub machine : IsMachine (setup_in r o) hand (state_seen (setup_in r o) s started broken clock hand) s
  pub program : r.world.program ≡ o.program
  pub known : broken ≡ false → AreNamesKnown o r
  pub tidy : broken ≡ false → IsTidy o.versions s.stack
