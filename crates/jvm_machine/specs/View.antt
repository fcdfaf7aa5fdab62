-- What a clause sees of a machine that runs versions, and what is left of the step that it has in hand.
use Rattle.std.specs.Prelude.{◌≡◌, ℕ, ◌+◌, Bool, true, false, not, List, [], drop, map, Option, is_some, ◌==◌, ◌&&◌, if◌then◌else◌}
use Rattle.jvm_model.specs.declared.event.Event.{Event}
use Rattle.jvm_model.specs.declared.event.Mark.{Mark}
use Rattle.jvm_model.specs.declared.event.Mark.TheVariants.{Off}
use Rattle.jvm_model.specs.declared.program.Program.{Program}
use Rattle.jvm_model.specs.declared.state.State.{State}
use Rattle.jvm_model.specs.Basis.Data.{Change, World}
use Rattle.jvm_model.specs.Turns.Pauses.{Stop, is_end, stop_from, told_at, told_from}
use Rattle.jvm_model.specs.Turns.Rest.{loads_first}
use Rattle.jvm_model.specs.Running.Run.{before, run, turn}
use Rattle.jvm_model.specs.Rewriting.StandsFor.{mark_at}
use Rattle.jvm_model.specs.Turns.Told.{Held, all_held}

-- A machine of a program, with its input; the marks of the versions in which methods begin now, by the methods'
-- numbers; whether it has made the start; whether memory has run out; the number of steps begun after the start; how
-- many changes of the step in hand are behind it, its load among them, and whether the probe of the end that comes next
-- has told; the live activations, each with the mark of its version; and whether a version is held in which its method
-- does not begin, and that no live activation runs.
pub record View : Type 0 where
  pub program : Program
  pub input : List ℕ
  pub marks : List Mark
  pub started : Bool
  pub broken : Bool
  pub clock : ℕ
  pub passed : ℕ
  pub delivered : Bool
  pub live : List Held
  pub stale : Bool

-- a machine that was just made runs original code
abbrev pub machine_made : Program → List ℕ → View
machine_made program input = record {
  program = program;
  input = input;
  marks = map (λ place. Off) program.methods;
  started = false;
  broken = false;
  clock = 0;
  passed = 0;
  delivered = false;
  live = [];
  stale = false;
}

abbrev pub world : View → World
world v = record { program = v.program; input = v.input }

-- ---- between steps

-- the state that it stands for: the run's after that many steps, and before the start nothing was done
abbrev pub run_state : View → State
run_state v = if v.started then run (world v) v.clock else before (world v)

abbrev pub has_ended : View → Bool
has_ended v = is_some (run_state v).ending

-- no step is in hand
abbrev pub is_resting : View → Bool
is_resting v = v.passed == 0 && not v.delivered

-- there is a step to make, or one in hand
abbrev pub IsGoingOn : View → Type 0
IsGoingOn v = (is_resting v && has_ended v) ≡ false

-- the start, or one step further
abbrev pub clock_advanced : View → View
clock_advanced v = record v { started = true; clock = if v.started then v.clock + 1 else 0 }

-- the step in hand, or else the next one
abbrev pub step_begun : View → View
step_begun v = if is_resting v then clock_advanced v else v

-- ---- the rest of the step in hand

abbrev pub to_come : View → List Change
to_come v = drop v.passed (turn (world v) v.clock).changes

-- the classes that it has to tell, which are its first change
abbrev pub loads_next : View → List ℕ
loads_next v = loads_first (to_come v)

-- where it stops: at the next change of which a probe tells
abbrev pub next_stop : View → Stop
next_stop v = stop_from (mark_at v.marks) v.delivered v.passed v.live (to_come v)

abbrev pub next_event : View → Option Event
next_event v = told_at (next_stop v).due v.clock (next_stop v).live

-- what is seen there
abbrev pub step_stopped : View → View
step_stopped v = record v { passed = (next_stop v).passed; delivered = is_end (next_stop v).due; live = (next_stop v).live }

-- and where the step is done
abbrev pub step_rested : View → View
step_rested v = record v { passed = 0; delivered = false; live = (next_stop v).live }

-- ---- what is left of it

-- the events that are still to be told, where no other versions are installed
abbrev pub events_left : View → List Event
events_left v = told_from (mark_at v.marks) v.clock v.delivered v.live (to_come v)

-- the live activations after the step
abbrev pub live_then : View → List Held
live_then v = all_held (mark_at v.marks) v.live (to_come v)
