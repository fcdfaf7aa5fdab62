-- What a clause sees of a session.
use Rattle.std.specs.Prelude.{◌≡◌, ℕ, ◌+◌, ◌≤◌, Bool, true, false, not, List, [], ◌∷◌, ◌++◌, map, Option, is_some, ◌&&◌, if◌then◌else◌}
use Rattle.jvm_model.specs.declared.event.Act.{Act}
use Rattle.jvm_model.specs.declared.event.Mark.{Mark}
use Rattle.jvm_model.specs.declared.ending.Ending.{Ending}
use Rattle.jvm_model.specs.declared.program.Program.{Program}
use Rattle.jvm_model.specs.declared.state.State.{State}
use Rattle.jvm_model.specs.Profiling.Activations.{trace_before}
use Rattle.jvm_model.specs.Basis.Data.{World}
use Rattle.jvm_model.specs.Classes.Load.{is_among}
use Rattle.jvm_model.specs.Codes.Originals.{original}
use Rattle.jvm_model.specs.Profiling.Points.{Standing, mark_in, marking_of, nothing, standing_in}
use Rattle.jvm_model.specs.Profiling.Projection.{projection}
use Rattle.jvm_model.specs.Running.Run.{before, run}
use Rattle.jvm_model.specs.Profiling.Swaps.{HasBytes, Swapped, points_before, swaps_from}
use Rattle.jvm_model.specs.Profiling.Targets.{operations_of}
use Rattle.jvm_model.specs.Turns.Told.{Held, held_in}
use Rattle.context_tree.specs.Profiles.{Profile}
use Rattle.profile_session.specs.declared.parts.Parts.{Parts}
use Rattle.profile_session.specs.declared.swap.Swap.{Swap}
use Rattle.profile_session.specs.Keeping.{swap_of}
use Rattle.profile_session.specs.Parts.{Rests}

-- Its program and input; the accepted actions, each with its moment; whether it was advanced; whether memory has run
-- out; the number of steps; whether its tree was gathered behind all of them; the live activations of its machine, each
-- with the mark of the version that it runs; and whether, with memory left, a version is held in which its method does
-- not begin, and that no live activation runs.
pub record Profiling : Type 0 where
  pub program : Program
  pub input : List ℕ
  pub acts : List Act
  pub started : Bool
  pub broken : Bool
  pub clock : ℕ
  pub gathered : Bool
  pub live : List Held
  pub stale : Bool

-- a new one
abbrev pub profiling_of : Program → List ℕ → Profiling
profiling_of program input = record {
  program = program;
  input = input;
  acts = [];
  started = false;
  broken = false;
  clock = 0;
  gathered = false;
  live = [];
  stale = false;
}

abbrev pub world_of : Profiling → World
world_of v = record { program = v.program; input = v.input }

-- ---- what stands

-- the state of the run that it stands for
abbrev pub run_of : Profiling → State
run_of v = if v.started then run (world_of v) v.clock else before (world_of v)

abbrev pub ending_in : Profiling → Option Ending
ending_in v = (run_of v).ending

abbrev pub is_over : Profiling → Bool
is_over v = is_some (ending_in v)

-- the step that comes next, before which all its actions come
abbrev pub step_of : Profiling → ℕ
step_of v = if v.started then v.clock + 1 else 0

-- what stands at the last point so far
abbrev pub standing_of : Profiling → Standing
standing_of v = standing_in v.acts (world_of v) (original v.program) (step_of v)

-- the last point was quiet: nothing is selected, and nothing is entered any more
pub record IsQuiet (s : Standing) : Type 0 where
  pub selected : s.selected ≡ []
  pub entered : s.entered ≡ []

abbrev pub is_selected_in : Profiling → ℕ → Bool
is_selected_in v method = is_among method (standing_of v).selected

abbrev pub mark_in_session : Profiling → ℕ → Mark
mark_in_session v method = mark_in v.program (operations_of v.program) (standing_of v) method

-- the swap list of the points so far
abbrev pub entries_of : Profiling → List Swapped
entries_of v = swaps_from v.program (operations_of v.program) (nothing (world_of v)) (points_before v.acts (world_of v) (original v.program) (step_of v))

abbrev pub swaps_of : Profiling → List Swap
swaps_of v = map (swap_of v.program) (entries_of v)

-- an entry of that list: the bytes spell the image of the class for the entry's marks
pub record IsSwapOf (p : Program) (entry : Swapped) (swap : Swap) : Type 0 where
  pub clock : swap.clock ≡ entry.clock
  pub class : swap.class ≡ entry.class
  pub bytes : HasBytes p entry swap.image

-- one for each entry, in order
abbrev pub AreSwapsOf : Program → List Swapped → List Swap → Type 0
AreSwapsOf p [] [] = Unit {0}
AreSwapsOf p (entry ∷ entries) (swap ∷ swaps) = IsSwapOf p entry swap × AreSwapsOf p entries swaps
AreSwapsOf p _ _ = ⊥

-- ---- live activations

-- those of the run, the current one first, each with the mark that its method had at the last point before it began
abbrev pub live_of : Profiling → List Held
live_of v = held_in (marking_of v.acts (world_of v)) (trace_before (world_of v) (step_of v))

-- So they run on, each in the version in which it began, whatever was swapped since.
abbrev pub LiveRunOn : Profiling → Type 0
LiveRunOn v = v.live ≡ live_of v

-- ---- actions

-- an action is accepted now; what is live stays in its versions
abbrev pub act_now : Bool → ℕ → Profiling → Act
act_now select method v = record { moment = v.clock; select = select; method = method }

abbrev pub with_act : Bool → ℕ → Profiling → Profiling
with_act select method v = record v { acts = v.acts ++ act_now select method v ∷ []; gathered = false }

-- An action is accepted before the first advance, or behind a step above 0; where none is accepted nothing is asked.
abbrev pub CanActNow : Profiling → Type 0
CanActNow v = v.broken ≡ false → is_over v ≡ false → v.started ≡ true → 1 ≤ v.clock

-- ---- the tree

-- The tree is the projection of the run under the accepted actions, with its order; before the first advance nothing
-- was told.
pub record IsTreeOf (v : Profiling) (t : Profile) : Type 0 where
  pub before_the_run : v.started ≡ false → t.contexts ≡ []
  pub tree : v.started ≡ true → t.contexts ≡ projection v.acts (world_of v) v.clock

-- ---- its parts

abbrev pub profiling_in : Bool → Bool → Parts → Profiling
profiling_in broken gathered x = record {
  program = x.vm.program;
  input = x.vm.input;
  acts = x.acts;
  started = x.vm.started;
  broken = broken;
  clock = x.vm.clock;
  gathered = gathered;
  live = x.vm.live;
  stale = not broken && x.vm.stale;
}

-- they rest at a step of the run under the accepted actions
pub record Stands (x : Parts) : Type 0 where
  pub rests : Rests x

-- and the tree is theirs, where it was gathered
pub record Holds (gathered : Bool) (x : Parts) : Type 0 where
  pub stands : Stands x
  pub tree : gathered ≡ true → IsTreeOf (profiling_in false true x) x.tree
