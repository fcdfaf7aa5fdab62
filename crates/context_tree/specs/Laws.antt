-- The fold of events, said of the whole list at once; and what it comes to where versions tell, each activation in the
-- version of its mark at the last point before it began.
use Rattle.std.specs.Prelude.{◌≡◌, ◌<◌, ℕ, List, false, is_some}
use Rattle.const_pool.specs.declared.class.ClassFile.{ClassFile}
use Rattle.jvm_model.specs.declared.event.Act.{Act}
use Rattle.jvm_model.specs.declared.event.Event.{Event}
use Rattle.jvm_model.specs.Soundness.Calls.{AreFrom}
use Rattle.jvm_model.specs.Basis.Data.{World}
use Rattle.jvm_model.specs.Profiling.EventLists.{events_of}
use Rattle.jvm_model.specs.Codes.Originals.{original}
use Rattle.jvm_model.specs.Profiling.Points.{marking_of, standing_in}
use Rattle.jvm_model.specs.Profiling.Projection.{projection}
use Rattle.jvm_model.specs.Running.Run.{run}
use Rattle.jvm_model.specs.Soundness.SoundPrograms.{IsSoundProgram}
use Rattle.context_tree.specs.Seen.{Matches, seen_before}
use Rattle.context_tree.specs.Profiles.{steps_credited, profile_of}
use Rattle.context_tree.specs.Counts.{contexts_counted, AreInOrder}

-- One event after another, and then the steps up to a clock, come to the contexts that are counted from all events.
abbrev pub FoldsToCounts : Type 0
FoldsToCounts = (events : List Event) (clock : ℕ) → AreInOrder 0 events clock → (steps_credited clock (profile_of events)).contexts ≡ contexts_counted events clock

-- The tree is the projection of the run: for every sound program, every input, every list of actions whose moments do
-- not fall, and every number of steps before whose last one the run has not ended.
abbrev pub TreeIsProjection : Type 0
TreeIsProjection = (own : List ClassFile) (name : List ℕ) (w : World) → IsSoundProgram own name w.program → (acts : List Act) → AreFrom 0 acts → (n : ℕ) → ((m : ℕ) → m < n → is_some (run w m).ending ≡ false)
    → (steps_credited n (profile_of (events_of (marking_of acts w) w n))).contexts ≡ projection acts w n

-- What is seen of a run by its own actions, by what is loaded and by the events of these versions is what stands at its
-- points.
abbrev pub SessionSees : Type 0
SessionSees = (own : List ClassFile) (name : List ℕ) (w : World) → IsSoundProgram own name w.program → (acts : List Act) → AreFrom 0 acts → (n : ℕ)
    → Matches acts (seen_before acts w (marking_of acts w) n) (standing_in acts w (original w.program) n)
