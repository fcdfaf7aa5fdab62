-- The tree of the events that versions tell, where each activation begins in the version of the mark that its method
-- has at the last point before, is the projection of the run; and what is seen by these events is what stands at the
-- points.
use Rattle.std.proofs.Common.{◌≡◌, ℕ, ◌<◌, false, List, is_some, ◌∙◌}
use Rattle.jvm_model.specs.declared.event.Act.{Act}
use Rattle.jvm_model.specs.Soundness.Calls.{AreFrom}
use Rattle.jvm_model.specs.Basis.Data.{World}
use Rattle.jvm_model.specs.Profiling.EventLists.{events_of}
use Rattle.jvm_model.specs.Codes.Originals.{original}
use Rattle.jvm_model.specs.Profiling.Points.{marking_of, standing_in}
use Rattle.jvm_model.specs.Profiling.Projection.{projection}
use Rattle.jvm_model.specs.Running.Run.{run}
use Rattle.jvm_model.specs.Profiling.Targets.{operations_of}
use Rattle.jvm_model.specs.Soundness.Whole.{IsWhole}
use Rattle.jvm_model.proofs.Events.Marked as marked
use Rattle.jvm_model.proofs.Revealing.Revealable.{calls-told, revealable, run-suits}
use Rattle.jvm_model.proofs.Soundness.SoundAnswers.{whole-sound}
use Rattle.context_tree.specs.Laws.{SessionSees, TreeIsProjection}
use Rattle.context_tree.specs.Profiles.{steps_credited, profile_of}
use Rattle.context_tree.specs.Seen.{Matches, seen_before}
use Rattle.context_tree.proofs.Events.Folded.{folds_to_counts}
use Rattle.context_tree.proofs.Projection.Projected.{in_order, projected}
use Rattle.context_tree.proofs.Projection.SeenRuns.{seen-stands}

-- ---- of a whole program

pub tree-whole : (w : World) → IsWhole w.program → (acts : List Act) → AreFrom 0 acts → (n : ℕ) → ((m : ℕ) → m < n → is_some (run w m).ending ≡ false)
    → (steps_credited n (profile_of (events_of (marking_of acts w) w n))).contexts ≡ projection acts w n
tree-whole w is acts from n on =
    let suited = run-suits w (revealable w is) acts from in
    folds_to_counts (events_of (marking_of acts w) w n) n (in_order acts (marking_of acts w) w suited n) ∙ projected acts (marking_of acts w) w suited n on

pub session-whole : (w : World) → IsWhole w.program → (acts : List Act) → AreFrom 0 acts → (n : ℕ)
    → Matches acts (seen_before acts w (marking_of acts w) n) (standing_in acts w (original w.program) n)
session-whole w is acts from n =
    seen-stands acts w (marking_of acts w) (run-suits w (revealable w is) acts from)
    (λ k. (marked.stands acts w (operations_of w.program) from (calls-told w (revealable w is)) k).trace) n

-- ---- of a sound one, which is whole

pub tree_is_projection : TreeIsProjection
tree_is_projection own name w sound acts from n on = tree-whole w (whole-sound own name w.program sound) acts from n on

pub session_sees : SessionSees
session_sees own name w sound acts from n = session-whole w (whole-sound own name w.program sound) acts from n
