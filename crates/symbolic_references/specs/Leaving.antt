-- What rules leave of a runtime, unless memory ran out.
use Rattle.std.specs.Prelude.{◌≡◌, Result, OnOk}
use Rattle.jf_bytes.specs.declared.error.NoMemory.{NoMemory}
use Rattle.frame_stack.specs.FrameLists.{FramesView}
use Rattle.member_selection.specs.declared.outcome.Outcome.{Outcome}
use Rattle.member_selection.specs.Answers.{Rule, done_on, shared_by}
use Rattle.symbolic_references.specs.Runtimes.{RuntimeView, after, with_shared}

-- what all share is as the rule leaves it, and what it writes is written
abbrev pub Leaves : Result Outcome NoMemory → RuntimeView → Rule → FramesView → RuntimeView → Type 0
Leaves result new rule f old = OnOk result (new ≡ after (done_on rule f) old)

-- the same of a rule that writes nothing
abbrev pub Sets : Result Outcome NoMemory → RuntimeView → Rule → FramesView → RuntimeView → Type 0
Sets result new rule f old = OnOk result (new ≡ with_shared (shared_by rule f) old)
