-- what the lines from here on answer, behind the plan so far, is what all lines answer
use Rattle.std.proofs.Common.{◌+◌, drop, map}
use Rattle.std.specs.Prelude.{Result}
use Rattle.plan_text.specs.declared.plan.Plan.{Plan}
use Rattle.plan_text.specs.declared.plan.PlanError.{PlanError}
use Rattle.plan_text.specs.Lines.{IsRead, lines_in, silent_plan}
use Rattle.plan_text.proofs.lines.read_pieces.Given as goal

abbrev pub invariant-loop-at : goal.invariant-loop-at
invariant-loop-at l = (r : Result Plan PlanError)
    → IsRead (l.at + 1) l.plan (lines_in (map (λ p. p.now) (drop l.at l.pieces))) r
    → IsRead 1 silent_plan (lines_in (map (λ p. p.now) l.pieces)) r
