use Rattle.std.proofs.Common.{◌≡◌, subst, ◌∙◌}
use Rattle.std.specs.Prelude.{IfNone}
use Rattle.member_selection.specs.Outcomes.{outcome_in_frame}
use Rattle.prepared_code.specs.declared.parts.Parts.{Parts}
use Rattle.prepared_code.specs.Originals.{setup_in}
use Rattle.prepared_code.specs.States.{state_in}
use Rattle.activations.specs.Applied.{acts_asked, on_parts}
use Rattle.instructions.proofs.Attempts.ObjectActs.{object-acts, object-starts, object-takes, seeing}
use Rattle.instructions.proofs.attempting.act.Goals as goal

pub conclude-requires-clause-takes : goal.conclude-requires-clause-takes
conclude-requires-clause-takes c =
    object-takes c.args.originals.now c.args.line.now c.args.method c.args.parts.now (outcome_in_frame c.in_ok-outcome-in_default.outcome c.args.parts.now.frames) c.in_ok-outcome-in_default.ensures.answer

pub returns-in_ok-conclude-in_default-clause-state : goal.returns-in_ok-conclude-in_default-clause-state
returns-in_ok-conclude-in_default-clause-state c =
    let v = setup_in c.ask.new.runtime c.args.originals.now in
    let mid : Parts = record c.args.parts.now { runtime = c.ask.new.runtime } in
    object-acts c.args.originals.now c.args.line.now c.args.method c.args.parts.now c.ask.new.runtime (outcome_in_frame c.in_ok-outcome-in_default.outcome c.args.parts.now.frames) c.conclude.new.parts
    (seeing c.args.line.now.operation c.requires.alone (λ i e. c.in_default.not-Within i e)) c.requires.top c.in_ok-outcome-in_default.ensures.answer c.in_ok-outcome-in_default.ensures.runtime
    (subst (λ o. IfNone o (state_in c.conclude.new.parts ≡ on_parts (λ s f. acts_asked v c.args.line.now s f (outcome_in_frame c.in_ok-outcome-in_default.outcome c.args.parts.now.frames)) mid))
    (c.in_ok-conclude-in_default.ensures.answer
    ∙ object-starts c.args.originals.now c.args.line.now c.args.method c.args.parts.now (outcome_in_frame c.in_ok-outcome-in_default.outcome c.args.parts.now.frames) c.in_ok-outcome-in_default.ensures.answer)
    c.in_ok-conclude-in_default.ensures.state)
