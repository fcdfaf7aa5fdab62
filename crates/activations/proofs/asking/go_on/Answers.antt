use Rattle.std.proofs.Common.{ap, ◌∙◌}
use Rattle.prepared_code.specs.Originals.{setup_in}
use Rattle.prepared_code.specs.States.{state_in}
use Rattle.activations.proofs.ConcludedOutcomes.{ended-is, gone-is}
use Rattle.activations.proofs.asking.go_on.Goals as goal

pub returns-then-apply-clause-state : goal.returns-then-apply-clause-state
returns-then-apply-clause-state c =
    gone-is (setup_in c.args.parts.now.runtime c.args.originals.now) c.args.line.now c.args.method c.args.parts.now c.args.count c.args.value c.apply.result c.apply.new.frames c.requires.top
    c.apply.ensures.answer c.apply.ensures.frames c.if-apply.true

pub returns-clause-state : goal.returns-clause-state
returns-clause-state c =
    ap state_in c.break_off.ensures
    ∙ ended-is (setup_in c.args.parts.now.runtime c.args.originals.now) c.args.line.now c.args.method c.args.parts.now c.args.count c.args.value c.apply.result c.apply.new.frames c.requires.top
    c.apply.ensures.answer c.apply.ensures.frames c.if-apply.false
