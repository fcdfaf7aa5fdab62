use Rattle.std.proofs.Common.{◌≡◌, sym, ap₂, subst}
use Rattle.std.specs.Prelude.{IfOk}
use Rattle.jvm_machine.specs.Advances.{taken_hand, taken_loads}
use Rattle.jvm_machine.proofs.advancing.take_up.Goals as goal

pub take_start-requires-clause-at_start : goal.take_start-requires-clause-at_start
take_start-requires-clause-at_start c = c.requires.at_start c.if-not-started.true c.if-not-resting.false

pub returns-then-not-started-clause-loads : goal.returns-then-not-started-clause-loads
returns-then-not-started-clause-loads c =
    subst (λ x. IfOk c.take_start.result (λ t. t.loads ≡ x)) (sym (ap₂ (taken_loads c.args.parts.now.runtime.world) c.if-not-resting.false c.if-not-started.true))
    c.take_start.ensures.loads

pub returns-then-not-started-clause-hand : goal.returns-then-not-started-clause-hand
returns-then-not-started-clause-hand c =
    subst (λ x. IfOk c.take_start.result (λ t. t.hand ≡ x))
    (sym (ap₂ (λ resting started. taken_hand c.args.parts.now.runtime.world resting started c.args.hand) c.if-not-resting.false c.if-not-started.true))
    c.take_start.ensures.hand
