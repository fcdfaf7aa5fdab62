use Rattle.std.proofs.Common.{true, false, ◌≡◌, sym, subst, ◌∙◌}
use Rattle.jvm_machine.specs.Turns.{Turns}
use Rattle.jvm_machine.proofs.Steps.SeveralTurns.{first-more, one-turn, settled-is}
use Rattle.jvm_machine.proofs.machine.Vm.run_fully.Goals as goal

pub returns-then-not-is_settled : goal.returns-then-not-is_settled
returns-then-not-is_settled c =
    one-turn c.args.self.now c.step_fully-turn.new.self c.args.most c.step_fully-turn.result c.step_fully-turn.ensures.turns c.requires.some
    (λ settled. absurd (let e : false ≡ true = sym c.if-not-is_settled.true ∙ (c.is_settled.ensures ∙ settled) in cc))

pub returns-then-most-eq1 : goal.returns-then-most-eq1
returns-then-most-eq1 c =
    one-turn c.args.self.now c.step_fully-turn.new.self c.args.most c.step_fully-turn.result c.step_fully-turn.ensures.turns c.requires.some (λ settled. sym c.if-most-eq1.true)

pub returns : goal.returns
returns c =
    first-more c.args.self.now c.step_fully-turn.new.self c.run_rested.new.self c.args.most c.run_rested.result
    (subst (λ t. Turns c.args.self.now t c.step_fully-turn.new.self) (settled-is c.step_fully-turn.result (sym c.is_settled.ensures ∙ c.if-not-is_settled.false)) c.step_fully-turn.ensures.turns)
    c.run_rested.ensures c.requires.some
