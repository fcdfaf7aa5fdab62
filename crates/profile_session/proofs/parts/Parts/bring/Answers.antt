use Rattle.std.proofs.Common.{◌≤◌, sym, subst, ap, ◌∙◌}
use Rattle.context_tree.specs.Profiles.{steps_credited}
use Rattle.profile_session.proofs.Points.Acts.{brought, credit-later}
use Rattle.profile_session.proofs.parts.Parts.bring.Goals as goal

pub credit-requires : goal.credit-requires
credit-requires c = subst (λ n. c.drain.new.self.tree.clock ≤ n) (sym c.clock.ensures) (credit-later c.args.self.now c.drain.new.self c.in_ok-drain.ensures)

pub returns : goal.returns
returns c =
    brought c.args.self.now c.drain.new.self c.credit.new.self c.in_ok-drain.ensures (c.credit.ensures.credited ∙ ap (λ n. steps_credited n c.drain.new.self.tree) c.clock.ensures)
