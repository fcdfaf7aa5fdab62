use Rattle.std.proofs.Common.{sym, subst, ◌∙◌}
use Rattle.possible_callees.specs.Tables.{IsPrefix}
use Rattle.profile_session.specs.declared.parts.Parts.{Parts}
use Rattle.profile_session.specs.Parts.{loaded_in}
use Rattle.profile_session.proofs.Turns.Hearing.{hears-open, hears-shut}
use Rattle.profile_session.proofs.parts.Parts.tell.Goals as goal

pub enter-requires-clause-prefix : goal.enter-requires-clause-prefix
enter-requires-clause-prefix c =
    subst (λ (x : Parts). IsPrefix x.reveal.lineage.loaded (loaded_in x)) (sym c.in_ok-take.ensures.takes.same) c.requires.tellable.prefix

pub returns-then-not-branch : goal.returns-then-not-branch
returns-then-not-branch c =
    hears-shut c.args.self.now c.take.new.self c.args.event c.requires.shown c.in_ok-take.ensures.takes (sym c.in_ok-take.ensures.opens ∙ c.if-not-branch.true)

pub returns : goal.returns
returns c =
    hears-open c.args.self.now c.take.new.self c.enter.new.self c.args.event c.in_ok-take.ensures.takes c.requires.tellable.now
    (sym c.in_ok-take.ensures.opens ∙ c.if-not-branch.false) c.in_ok-enter.ensures
