use Rattle.std.proofs.Common.{sym, ◌∙◌}
use Rattle.profile_session.proofs.Turns.Hearing.{hears-quiet, hears-still}
use Rattle.profile_session.proofs.parts.Parts.end.Goals as goal

pub returns-then-not-is_idle : goal.returns-then-not-is_idle
returns-then-not-is_idle c = hears-still c.args.self.now c.requires.fit c.requires.shown (sym c.is_idle.ensures ∙ c.if-not-is_idle.true)

pub returns : goal.returns
returns c = hears-quiet c.args.self.now c.quiet.new.self (sym c.is_idle.ensures ∙ c.if-not-is_idle.false) c.in_ok-quiet.ensures
