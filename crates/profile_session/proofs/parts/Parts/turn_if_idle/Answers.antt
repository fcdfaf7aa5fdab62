use Rattle.std.proofs.Common.{sym, ◌∙◌}
use Rattle.profile_session.proofs.Turns.Slicing.{turning-busily, turning-first}
use Rattle.profile_session.proofs.parts.Parts.turn_if_idle.Goals as goal

pub is_idle-requires : goal.is_idle-requires
is_idle-requires c = c.requires.busy.is.fit.depth

pub returns-then-not-is_idle : goal.returns-then-not-is_idle
returns-then-not-is_idle c = turning-busily c.args.self.now c.args.self.now (turning-first c.args.self.now c.requires.busy) (sym c.is_idle.ensures ∙ c.if-not-is_idle.true)
