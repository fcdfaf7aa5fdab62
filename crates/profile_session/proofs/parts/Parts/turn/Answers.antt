use Rattle.std.proofs.Common.{sym, ◌∙◌}
use Rattle.profile_session.proofs.Turns.Slices.{turn-after, turn-hearable}
use Rattle.profile_session.proofs.Turns.Worlds.{turn-whole, turn-world}
use Rattle.profile_session.proofs.parts.Parts.turn.Goals as goal

pub is_telling-requires : goal.is_telling-requires
is_telling-requires c = turn-whole c.args.self.now.vm c.step-turn.new.self c.step-turn.result c.requires.busy.is.fit.whole c.step-turn.ensures.turns

pub returns-then-not-is_telling : goal.returns-then-not-is_telling
returns-then-not-is_telling c = turn-world c.args.self.now.vm c.step-turn.new.self c.step-turn.result c.step-turn.ensures.turns

pub hear-requires-clause-hearable : goal.hear-requires-clause-hearable
hear-requires-clause-hearable c =
    turn-hearable c.args.self.now c.step-turn.new.self c.step-turn.result c.requires.busy c.step-turn.ensures.turns (sym c.if-not-is_telling.ensures) c.requires.below

pub returns-in-Ok : goal.returns-in-Ok
returns-in-Ok c =
    turn-after c.args.self.now c.hear.new.self c.step-turn.new.self c.step-turn.result c.requires.busy c.step-turn.ensures.turns (sym c.if-not-is_telling.ensures) c.in-Ok.ensures

pub returns-in-Err : goal.returns-in-Err
returns-in-Err c = c.in-Err.ensures ∙ turn-world c.args.self.now.vm c.step-turn.new.self c.step-turn.result c.step-turn.ensures.turns
