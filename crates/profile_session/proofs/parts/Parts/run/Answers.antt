use Rattle.std.proofs.Common.{sym, ◌∙◌}
use Rattle.profile_session.proofs.Turns.Slicing.{ready-hearable, ready-ran, ready-whole}
use Rattle.profile_session.proofs.Turns.Worlds.{run-whole, run-world}
use Rattle.profile_session.proofs.parts.Parts.run.Goals as goal

pub is_telling-requires : goal.is_telling-requires
is_telling-requires c =
    run-whole c.args.self.now.vm c.run_on-turn.new.self c.args.most c.run_on-turn.result (ready-whole c.args.self.now c.requires.ready) c.run_on-turn.ensures

pub returns-then-not-is_telling : goal.returns-then-not-is_telling
returns-then-not-is_telling c = run-world c.args.self.now.vm c.run_on-turn.new.self c.args.most c.run_on-turn.result c.run_on-turn.ensures

pub hear-requires-clause-hearable : goal.hear-requires-clause-hearable
hear-requires-clause-hearable c =
    ready-hearable c.args.self.now c.args.most c.run_on-turn.result c.run_on-turn.new.self c.requires.ready (sym c.if-not-is_telling.ensures) c.requires.below c.run_on-turn.ensures

pub returns-in-Ok : goal.returns-in-Ok
returns-in-Ok c =
    ready-ran c.args.self.now c.hear.new.self c.args.most c.run_on-turn.result c.run_on-turn.new.self c.requires.ready (sym c.if-not-is_telling.ensures) c.requires.below c.run_on-turn.ensures c.in-Ok.ensures

pub returns-in-Err : goal.returns-in-Err
returns-in-Err c = c.in-Err.ensures ∙ run-world c.args.self.now.vm c.run_on-turn.new.self c.args.most c.run_on-turn.result c.run_on-turn.ensures
