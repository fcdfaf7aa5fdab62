use Rattle.std.proofs.Common.{sym, ◌∙◌}
use Rattle.activations.proofs.CatchLemmas.{caught-given, fits-given}
use Rattle.activations.proofs.catching.catch_below.Goals as goal

pub returns-clause-fits : goal.returns-clause-fits
returns-clause-fits c on = fits-given c.args.object c.args.frames.now.frames (sym c.give_back.ensures.answer ∙ c.if-not-give_back.false)

pub returns-clause-frames : goal.returns-clause-frames
returns-clause-frames c =
    caught-given c.give_back.result c.args.object c.args.target c.args.frames.now c.give_back.new.self c.put_alone.new.frames.frames c.if-not-give_back.false
    c.give_back.ensures.frames c.put_alone.ensures.frames
    (fits-given c.args.object c.args.frames.now.frames (sym c.give_back.ensures.answer ∙ c.if-not-give_back.false))
