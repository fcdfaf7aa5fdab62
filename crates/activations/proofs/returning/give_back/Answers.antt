use Rattle.std.proofs.Common.{sym, ◌∙◌}
use Rattle.prepared_code.specs.States.{state_in}
use Rattle.activations.proofs.Passages.{gives-back-so}
use Rattle.activations.proofs.returning.give_back.Goals as goal

pub returns-clause-state : goal.returns-clause-state
returns-clause-state c =
    c.give_back_by.ensures.state
    ∙ gives-back-so c.args.originals.now.versions (state_in c.args.parts.now) c.args.datum c.args.parts.now.frames.frames c.in-Some.caller c.in_ok-passage.passage
    (sym c.where_now.ensures ∙ c.in-Some.is) c.in_ok-passage.ensures
