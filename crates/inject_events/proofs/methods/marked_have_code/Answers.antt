-- the test tells whether they have
use Rattle.std.proofs.Common.{sym, ◌∙◌}
use Rattle.inject_events.proofs.Marked.{have-can, lack-cannot}
use Rattle.inject_events.proofs.methods.marked_have_code.Goals as goal

pub returns-clause-have : goal.returns-clause-have
returns-clause-have c = λ is. have-can c.args.marks.now c.args.methods.now (sym c.can_all_be_marked.ensures ∙ is)

pub returns-clause-lack : goal.returns-clause-lack
returns-clause-lack c = λ is. lack-cannot c.args.marks.now c.args.methods.now (sym c.can_all_be_marked.ensures ∙ is)
