use Rattle.context_tree.proofs.Projection.Headline as headline
use Rattle.context_tree.proofs.laws.session_sees.Goals as goal

pub returns : goal.returns
returns c = headline.session_sees
