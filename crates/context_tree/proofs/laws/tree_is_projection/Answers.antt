use Rattle.context_tree.proofs.Projection.Headline as headline
use Rattle.context_tree.proofs.laws.tree_is_projection.Goals as goal

pub returns : goal.returns
returns c = headline.tree_is_projection
