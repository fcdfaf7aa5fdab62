use Rattle.context_tree.proofs.Events.Folded as folded
use Rattle.context_tree.proofs.laws.folds_to_counts.Goals as goal

pub returns : goal.returns
returns c = folded.folds_to_counts
