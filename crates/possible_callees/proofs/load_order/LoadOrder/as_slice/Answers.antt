use Rattle.std.proofs.Common.{subst}
use Rattle.possible_callees.specs.Ranks.{AreDistinct}
use Rattle.possible_callees.proofs.Classes.RankLemmas.{distinct}
use Rattle.possible_callees.proofs.load_order.LoadOrder.as_slice.Goals as goal

pub returns-clause-distinct : goal.returns-clause-distinct
returns-clause-distinct c = subst AreDistinct c.self.view_is (distinct c.self.inside.ranks c.self.inside.classes c.self.invariant)
