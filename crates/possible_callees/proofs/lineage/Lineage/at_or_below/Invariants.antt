-- what stands in the lists of those that were gone through is among them
use Rattle.std.proofs.Common.{◌≡◌, take, true}
use Rattle.jvm_model.specs.Classes.Load.{is_among}
use Rattle.possible_callees.specs.Lineages.{AreFollowed}
use Rattle.possible_callees.proofs.lineage.Lineage.at_or_below.Given as goal

abbrev pub invariant-loop-at : goal.invariant-loop-at
invariant-loop-at l = (is_among l.class l.found ≡ true) × AreFollowed l.self.below.items (take l.at l.found) l.found
