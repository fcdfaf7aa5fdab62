use Rattle.jvm_basic.proofs.stack.+insert.Given as goal

abbrev pub decreases-insert : goal.decreases-insert
decreases-insert l = l.under
