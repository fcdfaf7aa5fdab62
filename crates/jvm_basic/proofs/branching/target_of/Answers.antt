-- a key that is another is passed
use Rattle.std.proofs.Common.{rules, ◌∙◌, ap, sym, w32, to_z, of_z}
use Rattle.std.proofs.lemmas.Int.{to_z-of_z}
use Rattle.jvm_basic.proofs.Keys.{passed}
use Rattle.jvm_basic.proofs.branching.target_of.Goals as goal

pub loop-index-preserved : goal.loop-index-preserved
loop-index-preserved c =
    sym (passed c.args.keys.now (to_z w32 (of_z w32 c.args.n)) c.loop-index.index c.in-Some.key (search rules)
    (λ e. c.if-key-n.false (ap (of_z w32) (e ∙ to_z-of_z w32 c.args.n c.ranges.n))))
    ∙ c.loop-index.invariant
