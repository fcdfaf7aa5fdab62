use Rattle.std.proofs.lemmas.Bool.{iff_false}
use Rattle.text_coding.proofs.FrontLemmas.{double_bad}
use Rattle.text_coding.proofs.modified.double_unit.Goals as goal

pub returns-then-not-is_between-clause-bad : goal.returns-then-not-is_between-clause-bad
returns-then-not-is_between-clause-bad c =
    let outside = iff_false c.is_between.ensures c.if-not-is_between.true in
    double_bad c.args.bytes.now c.args.most c.requires.some c.requires.lead (rw c.byte_at-second.ensures at outside)
