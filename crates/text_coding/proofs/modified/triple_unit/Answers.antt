use Rattle.std.proofs.lemmas.Bool.{iff_false}
use Rattle.text_coding.proofs.FrontLemmas.{triple_bad, tail_bad}
use Rattle.text_coding.proofs.modified.triple_unit.Goals as goal

pub returns-then-not-is_between-clause-bad : goal.returns-then-not-is_between-clause-bad
returns-then-not-is_between-clause-bad c =
    let outside = iff_false c.is_between.ensures c.if-not-is_between.true in
    triple_bad c.args.bytes.now c.args.least c.requires.some c.requires.lead (rw c.byte_at-second.ensures at outside)

pub returns-then-not-is_between-2-clause-bad : goal.returns-then-not-is_between-2-clause-bad
returns-then-not-is_between-2-clause-bad c =
    let inside = c.is_between.ensures.0 c.if-not-is_between.false in
    let outside = iff_false c.is_between-2.ensures c.if-not-is_between-2.true in
    tail_bad c.args.bytes.now c.args.least c.requires.lead (rw c.byte_at-second.ensures at inside) (rw c.byte_at-third.ensures at outside)
