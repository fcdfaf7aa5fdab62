-- One byte, or one more than the rest has.
use Rattle.std.proofs.Common.{length, sym, ap, arith}
use Rattle.event_buffer.proofs.Leb128.{leb128-small, leb128-large, length-leb128-wide, length-leb128-narrow}
use Rattle.event_buffer.proofs.numbers.+length_of_bytes.Goals as goal

pub returns-then-number-lt128-clause-length : goal.returns-then-number-lt128-clause-length
returns-then-number-lt128-clause-length t c = sym (ap length (leb128-small c.args.number c.if-number-lt128.true))

pub returns-else-number-lt128-clause-length : goal.returns-else-number-lt128-clause-length
returns-else-number-lt128-clause-length t c =
    let same = ap length (leb128-large c.args.number c.if-number-lt128.false) in omega (arith, same, c.length_of_bytes.ensures.length)

pub returns-else-number-lt128-clause-short : goal.returns-else-number-lt128-clause-short
returns-else-number-lt128-clause-short t c =
    let same = ap length (leb128-large c.args.number c.if-number-lt128.false) in
    let short = length-leb128-wide c.args.number c.ranges.number.fits in
    omega (arith, same, short, c.length_of_bytes.ensures.length)

pub returns-else-number-lt128-clause-narrow : goal.returns-else-number-lt128-clause-narrow
returns-else-number-lt128-clause-narrow t c = λ below.
    let same = ap length (leb128-large c.args.number c.if-number-lt128.false) in
    let short = length-leb128-narrow c.args.number below in
    omega (arith, same, short, c.length_of_bytes.ensures.length)
