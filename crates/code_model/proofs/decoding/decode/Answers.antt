use Rattle.std.proofs.Common.{arith}
use Rattle.code_model.proofs.Reading.Readings.{Reads-some, Reads-each, IsReading-unique, less-instruction_at, stands_from, stands_to}
use Rattle.code_model.proofs.Reading.Fronts.{goes_on, is_whole, refused, no_code, one_fault, refused_as, decoded_as}
use Rattle.code_model.proofs.decoding.decode.Goals as goal

pub returns-in-Err-clause-only : goal.returns-in-Err-clause-only
returns-in-Err-clause-only c = λ code reads.
    decoded_as c.in-Err.fault code (λ fault. no_code _ _ (refused c.args.bytes.now c.loop-at.at c.loop-at.instrs c.in-Err.fault c.loop-at.invariant c.loop-at-test.true (c.in-Err.ensures fault)) code reads)

pub returns-in-Err-clause-refused : goal.returns-in-Err-clause-refused
returns-in-Err-clause-refused c = λ fault.
    refused c.args.bytes.now c.loop-at.at c.loop-at.instrs c.in-Err.fault c.loop-at.invariant c.loop-at-test.true (c.in-Err.ensures fault)

pub returns-in-Err-clause-first_fault : goal.returns-in-Err-clause-first_fault
returns-in-Err-clause-first_fault c = λ first is.
    refused_as c.in-Err.fault first (λ fault. one_fault c.args.bytes.now c.in-Err.fault first (refused c.args.bytes.now c.loop-at.at c.loop-at.instrs c.in-Err.fault c.loop-at.invariant c.loop-at-test.true (c.in-Err.ensures fault)) is)

pub overflow_cast-at : goal.overflow_cast-at
overflow_cast-at c =
    let less = less-instruction_at c.args.bytes.now c.loop-at.at c.in-Ok.read.0 c.in-Ok.read.1.now c.in-Ok.ensures in
    record { fits = omega (arith, c.requires.short) }

pub overflow_sub-at : goal.overflow_sub-at
overflow_sub-at c =
    let less = less-instruction_at c.args.bytes.now c.loop-at.at c.in-Ok.read.0 c.in-Ok.read.1.now c.in-Ok.ensures in
    omega arith

pub loop-at-smaller : goal.loop-at-smaller
loop-at-smaller c =
    let less = less-instruction_at c.args.bytes.now c.loop-at.at c.in-Ok.read.0 c.in-Ok.read.1.now c.in-Ok.ensures in
    omega arith

pub loop-at-preserved : goal.loop-at-preserved
loop-at-preserved c =
    let less = less-instruction_at c.args.bytes.now c.loop-at.at c.in-Ok.read.0 c.in-Ok.read.1.now c.in-Ok.ensures in
    rw c.in_ok-push.ensures.items (goes_on c.args.bytes.now c.loop-at.at c.loop-at.instrs c.in-Ok.read.0 c.in-Ok.read.1.now _ c.loop-at.invariant c.in-Ok.ensures (omega arith))

pub returns-clause-found : goal.returns-clause-found
returns-clause-found c = is_whole c.args.bytes.now c.loop-at.at c.loop-at.instrs c.loop-at.invariant c.loop-at-test.false

pub returns-clause-not_empty : goal.returns-clause-not_empty
returns-clause-not_empty c = Reads-some _ _ c.requires.some (is_whole c.args.bytes.now c.loop-at.at c.loop-at.instrs c.loop-at.invariant c.loop-at-test.false).instrs

pub returns-clause-placed : goal.returns-clause-placed
returns-clause-placed c = Reads-each _ _ _ (is_whole c.args.bytes.now c.loop-at.at c.loop-at.instrs c.loop-at.invariant c.loop-at-test.false).instrs

pub returns-clause-only : goal.returns-clause-only
returns-clause-only c = λ code reads. IsReading-unique _ _ code (is_whole c.args.bytes.now c.loop-at.at c.loop-at.instrs c.loop-at.invariant c.loop-at-test.false) reads

pub returns-clause-first_fault : goal.returns-clause-first_fault
returns-clause-first_fault c = λ fault is. no_code c.args.bytes.now fault is _ (is_whole c.args.bytes.now c.loop-at.at c.loop-at.instrs c.loop-at.invariant c.loop-at-test.false)

pub returns-in-Err-clause-stands : goal.returns-in-Err-clause-stands
returns-in-Err-clause-stands c = λ at i. (stands_from c.args.bytes.now at i, stands_to c.args.bytes.now at i)

pub returns-in_err-push-clause-stands : goal.returns-in_err-push-clause-stands
returns-in_err-push-clause-stands c = λ at i. (stands_from c.args.bytes.now at i, stands_to c.args.bytes.now at i)

pub returns-clause-stands : goal.returns-clause-stands
returns-clause-stands c = λ at i. (stands_from c.args.bytes.now at i, stands_to c.args.bytes.now at i)
