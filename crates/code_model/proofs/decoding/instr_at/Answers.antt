use Rattle.std.proofs.Common.{sym, arith}
use Rattle.code_model.proofs.Reading.Readings.{instruction_at-past, instruction_at-read, instruction_at-fault}
use Rattle.code_model.proofs.decoding.instr_at.Goals as goal

pub returns-then-bytes-at : goal.returns-then-bytes-at
returns-then-bytes-at c = sym (instruction_at-past c.args.bytes.now c.args.at (omega arith))

pub returns-in-Ok : goal.returns-in-Ok
returns-in-Ok c = sym (instruction_at-read c.args.bytes.now c.args.at c.in-Ok.read.0 c.in-Ok.read.1.now c.in-Ok.ensures)

pub returns-in_ok-unless_no_memory-in-Err : goal.returns-in_ok-unless_no_memory-in-Err
returns-in_ok-unless_no_memory-in-Err c = sym (instruction_at-fault c.args.bytes.now c.args.at c.in-Err.fault (c.in-Err.ensures c.in_ok-unless_no_memory-in-Err.ensures))
