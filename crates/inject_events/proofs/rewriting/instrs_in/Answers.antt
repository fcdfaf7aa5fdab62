-- the code has a reading, so there is no fault in it, and its instructions are those that were read
use Rattle.std.proofs.Common.{sym}
use Rattle.inject_events.proofs.Laying.{no_fault}
use Rattle.inject_events.proofs.InstrsIn.{instrs_in-is}
use Rattle.inject_events.proofs.rewriting.instrs_in.Goals as goal

pub want_of_memory-requires : goal.want_of_memory-requires
want_of_memory-requires c = no_fault c.in-Err.fault c.requires.reading (c.in-Err.ensures.only c.requires.reading c.requires.reads)

pub returns-in-Ok : goal.returns-in-Ok
returns-in-Ok c = record { instrs = sym (instrs_in-is c.args.code.now c.in-Ok.decoded c.in-Ok.ensures.found) }
