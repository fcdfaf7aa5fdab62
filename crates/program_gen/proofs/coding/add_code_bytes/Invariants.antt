-- What the rest of the instructions make of what is made so far is what all make.
use Rattle.std.proofs.Common.{◌≡◌, [], drop}
use Rattle.program_gen.specs.Making.{code_from}
use Rattle.program_gen.proofs.coding.add_code_bytes.Given as goal

abbrev pub invariant-loop-instruction : goal.invariant-loop-instruction
invariant-loop-instruction l =
    code_from l.pool.items l.code.items (drop l.instruction-index l.instructions) ≡ code_from l.initial.pool.items [] l.instructions
