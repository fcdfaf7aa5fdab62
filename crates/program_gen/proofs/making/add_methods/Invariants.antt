-- What the rest of the rows make of what is made so far is what all make.
use Rattle.std.proofs.Common.{◌≡◌, [], drop}
use Rattle.program_gen.specs.Making.{methods_from}
use Rattle.program_gen.proofs.making.add_methods.Given as goal

abbrev pub invariant-loop-row : goal.invariant-loop-row
invariant-loop-row l =
    methods_from l.pool.items l.members (drop l.row-index l.rows) ≡ methods_from l.initial.pool.items [] l.rows
