-- the methods so far
use Rattle.std.proofs.Common.{◌≡◌, take}
use Rattle.std.specs.Prelude.{map}
use Rattle.prepared_code.specs.Entries.{entry_at}
use Rattle.prepared_code.proofs.preparing.prepare_methods.Given as goal

abbrev pub invariant-loop-place : goal.invariant-loop-place
invariant-loop-place l = l.methods ≡ map (entry_at l.program) (take l.place-index l.program.methods)
