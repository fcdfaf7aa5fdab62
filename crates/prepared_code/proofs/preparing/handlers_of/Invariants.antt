-- the handlers so far
use Rattle.std.proofs.Common.{◌≡◌, map}
use Rattle.std.specs.Prelude.{take}
use Rattle.prepared_code.specs.Entries.{catching_of}
use Rattle.prepared_code.proofs.preparing.handlers_of.Given as goal

abbrev pub invariant-loop-handler : goal.invariant-loop-handler
invariant-loop-handler l = l.all ≡ map (catching_of l.class) (take l.handler-index l.handlers)
