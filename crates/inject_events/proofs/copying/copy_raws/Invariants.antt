-- the copies so far
use Rattle.std.proofs.Common.{◌≡◌, take}
use Rattle.inject_events.proofs.copying.copy_raws.Given as goal

abbrev pub invariant-loop-raw : goal.invariant-loop-raw
invariant-loop-raw l = l.copies ≡ take l.raw-index l.raws
