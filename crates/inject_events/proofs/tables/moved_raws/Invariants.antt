-- the attributes so far
use Rattle.std.proofs.Common.{◌≡◌, take}
use Rattle.std.specs.Prelude.{map}
use Rattle.inject_events.specs.Tables.{moved_raw}
use Rattle.inject_events.proofs.tables.moved_raws.Given as goal

abbrev pub invariant-loop-raw : goal.invariant-loop-raw
invariant-loop-raw l = l.moved ≡ map (moved_raw l.setting l.homes l.end) (take l.raw-index l.raws)
