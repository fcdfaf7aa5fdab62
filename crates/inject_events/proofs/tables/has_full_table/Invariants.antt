-- what is left decides
use Rattle.std.proofs.Common.{◌≡◌, drop}
use Rattle.inject_events.specs.Tables.{has_full_table}
use Rattle.inject_events.proofs.tables.has_full_table.Given as goal

abbrev pub invariant-loop-raw : goal.invariant-loop-raw
invariant-loop-raw l = has_full_table l.setting (drop l.raw-index l.raws) ≡ has_full_table l.setting l.raws
