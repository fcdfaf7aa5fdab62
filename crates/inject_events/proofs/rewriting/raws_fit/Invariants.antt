-- those that are left fit into what is left
use Rattle.std.proofs.Common.{◌≡◌, drop, length}
use Rattle.std.specs.Prelude.{nat_le}
use Rattle.std.specs.List.{flat_map}
use Rattle.const_pool.specs.ClassFile.{raw_bytes}
use Rattle.inject_events.proofs.rewriting.raws_fit.Given as goal

abbrev pub invariant-loop-raw : goal.invariant-loop-raw
invariant-loop-raw l = nat_le (length (flat_map raw_bytes (drop l.raw-index l.raws))) l.left ≡ nat_le (length (flat_map raw_bytes l.raws)) l.room
