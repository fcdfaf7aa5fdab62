use Rattle.std.proofs.Common.{◌≡◌, length, take}
use Rattle.std.specs.List.{flat_map}
use Rattle.jf_bytes.specs.ModifiedUtf8.{unit_bytes}
use Rattle.class_writer.proofs.room.text_len.Given as goal

abbrev pub invariant-loop-unit : goal.invariant-loop-unit
invariant-loop-unit l = l.len ≡ length (flat_map unit_bytes (take l.unit-index l.text))
