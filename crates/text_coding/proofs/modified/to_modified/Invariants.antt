-- the units so far are spelled
use Rattle.std.proofs.Common.{◌≡◌, take}
use Rattle.jf_bytes.specs.ModifiedUtf8.{modified_utf8}
use Rattle.text_coding.proofs.modified.to_modified.Given as goal

abbrev pub invariant-loop-unit : goal.invariant-loop-unit
invariant-loop-unit l = l.bytes.items ≡ modified_utf8 (take l.unit-index l.units)
