-- what is left of both decides
use Rattle.std.proofs.Common.{◌≡◌, drop}
use Rattle.std.specs.Str.{bytes_eq}
use Rattle.jf_bytes.proofs.text.Text16.is_bytes.Given as goal

abbrev pub invariant-loop-i : goal.invariant-loop-i
invariant-loop-i l = bytes_eq (drop l.i l.units) (drop l.i l.bytes) ≡ bytes_eq l.units l.bytes
