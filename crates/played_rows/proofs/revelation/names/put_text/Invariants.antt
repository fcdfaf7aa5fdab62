-- what is left is put behind what is there
use Rattle.std.proofs.Common.{◌≡◌, ◌++◌, drop}
use Rattle.std.specs.String.{string_bytes}
use Rattle.std.specs.Prelude.{Some}
use Rattle.played_rows.specs.Revelation.Names.{text_shown}
use Rattle.played_rows.proofs.revelation.names.put_text.Given as goal

abbrev pub invariant-loop-unit : goal.invariant-loop-unit
invariant-loop-unit l =
    string_bytes l.out ++ text_shown (Some (drop l.unit-index l.unit-items)) ≡ string_bytes l.fn.out ++ text_shown (Some l.unit-items)
