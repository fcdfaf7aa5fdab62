-- what is left is put behind what is there
use Rattle.std.proofs.Common.{◌≡◌, ◌++◌, drop}
use Rattle.std.specs.String.{string_bytes}
use Rattle.played_rows.specs.Revelation.Names.{marks_shown_from}
use Rattle.played_rows.proofs.revelation.names.put_marks.Given as goal

abbrev pub invariant-loop-method : goal.invariant-loop-method
invariant-loop-method l =
    string_bytes l.out ++ marks_shown_from l.program l.method (drop l.method l.marks)
    ≡ string_bytes l.fn.out ++ marks_shown_from l.program 0 l.marks
