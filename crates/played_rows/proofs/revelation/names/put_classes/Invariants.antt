-- what is left is put behind what is there
use Rattle.std.proofs.Common.{◌≡◌, ◌++◌, drop}
use Rattle.std.specs.List.{flat_map}
use Rattle.std.specs.String.{string_bytes}
use Rattle.played_rows.specs.Revelation.Names.{class_shown}
use Rattle.played_rows.proofs.revelation.names.put_classes.Given as goal

abbrev pub invariant-loop-class : goal.invariant-loop-class
invariant-loop-class l =
    string_bytes l.out ++ flat_map (class_shown l.program) (drop l.class-index l.classes)
    ≡ string_bytes l.fn.out ++ flat_map (class_shown l.program) l.classes
