-- what is left is put behind what is there
use Rattle.std.proofs.Common.{◌≡◌, ◌++◌, drop}
use Rattle.std.specs.List.{flat_map}
use Rattle.std.specs.String.{string_bytes}
use Rattle.played_rows.specs.Revelation.Names.{method_shown}
use Rattle.played_rows.proofs.revelation.names.put_methods.Given as goal

abbrev pub invariant-loop-method : goal.invariant-loop-method
invariant-loop-method l =
    string_bytes l.out ++ flat_map (method_shown l.program) (drop l.method-index l.methods)
    ≡ string_bytes l.fn.out ++ flat_map (method_shown l.program) l.methods
