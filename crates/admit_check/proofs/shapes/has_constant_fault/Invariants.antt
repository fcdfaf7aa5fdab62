-- what is left of the fields decides
use Rattle.std.proofs.Common.{◌≡◌, drop}
use Rattle.std.specs.List.{list_any}
use Rattle.admit_check.specs.Shapes.{has_wrong_constant}
use Rattle.admit_check.proofs.shapes.has_constant_fault.Given as goal

abbrev pub invariant-loop-field : goal.invariant-loop-field
invariant-loop-field l =
    list_any (has_wrong_constant l.pool) (drop l.field-index l.fields) ≡ list_any (has_wrong_constant l.pool) l.fields
