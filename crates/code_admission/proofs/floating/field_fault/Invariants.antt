-- what is left of the fields decides
use Rattle.std.proofs.Common.{◌≡◌, drop}
use Rattle.code_admission.specs.Checks.{first_from}
use Rattle.code_admission.specs.Floating.{floating_field}
use Rattle.code_admission.proofs.floating.field_fault.Given as goal

abbrev pub invariant-loop-at : goal.invariant-loop-at
invariant-loop-at l =
    first_from (floating_field l.number l.pool) l.at (drop l.at l.fields) ≡ first_from (floating_field l.number l.pool) 0 l.fields
