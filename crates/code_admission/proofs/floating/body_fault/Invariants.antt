-- what is left of the codes decides
use Rattle.std.proofs.Common.{◌≡◌, drop}
use Rattle.std.specs.Prelude.{map}
use Rattle.code_admission.specs.Checks.{first_from}
use Rattle.code_admission.specs.Codes.{read_as}
use Rattle.code_admission.specs.Floating.{floating_body}
use Rattle.code_admission.proofs.floating.body_fault.Given as goal

abbrev pub invariant-loop-at : goal.invariant-loop-at
invariant-loop-at l =
    first_from (floating_body l.number l.pool) l.at (map read_as (drop l.at l.codes))
    ≡ first_from (floating_body l.number l.pool) 0 (map read_as l.codes)
