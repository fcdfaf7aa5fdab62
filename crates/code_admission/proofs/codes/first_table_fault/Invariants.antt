-- what is left of the attributes decides
use Rattle.std.proofs.Common.{◌≡◌, drop}
use Rattle.code_admission.specs.Checks.{first_in}
use Rattle.code_admission.specs.Codes.{table_fault}
use Rattle.code_admission.proofs.codes.first_table_fault.Given as goal

abbrev pub invariant-loop-raw : goal.invariant-loop-raw
invariant-loop-raw l =
    first_in (table_fault l.pool l.body) (drop l.raw-index l.raws) ≡ first_in (table_fault l.pool l.body) l.raws
