-- what is left of the methods decides, and the codes so far were read
use Rattle.std.proofs.Common.{◌≡◌, drop, take, map}
use Rattle.code_admission.specs.Checks.{first_from}
use Rattle.code_admission.specs.Codes.{method_fault, codes_fault, read_as, reading_of}
use Rattle.code_admission.proofs.codes.check_codes.Given as goal

abbrev pub invariant-loop-at : goal.invariant-loop-at
invariant-loop-at l =
    (first_from (method_fault l.number l.class.pool) l.at (drop l.at l.class.methods) ≡ codes_fault l.number l.class)
    × (map read_as l.codes ≡ map reading_of (take l.at l.class.methods))
