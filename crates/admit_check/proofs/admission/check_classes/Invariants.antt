-- what is left of the classes, with the names before them, decides
use Rattle.std.proofs.Common.{◌≡◌, drop}
use Rattle.std.specs.Prelude.{[]}
use Rattle.admit_check.specs.Stages.{classes_fault_among}
use Rattle.admit_check.proofs.admission.check_classes.Given as goal

abbrev pub invariant-loop-number : goal.invariant-loop-number
invariant-loop-number l =
    classes_fault_among l.names l.number (drop l.number l.classes) ≡ classes_fault_among [] 0 l.classes
