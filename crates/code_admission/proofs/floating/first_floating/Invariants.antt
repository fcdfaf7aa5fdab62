-- what is left of the instructions decides
use Rattle.std.proofs.Common.{◌≡◌, drop}
use Rattle.code_admission.specs.Floating.{first_floating}
use Rattle.code_admission.proofs.floating.first_floating.Given as goal

abbrev pub invariant-loop-instr : goal.invariant-loop-instr
invariant-loop-instr l = first_floating l.pool (drop l.instr-index l.instrs) ≡ first_floating l.pool l.instrs
