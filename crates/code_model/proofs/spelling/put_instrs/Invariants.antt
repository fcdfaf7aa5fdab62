-- with the instructions that are left it is the whole
use Rattle.std.proofs.Common.{◌≡◌, ◌++◌, drop}
use Rattle.code_model.specs.Layout.{code_bytes}
use Rattle.code_model.proofs.spelling.put_instrs.Given as goal

abbrev pub invariant-loop-instr : goal.invariant-loop-instr
invariant-loop-instr l = l.out ++ code_bytes (drop l.instr-index l.instrs) ≡ l.fn.out ++ code_bytes l.instrs
