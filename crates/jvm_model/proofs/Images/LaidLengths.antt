-- How long the code of a version is: each instruction has a byte at least, and at most six in front of it.
use Rattle.std.proofs.Common.{ℕ, ◌+◌, ◌*◌, ◌≤◌, Bool, true, false, cond, List, [], ◌∷◌, length, arith}
use Rattle.std.specs.Prelude.{map}
use Rattle.code_model.specs.declared.instr.Instr.{Instr}
use Rattle.code_model.specs.declared.instr.Code.{Code as Reading}
use Rattle.code_model.specs.declared.laying.Group.{Group}
use Rattle.code_model.specs.Instructions.{end_of, Reads, IsReading}
use Rattle.code_model.specs.Layout.{place_of, group_end, end_from, laid_of}
use Rattle.code_model.proofs.Reading.Readings.{at-instruction_at}
use Rattle.code_model.proofs.Reading.Lengths.{size_at-some, size_at-near}
use Rattle.code_model.proofs.CodeLayouts.Walks.{length-laid_of}
use Rattle.jvm_model.specs.Rewriting.Versions.{is_return_opcode, group_of}

pub length-before : (leave : List ℕ) (b : Bool) → length (cond b leave []) ≤ length leave
length-before leave true = omega arith
length-before leave false = omega arith

end_from-le : (leave bytes : List ℕ) (at place : ℕ) (instrs : List Instr) → Reads bytes at instrs → length leave ≤ 6 → end_from place (map (group_of leave) instrs) + 7 * at ≤ place + 7 * length bytes
end_from-le leave bytes at place [] reads six = omega arith
end_from-le leave bytes at place (i ∷ rest) reads six =
    let g : Group = group_of leave i in
    let here = at-instruction_at bytes at i reads.0 in
    let near = size_at-near (place_of place g) i.at i in
    let some = size_at-some i.at i in
    let front = length-before leave (is_return_opcode i.op) in
    let behind = end_from-le leave bytes (end_of i) (group_end place g) rest reads.1 six in
    omega arith

pub length-laid_of-le : (front leave back bytes : List ℕ) (code : Reading) → IsReading bytes code → length front ≤ 6 → length leave ≤ 6 → length back ≤ 7
    → length (laid_of front (map (group_of leave) code.instrs) back).code ≤ 13 + 7 * length bytes
length-laid_of-le front leave back bytes code reads few six seven =
    let bound = end_from-le leave bytes 0 (length front) code.instrs reads.instrs six in
    let whole = length-laid_of front (map (group_of leave) code.instrs) back in
    omega arith
