-- The instructions in a code are those of its reading.
use Rattle.std.proofs.Common.{◌≡◌, ℕ, zero, suc, ◌+◌, ◌≤◌, List, [], ◌∷◌, length, refl, ap, ◌∙◌, arith}
use Rattle.std.specs.Prelude.{map}
use Rattle.std.proofs.lemmas.Bool.{lt-ltb, le-ltb}
use Rattle.std.specs.List.Sorted.{IsStrictlyIncreasing}
use Rattle.code_model.specs.declared.instr.Instr.{Instr}
use Rattle.code_model.specs.declared.instr.Code.{Code}
use Rattle.code_model.specs.declared.laying.Group.{Group}
use Rattle.code_model.specs.declared.laying.Homes.{Homes}
use Rattle.code_model.specs.Groups.{IsBytes, AreGroups}
use Rattle.code_model.specs.Instructions.{end_of, Reads, IsReading}
use Rattle.code_model.specs.Layout.{homes_of}
use Rattle.code_model.proofs.Reading.Lengths.{size_at-some}
use Rattle.code_model.proofs.Reading.Readings.{at-instruction_at, instruction_at_within, Reads-some}
use Rattle.jvm_model.specs.Rewriting.Versions.{group_of}
use Rattle.inject_events.specs.Answers.{IsReadableCode}
use Rattle.inject_events.specs.Rewriting.{instrs_from, instrs_in}
use Rattle.inject_events.proofs.Laying.{AreGroups-groups, starts_rise}

-- the instructions from here on, where there may be as many as there are bytes left
instrs_from-is : (n : ℕ) (bytes : List ℕ) (at : ℕ) (instrs : List Instr) → length bytes ≤ at + n → Reads bytes at instrs → instrs_from n bytes at ≡ instrs
unfolding instrs_from
instrs_from-is zero bytes at [] enough reads = refl
instrs_from-is zero bytes at (i ∷ rest) enough reads = let within = instruction_at_within bytes at i reads.0 in absurd (omega arith)
instrs_from-is (suc n) bytes at [] enough reads = rw (le-ltb at (length bytes) (omega arith)) refl
instrs_from-is (suc n) bytes at (i ∷ rest) enough reads =
    let within = instruction_at_within bytes at i reads.0 in
    let here = at-instruction_at bytes at i reads.0 in
    let some = size_at-some i.at i in
    let enough_behind : length bytes ≤ end_of i + n = omega arith in
    rw (lt-ltb at (length bytes) within, reads.0) (ap (λ (is : List Instr). i ∷ is) (instrs_from-is n bytes (end_of i) rest enough_behind reads.1))

pub instrs_in-is : (bytes : List ℕ) (code : Code) → IsReading bytes code → instrs_in bytes ≡ code.instrs
instrs_in-is bytes code reads = instrs_from-is (length bytes) bytes 0 code.instrs (omega arith) reads.instrs

-- what is laid out with probes
pub AreGroups-in : (leave bytes : List ℕ) (groups : List Group) → IsBytes bytes → IsReadableCode bytes → length leave ≤ 16 → groups ≡ map (group_of leave) (instrs_in bytes) → AreGroups groups
AreGroups-in leave bytes groups fits readable few is =
    let code : Code = readable.reading in
    AreGroups-groups leave bytes code groups fits readable.reads readable.short (Reads-some bytes code.instrs readable.some readable.reads.instrs) few
    (is ∙ ap (λ (instrs : List Instr). map (group_of leave) instrs) (instrs_in-is bytes code readable.reads))

pub rise-in : (front leave back bytes : List ℕ) (homes : Homes) → IsReadableCode bytes → homes ≡ homes_of front (map (group_of leave) (instrs_in bytes)) → IsStrictlyIncreasing homes.from
rise-in front leave back bytes homes readable is =
    let code : Code = readable.reading in
    starts_rise front leave back bytes code homes readable.reads (is ∙ ap (λ (instrs : List Instr). homes_of front (map (group_of leave) instrs)) (instrs_in-is bytes code readable.reads))
