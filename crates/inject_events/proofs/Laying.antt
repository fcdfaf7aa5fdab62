-- A code with probes is groups that can be laid out, and its starts rise.
use Rattle.std.proofs.Common.{◌≡◌, ℕ, ◌<◌, ◌≤◌, Bool, true, false, cond, List, [], ◌∷◌, length, Err, refl, sym, ap, subst, arith}
use Rattle.std.specs.Prelude.{map}
use Rattle.std.specs.List.{AllByRecursion}
use Rattle.code_model.specs.declared.instr.Instr.{Instr}
use Rattle.code_model.specs.declared.instr.Code.{Code}
use Rattle.code_model.specs.declared.error.CodeError.{CodeError}
use Rattle.code_model.specs.declared.error.CodeError.TheVariants as why
use Rattle.code_model.specs.declared.laying.Group.{Group}
use Rattle.code_model.specs.Instructions.{Reads, IsReading, IsDecodedAs}
use Rattle.code_model.specs.Groups.{instrs_of, IsShort, AreGroups}
use Rattle.std.specs.List.Sorted.{IsStrictlyIncreasing}
use Rattle.code_model.specs.declared.laying.Homes.{Homes}
use Rattle.code_model.specs.Layout.{homes_of}
use Rattle.code_model.specs.Groups.{IsBytes}
use Rattle.code_model.proofs.CodeLayouts.Layouts.{starts-increasing}
use Rattle.jvm_model.specs.Rewriting.Versions.{is_return_opcode, group_of}

-- ---- a code that has a reading has no fault

pub no_fault : (fault : CodeError) (code : Code) → IsDecodedAs (Err fault) code → fault ≡ why.NoMemory
no_fault why.NoMemory code none = refl
no_fault (why.BadOpcode at) code none = absurd none
no_fault (why.Cut at) code none = absurd none
no_fault (why.BadSwitch at) code none = absurd none

-- ---- they are groups

pub instrs_of-groups : (leave : List ℕ) (instrs : List Instr) → instrs_of (map (group_of leave) instrs) ≡ instrs
instrs_of-groups leave [] = refl
instrs_of-groups leave (i ∷ rest) = ap (λ (is : List Instr). i ∷ is) (instrs_of-groups leave rest)

length-before : (leave : List ℕ) (b : Bool) → length (cond b leave []) ≤ length leave
length-before leave true = omega arith
length-before leave false = omega arith

short_fronts : (leave : List ℕ) (instrs : List Instr) → length leave ≤ 16 → AllByRecursion (λ (g : Group). IsShort g.before) (map (group_of leave) instrs)
short_fronts leave [] short = tt
short_fronts leave (i ∷ rest) short = (let front = length-before leave (is_return_opcode i.op) in omega arith, short_fronts leave rest short)

length-map_some : (leave : List ℕ) (instrs : List Instr) → 0 < length instrs → 1 ≤ length (map (group_of leave) instrs)
length-map_some leave [] some = omega arith
length-map_some leave (i ∷ rest) some = omega arith

AreGroups-map : (leave bytes : List ℕ) (code : Code) → IsBytes bytes → IsReading bytes code → length bytes ≤ 65535 → 0 < length code.instrs → length leave ≤ 16 → AreGroups (map (group_of leave) code.instrs)
AreGroups-map leave bytes code fits reads short some few = record {
  bytes = bytes;
  fits = fits;
  reading = code;
  reads = reads;
  short = short;
  some = length-map_some leave code.instrs some;
  instrs = instrs_of-groups leave code.instrs;
  fronts = short_fronts leave code.instrs few;
}

pub AreGroups-groups : (leave bytes : List ℕ) (code : Code) (groups : List Group) → IsBytes bytes → IsReading bytes code → length bytes ≤ 65535 → 0 < length code.instrs → length leave ≤ 16 → groups ≡ map (group_of leave) code.instrs → AreGroups groups
AreGroups-groups leave bytes code groups fits reads short some few is = subst AreGroups (sym is) (AreGroups-map leave bytes code fits reads short some few)

-- ---- the starts rise

pub starts_rise : (front leave back bytes : List ℕ) (code : Code) (homes : Homes) → IsReading bytes code → homes ≡ homes_of front (map (group_of leave) code.instrs) → IsStrictlyIncreasing homes.from
starts_rise front leave back bytes code homes reads is =
    let groups = map (group_of leave) code.instrs in
    let same : Reads bytes 0 (instrs_of groups) = subst (Reads bytes 0) (sym (instrs_of-groups leave code.instrs)) reads.instrs in
    subst (λ (h : Homes). IsStrictlyIncreasing h.from) (sym is) (starts-increasing bytes front groups same)
