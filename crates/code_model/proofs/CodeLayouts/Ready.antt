-- What is known of the groups that can be laid out, and of the code that can be encoded.
use Rattle.std.proofs.Common.{◌≡◌, ℕ, ◌+◌, ◌*◌, ◌<◌, ◌≤◌, Bool, true, List, [], ◌∷◌, ◌++◌, length, map, Option, Some, refl, sym, ap, subst, ◌∙◌, append_assoc, arith}
use Rattle.std.specs.Prelude.{All, ℤ, pos, negsuc, ◌-ℤ◌, FitsSigned}
use Rattle.std.specs.Int.{Width, w16, w32}
use Rattle.std.specs.List.{AllByRecursion}
use Rattle.std.proofs.lemmas.Int.{ints}
use Rattle.std.proofs.lemmas.List.{length-append, append-nil}
use Rattle.std.proofs.lemmas.List.Elements.{All-from_recursion}
use Rattle.op_table.specs.declared.Form.{Form}
use Rattle.op_table.specs.declared.Form.TheVariants as form
use Rattle.code_model.specs.declared.instr.Arg.{Arg}
use Rattle.code_model.specs.declared.instr.Arg.TheVariants.{Plain, Value, Pool, Local, Inc, Target, Table, Lookup, Interface, Multi, Array}
use Rattle.code_model.specs.declared.instr.Instr.{Instr}
use Rattle.code_model.specs.declared.instr.Code.{Code}
use Rattle.code_model.specs.declared.laying.Group.{Group}
use Rattle.code_model.specs.Operands.{form_of}
use Rattle.code_model.specs.Instructions.{instruction_at, end_of, Reads, IsReading}
use Rattle.code_model.specs.Layout.{distance, operand_width, width_of, instr_bytes, code_bytes, moved_arg, instr_moved, place_of, group_end, end_from, is_near, fits_branch}
use Rattle.code_model.specs.Groups.{IsBytes, FitsInstr, FitsGroup, IsUnmovedAt, EndsWithin, CanBranch, EachReached, targets_of, instrs_of, IsShort, AreGroups, IsStartIn, IsEncodable}
use Rattle.code_model.proofs.Reading.Lengths.{size_at-some, size_at-near}
use Rattle.code_model.proofs.Reading.Spelled.{HasShape, IsNearTo, EachTarget, instruction_spelled}
use Rattle.code_model.proofs.Reading.Readings.{at-instruction_at, instruction_at_within, end_of-within, stands_from}
use Rattle.code_model.proofs.Reading.Again.{bytes_among, instruction_again}

-- ---- instructions of a code

-- what is known of an instruction of bytes
pub record IsKnown (at : ℕ) (i : Instr) : Type 0 where
  pub here : i.at ≡ at
  pub op : i.op < 256
  pub shape : HasShape (form_of i.wide i.op) i.arg
  pub fits : FitsInstr i
  pub targets : EachTarget i.arg
  pub near : IsNearTo at (width_of i) i.arg

pub known : (bytes : List ℕ) (at : ℕ) (i : Instr) → instruction_at bytes at ≡ Some i → IsBytes bytes → IsKnown at i
known bytes at i e fits =
    let s = stands_from bytes at i e in
    let k = instruction_spelled at s.text i s.spelled in
    let text = bytes_among s.front s.text s.rest bytes s.parts fits in
    record { here = k.here; op = k.op text; shape = k.shape; fits = k.fits text; targets = k.targets; near = k.near text }

-- ---- groups

-- the groups' instructions are what their code reads as
pub groups_read : (gs : List Group) (a : AreGroups gs) → Reads a.bytes 0 (instrs_of gs)
groups_read gs a = subst (Reads a.bytes 0) (sym a.instrs) a.reads.instrs

are_fitting : (bytes : List ℕ) (at : ℕ) (gs : List Group) → Reads bytes at (instrs_of gs) → IsBytes bytes → AllByRecursion FitsGroup gs
are_fitting bytes at [] reads fits = tt
are_fitting bytes at (g ∷ gs) reads fits = ((known bytes at g.instr reads.0 fits).fits, are_fitting bytes (end_of g.instr) gs reads.1 fits)

are_ending : (bytes : List ℕ) (at : ℕ) (gs : List Group) → Reads bytes at (instrs_of gs) → length bytes ≤ 65535 → AllByRecursion EndsWithin gs
are_ending bytes at [] reads short = tt
are_ending bytes at (g ∷ gs) reads short = (let within = end_of-within bytes at g.instr reads.0 in omega arith, are_ending bytes (end_of g.instr) gs reads.1 short)

pub groups_fit : (gs : List Group) → AreGroups gs → All FitsGroup gs
groups_fit gs a = All-from_recursion FitsGroup gs (are_fitting a.bytes 0 gs (groups_read gs a) a.fits)

pub groups_within : (gs : List Group) → AreGroups gs → All EndsWithin gs
groups_within gs a = All-from_recursion EndsWithin gs (are_ending a.bytes 0 gs (groups_read gs a) a.short)

end_bound : (bytes : List ℕ) (at place : ℕ) (gs : List Group) → Reads bytes at (instrs_of gs) → AllByRecursion (λ (g : Group). IsShort g.before) gs
    → end_from place gs + 19 * at ≤ place + 19 * length bytes
end_bound bytes at place [] reads fronts = omega arith
end_bound bytes at place (g ∷ gs) reads fronts =
    let rest = end_bound bytes (end_of g.instr) (group_end place g) gs reads.1 fronts.1 in
    let near = size_at-near (place_of place g) g.instr.at g.instr in
    let some = size_at-some g.instr.at g.instr in
    let start = at-instruction_at bytes at g.instr reads.0 in
    let front = fronts.0 in
    omega arith

pub groups_end : (place : ℕ) (gs : List Group) → AreGroups gs → end_from place gs ≤ place + 1245165
groups_end place gs a = let bound = end_bound a.bytes 0 place gs (groups_read gs a) a.fronts in let short = a.short in omega arith

-- ---- branches

-- offsets of a code are not far apart
pub far_fits : (t at : ℕ) → t ≤ 65535 → at ≤ 65535 → FitsSigned w32 (distance at t)
far_fits t at le le' = by_sum (pos t -ℤ pos at) refl
  where
    by_sum : (z : ℤ) → pos t -ℤ pos at ≡ z → FitsSigned w32 z
    by_sum (pos n) e = record { sfits = omega (arith, ints) }
    by_sum (negsuc n) e = record { sfits = omega (arith, ints) }

near_true : (d : ℤ) → FitsSigned w16 d → is_near d ≡ true
near_true d fits = by_sign d fits
  where
    by_sign : (z : ℤ) → FitsSigned w16 z → is_near z ≡ true
    by_sign (pos n) f = let bound = f.sfits in grind (arith, ints)
    by_sign (negsuc n) f = let bound = f.sfits in grind (arith, ints)

-- a branch that is within reach fits
pub fits-branch : (home : ℕ → ℕ) (place : ℕ) (wide : Bool) (f : Form) (arg : Arg) → HasShape f arg → CanBranch home place (operand_width wide f) arg → fits_branch home place (operand_width wide f) arg ≡ true
fits-branch home place wide form.Jump arg s leads =
    let c : CanBranch home place w16 (Target s.0) = subst (CanBranch home place w16) s.1 leads in
    ap (fits_branch home place w16) s.1 ∙ near_true (distance place (home s.0)) c.1
fits-branch home place wide form.JumpWide arg s leads = ap (fits_branch home place w32) s.1
fits-branch home place wide form.Plain arg s leads = ap (fits_branch home place (operand_width wide form.Plain)) s
fits-branch home place wide form.Byte arg s leads = ap (fits_branch home place (operand_width wide form.Byte)) s.1
fits-branch home place wide form.Short arg s leads = ap (fits_branch home place (operand_width wide form.Short)) s.1
fits-branch home place wide form.PoolByte arg s leads = ap (fits_branch home place (operand_width wide form.PoolByte)) s.1
fits-branch home place wide form.Pool arg s leads = ap (fits_branch home place (operand_width wide form.Pool)) s.1
fits-branch home place wide form.Local arg s leads = ap (fits_branch home place (operand_width wide form.Local)) s.1
fits-branch home place wide form.Inc arg s leads = ap (fits_branch home place (operand_width wide form.Inc)) s.2
fits-branch home place wide form.Table arg s leads = ap (fits_branch home place (operand_width wide form.Table)) s.3
fits-branch home place wide form.Lookup arg s leads = ap (fits_branch home place (operand_width wide form.Lookup)) s.3
fits-branch home place wide form.Interface arg s leads = ap (fits_branch home place (operand_width wide form.Interface)) s.3
fits-branch home place wide form.Multi arg s leads = ap (fits_branch home place (operand_width wide form.Multi)) s.2
fits-branch home place wide form.Array arg s leads = ap (fits_branch home place (operand_width wide form.Array)) s.1
fits-branch home place wide form.Wide arg s leads = absurd s
fits-branch home place wide form.Unknown arg s leads = absurd s

-- ---- code that is encoded

-- targets below 65535
abbrev AreBelow : List ℕ → Type 0
AreBelow ts = AllByRecursion (λ t. t < 65535) ts

below : (bytes : List ℕ) (ts : List ℕ) → length bytes ≤ 65535 → AllByRecursion (IsStartIn bytes) ts → AreBelow ts
below bytes [] short starts = tt
below bytes (t ∷ ts) short starts = (let within = instruction_at_within bytes t starts.0.0 starts.0.1 in omega arith, below bytes ts short starts.1)

each_reached : (at : ℕ) (ts : List ℕ) → at ≤ 65535 → AreBelow ts → EachReached (λ t. t) at ts
each_reached at [] le bounds = tt
each_reached at (t ∷ ts) le bounds = ((omega (arith, bounds.0), far_fits t at (omega (arith, bounds.0)) le), each_reached at ts le bounds.1)

branches_stay : (at : ℕ) (w : Width) (arg : Arg) → at ≤ 65535 → AreBelow (targets_of arg) → IsNearTo at w arg → CanBranch (λ t. t) at w arg
branches_stay at w (Target t) le bounds near = (omega (arith, bounds.0), near bounds.0)
branches_stay at w (Table default low targets) le bounds near = each_reached at (default ∷ targets) le bounds
branches_stay at w (Lookup default keys targets) le bounds near = each_reached at (default ∷ targets) le bounds
branches_stay at w Plain le bounds near = tt
branches_stay at w (Value n) le bounds near = tt
branches_stay at w (Pool index) le bounds near = tt
branches_stay at w (Local slot) le bounds near = tt
branches_stay at w (Inc slot n) le bounds near = tt
branches_stay at w (Interface index count last) le bounds near = tt
branches_stay at w (Multi index dimensions) le bounds near = tt
branches_stay at w (Array kind) le bounds near = tt

map_same : (xs : List ℕ) → map (λ (x : ℕ). x) xs ≡ xs
map_same [] = refl
map_same (x ∷ xs) = ap (λ (ys : List ℕ). x ∷ ys) (map_same xs)

moved_arg-same : (arg : Arg) → moved_arg (λ t. t) arg ≡ arg
moved_arg-same (Target t) = refl
moved_arg-same (Table default low targets) = ap (Table default low) (map_same targets)
moved_arg-same (Lookup default keys targets) = ap (Lookup default keys) (map_same targets)
moved_arg-same Plain = refl
moved_arg-same (Value n) = refl
moved_arg-same (Pool index) = refl
moved_arg-same (Local slot) = refl
moved_arg-same (Inc slot n) = refl
moved_arg-same (Interface index count last) = refl
moved_arg-same (Multi index dimensions) = refl
moved_arg-same (Array kind) = refl

moved-same : (at : ℕ) (i : Instr) → i.at ≡ at → instr_moved (λ t. t) at i ≡ i
moved-same at i here = ap (λ (a : Arg). record i { at = at; arg = a }) (moved_arg-same i.arg) ∙ ap (λ n. record i { at = n }) (sym here)

abbrev AreTargeted : List ℕ → List Instr → Type 0
AreTargeted bytes is = AllByRecursion (λ (i : Instr). AllByRecursion (IsStartIn bytes) (targets_of i.arg)) is

-- an instruction of the code leads on within reach
leads_on : (bytes : List ℕ) (at : ℕ) (i : Instr) → instruction_at bytes at ≡ Some i → IsBytes bytes → length bytes ≤ 65535 → AllByRecursion (IsStartIn bytes) (targets_of i.arg) → CanBranch (λ t. t) at (width_of i) i.arg
leads_on bytes at i here fits short starts =
    let k = known bytes at i here fits in
    let within = instruction_at_within bytes at i here in
    branches_stay at (width_of i) i.arg (omega arith) (below bytes (targets_of i.arg) short starts) k.near

reads_again : (bytes : List ℕ) (start : ℕ) (is : List Instr) → Reads bytes start is → IsBytes bytes → length bytes ≤ 65535 → AreTargeted bytes is
    → (pre : List ℕ) → length pre ≡ start → Reads (pre ++ code_bytes is) start is
reads_again bytes start [] reads fits short targeted pre len = sym len ∙ ap length (sym (append-nil pre))
reads_again bytes start (i ∷ is) reads fits short targeted pre len =
    let here : i.at ≡ start = at-instruction_at bytes start i reads.0 in
    let id : ℕ → ℕ = λ t. t in
    let leads = leads_on bytes start i reads.0 fits short targeted.0 in
    let there = instruction_again bytes start i reads.0 fits id pre (code_bytes is) start len leads in
    let instr = instr_bytes id i.at i in
    let at_place : instr_bytes id start i ≡ instr = ap (λ n. instr_bytes id n i) (sym here) in
    let some : Instr → Option Instr = λ j. Some j in
    let first : instruction_at (pre ++ (instr ++ code_bytes is)) start ≡ Some i =
    ap (λ (t : List ℕ). instruction_at (pre ++ (t ++ code_bytes is)) start) (sym at_place) ∙ there ∙ ap some (moved-same start i here) in
    let long : length (pre ++ instr) ≡ end_of i = length-append pre instr ∙ ap (λ n. n + length instr) (len ∙ sym here) in
    let rest = reads_again bytes (end_of i) is reads.1 fits short targeted.1 (pre ++ instr) long in
    (first, subst (λ (t : List ℕ). Reads t (end_of i) is) (append_assoc pre instr (code_bytes is)) rest)

length-code : (bytes : List ℕ) (start : ℕ) (is : List Instr) → Reads bytes start is → start + length (code_bytes is) ≡ length bytes
length-code bytes start [] reads = omega (arith, reads)
length-code bytes start (i ∷ is) reads =
    let here = at-instruction_at bytes start i reads.0 in
    let rest = length-code bytes (end_of i) is reads.1 in
    let instr = instr_bytes (λ t. t) i.at i in
    omega (arith, length-append instr (code_bytes is))

-- the bytes of a code are read as the code
pub encoded_reads : (code : Code) → IsEncodable code → IsReading (code_bytes code.instrs) code
encoded_reads code e = record {
  instrs = reads_again e.bytes 0 code.instrs e.reads.instrs e.fits e.short e.targets [] refl;
  len = (let long = length-code e.bytes 0 code.instrs e.reads.instrs in omega (arith, e.reads.len));
}

are_encoded : (bytes : List ℕ) (start : ℕ) (is : List Instr) → Reads bytes start is → IsBytes bytes → length bytes ≤ 65535 → AreTargeted bytes is → AllByRecursion FitsInstr is × AllByRecursion IsUnmovedAt is
are_encoded bytes start [] reads fits short targeted = (tt, tt)
are_encoded bytes start (i ∷ is) reads fits short targeted =
    let k = known bytes start i reads.0 fits in
    let rest = are_encoded bytes (end_of i) is reads.1 fits short targeted.1 in
    let leads = leads_on bytes start i reads.0 fits short targeted.0 in
    let near = fits-branch (λ t. t) start i.wide (form_of i.wide i.op) i.arg k.shape leads in
    ((k.fits, rest.0), (subst (λ n. fits_branch (λ t. t) n (width_of i) i.arg ≡ true) (sym k.here) near, rest.1))

pub instrs_fit : (code : Code) → IsEncodable code → All FitsInstr code.instrs
instrs_fit code e = All-from_recursion FitsInstr code.instrs (are_encoded e.bytes 0 code.instrs e.reads.instrs e.fits e.short e.targets).0

pub instrs_stay : (code : Code) → IsEncodable code → All IsUnmovedAt code.instrs
instrs_stay code e = All-from_recursion IsUnmovedAt code.instrs (are_encoded e.bytes 0 code.instrs e.reads.instrs e.fits e.short e.targets).1
