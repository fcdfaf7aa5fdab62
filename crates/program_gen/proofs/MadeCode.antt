-- The bytes of a code, and the pool behind it.
use Rattle.std.proofs.Common.{◌≡◌, ℕ, ◌+◌, ◌*◌, ◌<◌, ◌≤◌, ◌^◌, List, [], ◌∷◌, ◌++◌, length, sym, subst, length-append, arith}
use Rattle.std.specs.Int.{w16, to_be_bytes}
use Rattle.std.specs.List.{AllByRecursion}
use Rattle.std.proofs.lemmas.Nat.{mod_below}
use Rattle.std.proofs.lemmas.List.{append-nil}
use Rattle.jf_bytes.proofs.Lists.{each_append}
use Rattle.const_pool.specs.declared.pool.Const.{Const}
use Rattle.const_pool.specs.ClassFile.{IsByte}
use Rattle.program_gen.specs.declared.rows.Instruction.{Instruction}
use Rattle.program_gen.specs.declared.rows.Instruction.TheVariants.{Plain, Byte, Short, OfClass, OfMember}
use Rattle.class_making.specs.Making.{CodeMade}
use Rattle.program_gen.specs.Making.{class_shared, member_shared, instruction_added, code_from}
use Rattle.program_gen.specs.Fits.{FitsInstruction}
use Rattle.program_gen.proofs.Pools.{IsGood, good-wider}
use Rattle.program_gen.proofs.SharedNames.{Grows, then-grows, class-added, member-added}

pub grows-none : (n : ℕ) (pool : List Const) → IsGood n pool → Grows n 0 pool pool
grows-none n pool g = record { more = []; grown = sym (append-nil pool); good = good-wider n (n + 0) pool (omega arith) g }

pub grows-wider : (n a b : ℕ) (pool after : List Const) → a ≤ b → Grows n a pool after → Grows n b pool after
grows-wider n a b pool after h g = record { more = g.more; grown = g.grown; good = good-wider (n + a) (n + b) after (omega arith) g.good }

-- so many bytes at least and at most have come behind those that were there
pub record CodeGrows (n added least most : ℕ) (pool : List Const) (bytes : List ℕ) (made : CodeMade) : Type 0 where
  pub grows : Grows n added pool made.pool
  pub each : AllByRecursion IsByte made.bytes
  pub longer : length bytes + least ≤ length made.bytes
  pub shorter : length made.bytes ≤ length bytes + most

short-bytes : (n : ℕ) → AllByRecursion IsByte (to_be_bytes w16 n)
short-bytes n = (mod_below _ 256 (omega arith), (mod_below _ 256 (omega arith), tt))

bytes-grow : (n added : ℕ) (pool : List Const) (bytes : List ℕ) (op : ℕ) (operands : List ℕ) (after : List Const) → Grows n added pool after → added ≤ 6
    → AllByRecursion IsByte bytes → op < 2 ^ 8 → AllByRecursion IsByte operands → length operands ≤ 2
    → CodeGrows n 6 1 3 pool bytes (record { pool = after; bytes = bytes ++ op ∷ operands })
bytes-grow n added pool bytes op operands after g few each fits operand few_bytes =
    let same = length-append bytes (op ∷ operands) in
    record {
      grows = grows-wider n added 6 pool after few g;
      each = each_append IsByte bytes (op ∷ operands) each (fits, operand);
      longer = omega (arith, same);
      shorter = omega (arith, same, few_bytes);
    }

pub instruction-grows : (n : ℕ) (pool : List Const) (bytes : List ℕ) (i : Instruction) → IsGood n pool → n < 64000 → AllByRecursion IsByte bytes → FitsInstruction i
    → CodeGrows n 6 1 3 pool bytes (instruction_added pool bytes i)
unfolding instruction_added
instruction-grows n pool bytes (Plain op) g h each fits = bytes-grow n 0 pool bytes op [] pool (grows-none n pool g) (omega arith) each fits tt (omega arith)
instruction-grows n pool bytes (Byte op operand) g h each fits = bytes-grow n 0 pool bytes op (operand ∷ []) pool (grows-none n pool g) (omega arith) each fits.0 (fits.1, tt) (omega arith)
instruction-grows n pool bytes (Short op operand) g h each fits =
    bytes-grow n 0 pool bytes op (to_be_bytes w16 operand) pool (grows-none n pool g) (omega arith) each fits (short-bytes operand) (omega arith)
instruction-grows n pool bytes (OfClass op class) g h each fits =
    let c = class_shared pool class in
    bytes-grow n 2 pool bytes op (to_be_bytes w16 c.index) c.pool (class-added n pool class g (omega arith) fits.1).added.grows (omega arith) each fits.0 (short-bytes c.index) (omega arith)
instruction-grows n pool bytes (OfMember op class member) g h each fits =
    let m = member_shared pool op class member in
    bytes-grow n 6 pool bytes op (to_be_bytes w16 m.index) m.pool (member-added n pool op class member g h fits.1).added.grows (omega arith) each fits.0 (short-bytes m.index) (omega arith)

pub code-grows : (instructions : List Instruction) (n : ℕ) (pool : List Const) (bytes : List ℕ) → IsGood n pool → n + 6 * length instructions < 64000
    → AllByRecursion IsByte bytes → AllByRecursion FitsInstruction instructions
    → CodeGrows n (6 * length instructions) (length instructions) (3 * length instructions) pool bytes (code_from pool bytes instructions)
unfolding code_from
code-grows [] n pool bytes g h each fits = record { grows = grows-none n pool g; each = each; longer = omega arith; shorter = omega arith }
code-grows (i ∷ rest) n pool bytes g h each fits =
    let first = instruction-grows n pool bytes i g (omega arith) each fits.0 in
    let made = instruction_added pool bytes i in
    let later = code-grows rest (n + 6) made.pool made.bytes first.grows.good (omega arith) first.each fits.1 in
    let a = first.longer in
    let b = first.shorter in
    let c = later.longer in
    let d = later.shorter in
    let all : 6 + 6 * length rest ≡ 6 * length (i ∷ rest) = omega arith in
    record {
      grows = subst (λ k. Grows n k pool (code_from made.pool made.bytes rest).pool) all (then-grows n 6 (6 * length rest) _ _ _ first.grows later.grows);
      each = later.each;
      longer = omega (arith, a, c);
      shorter = omega (arith, b, d);
    }
