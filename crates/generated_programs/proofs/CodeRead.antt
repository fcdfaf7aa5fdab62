-- The bytes of a code that has these instructions are read as them.
use Rattle.std.proofs.Common.{◌≡◌, ℕ, zero, suc, ◌+◌, ◌<◌, ◌≤◌, ◌^◌, Bool, true, false, List, [], ◌∷◌, ◌++◌, length, Some, Ok, refl, ap, sym, subst, ◌∙◌, arith}
use Rattle.std.specs.Prelude.{◌==◌, if◌then◌else◌, Result}
use Rattle.std.specs.Int.{w16, byte_len, to_be_bytes}
use Rattle.std.specs.List.{AllByRecursion, AllZip, flat_map}
use Rattle.op_table.specs.Opcodes.{row_of}
use Rattle.op_table.specs.declared.Form.{Form}
use Rattle.op_table.specs.declared.Form.TheVariants as form
use Rattle.const_pool.specs.declared.pool.Const.{Const}
use Rattle.const_pool.specs.References.{named_class}
use Rattle.code_model.specs.declared.error.CodeError.{CodeError}
use Rattle.code_model.specs.declared.instr.Instr.{Instr}
use Rattle.code_model.specs.Reading.{◌>>=◌, read_instruction}
use Rattle.code_model.specs.Layout.{operand_width}
use Rattle.code_model.specs.Instructions.{end_of}
use Rattle.code_model.proofs.Reading.Lengths.{size_at-is}
use Rattle.program_gen.specs.declared.rows.Instruction.{Instruction}
use Rattle.program_gen.specs.declared.rows.Instruction.TheVariants.{Plain, Byte, Short, OfClass, OfMember}
use Rattle.program_gen.specs.Names.{class_text}
use Rattle.program_gen.specs.Members.{IsSpelled, named_by, reference_of}
use Rattle.code_admission.specs.Codes.{instructions_from}
use Rattle.generated_programs.proofs.Forms.{size_of, instr_of, instrs_of}
use Rattle.generated_programs.proofs.Readings.{read-plain, read-byte, read-short, read-jump, read-pool}

-- ---- what is asked of an instruction, and what its index names

abbrev pub short_form : Bool → Form
short_form jumps = if jumps then form.Jump else form.Short

abbrev pub IsFormed : Instruction → Type 0
IsFormed (Plain op) = (row_of op).form ≡ form.Plain
IsFormed (Byte op operand) = (row_of op).form ≡ form.Byte
IsFormed (Short op operand) = ((row_of op).form ≡ short_form (op == 157)) × (operand < 2 ^ 16)
IsFormed (OfClass op class) = (row_of op).form ≡ form.Pool
IsFormed (OfMember op class member) = (row_of op).form ≡ form.Pool

abbrev pub HasNamed : List Const → Instruction → ℕ → Type 0
HasNamed pool (OfClass op class) index = named_class pool index ≡ Some (class_text class)
HasNamed pool (OfMember op class member) index = named_by op pool index ≡ Some (reference_of class member)
HasNamed pool _ index = Unit {0}

abbrev pub HaveNamed : List Const → List Instruction → (ℕ → ℕ) → Type 0
HaveNamed pool [] index = Unit {0}
HaveNamed pool (i ∷ rest) index = HasNamed pool i (index 0) × HaveNamed pool rest (λ k. index (suc k))

-- ---- one instruction

pub record IsOneRead (pool : List Const) (at : ℕ) (i : Instruction) (text : List ℕ) : Type 0 where
  pub index : ℕ
  pub named : HasNamed pool i index
  pub some : 0 < length text
  pub read : (rest : List ℕ) → read_instruction at (text ++ rest) ≡ Ok (instr_of at i index, rest)

short-read : (b : Bool) (at op n : ℕ) → (op == 157) ≡ b → (row_of op).form ≡ short_form b → n < 2 ^ 16 → (rest : List ℕ)
    → read_instruction at (op ∷ to_be_bytes w16 n ++ rest) ≡ Ok (instr_of at (Short op n) 0, rest)
short-read true at op n is has small rest = rw is (read-jump at op n rest has small)
short-read false at op n is has small rest = rw is (read-short at op n rest has small)

pub one-read : (pool : List Const) (at : ℕ) (i : Instruction) (text : List ℕ) → IsFormed i → IsSpelled pool i text → IsOneRead pool at i text
one-read pool at (Plain op) text has spelled =
    subst (IsOneRead pool at (Plain op)) (sym spelled) (record { index = 0; named = tt; some = omega arith; read = λ rest. read-plain at op rest has })
one-read pool at (Byte op operand) text has spelled =
    subst (IsOneRead pool at (Byte op operand)) (sym spelled) (record { index = 0; named = tt; some = omega arith; read = λ rest. read-byte at op operand rest has })
one-read pool at (Short op operand) text has spelled =
    subst (IsOneRead pool at (Short op operand)) (sym spelled)
    (record { index = 0; named = tt; some = omega arith; read = short-read (op == 157) at op operand refl has.0 has.1 })
one-read pool at (OfClass op class) text has spelled =
    subst (IsOneRead pool at (OfClass op class)) (sym spelled.spelled)
    (record { index = spelled.index; named = spelled.names; some = omega arith; read = λ rest. read-pool at op spelled.index rest has spelled.small })
one-read pool at (OfMember op class member) text has spelled =
    subst (IsOneRead pool at (OfMember op class member)) (sym spelled.spelled)
    (record { index = spelled.index; named = spelled.names; some = omega arith; read = λ rest. read-pool at op spelled.index rest has spelled.small })

-- where the next one begins
abbrev operand_size : Form → ℕ
operand_size f = byte_len (operand_width false f)

short-size : (b : Bool) → operand_size (short_form b) ≡ 2
short-size true = refl
short-size false = refl

pub one-ends : (at : ℕ) (i : Instruction) (index : ℕ) → IsFormed i → end_of (instr_of at i index) ≡ at + size_of i
one-ends at (Plain op) index has = ap (λ n. at + n) (size_at-is at (instr_of at (Plain op) index))
one-ends at (Byte op operand) index has = ap (λ n. at + n) (size_at-is at (instr_of at (Byte op operand) index) ∙ ap (λ f. 1 + operand_size f) has)
one-ends at (Short op operand) index has = by (op == 157) refl
  where
    by : (b : Bool) → (op == 157) ≡ b → end_of (instr_of at (Short op operand) index) ≡ at + 3
    by true is = ap (λ n. at + n) (size_at-is at (instr_of at (Short op operand) index) ∙ (rw is (ap (λ f. 1 + operand_size f) (has.0 ∙ ap short_form is))))
    by false is = ap (λ n. at + n) (size_at-is at (instr_of at (Short op operand) index) ∙ (rw is (ap (λ f. 1 + operand_size f) (has.0 ∙ ap short_form is))))
one-ends at (OfClass op class) index has = ap (λ n. at + n) (size_at-is at (instr_of at (OfClass op class) index) ∙ ap (λ f. 1 + operand_size f) has)
one-ends at (OfMember op class member) index has = ap (λ n. at + n) (size_at-is at (instr_of at (OfMember op class member) index) ∙ ap (λ f. 1 + operand_size f) has)

-- ---- all of them

pub record AreRead (pool : List Const) (most at : ℕ) (rows : List Instruction) (bytes : List ℕ) : Type 0 where
  pub index : ℕ → ℕ
  pub named : HaveNamed pool rows index
  pub read : instructions_from most at bytes ≡ Ok (instrs_of at rows index)

abbrev with_index : ℕ → (ℕ → ℕ) → ℕ → ℕ
with_index first index zero = first
with_index first index (suc k) = index k

more-read : (most at : ℕ) (text rest : List ℕ) (i : Instr) (is : List Instr) → 0 < length text → read_instruction at (text ++ rest) ≡ Ok (i, rest)
    → instructions_from most (end_of i) rest ≡ Ok is → instructions_from (suc most) at (text ++ rest) ≡ Ok (i ∷ is)
more-read most at [] rest i is some one others = absurd (omega arith)
more-read most at (byte ∷ text) rest i is some one others =
    ap (λ r. r >>= λ first. instructions_from most (end_of first.0) first.1 >>= λ later. Ok (first.0 ∷ later)) one
    ∙ ap (λ (r : Result (List Instr) CodeError). r >>= λ later. Ok (i ∷ later)) others

pub code-read : (rows : List Instruction) (pool : List Const) (most at : ℕ) (parts : List (List ℕ)) → length rows ≤ most → AllByRecursion IsFormed rows → AllZip (IsSpelled pool) rows parts
    → AreRead pool most at rows (flat_map (λ part. part) parts)
code-read [] pool zero at [] enough formed spelled = record { index = λ k. 0; named = tt; read = refl }
code-read [] pool (suc most) at [] enough formed spelled = record { index = λ k. 0; named = tt; read = refl }
code-read [] pool most at (part ∷ parts) enough formed spelled = absurd spelled
code-read (i ∷ rows) pool most at [] enough formed spelled = absurd spelled
code-read (i ∷ rows) pool zero at (part ∷ parts) enough formed spelled = absurd (omega arith)
code-read (i ∷ rows) pool (suc most) at (part ∷ parts) enough formed spelled =
    let one = one-read pool at i part formed.0 spelled.0 in
    let others = code-read rows pool most (at + size_of i) parts (omega arith) formed.1 spelled.1 in
    let text = flat_map (λ part. part) parts in
    let here = ap (λ n. instructions_from most n text) (one-ends at i one.index formed.0) ∙ others.read in
    record {
      index = with_index one.index others.index;
      named = (one.named, others.named);
      read = more-read most at part text (instr_of at i one.index) (instrs_of (at + size_of i) rows others.index) one.some (one.read text) here;
    }
