-- A code that has no fault is instructions: reading never wants memory.
use Rattle.std.proofs.Common.{◌≡◌, ℕ, zero, suc, Bool, true, false, List, Option, None, Result, Ok, Err, map, inl, inr, refl, sym}
use Rattle.std.specs.Prelude.{int_le}
use Rattle.std.proofs.lemmas.Option.{none-some}
use Rattle.const_pool.specs.declared.class.CodeAttribute.{CodeAttribute}
use Rattle.const_pool.specs.declared.descriptor.Kind.{Kind}
use Rattle.const_pool.specs.declared.pool.Const.{Const}
use Rattle.op_table.specs.declared.Form.{Form}
use Rattle.op_table.specs.declared.Form.TheVariants as form
use Rattle.op_table.specs.Opcodes.{row_of}
use Rattle.code_model.specs.declared.error.CodeError.{CodeError}
use Rattle.code_model.specs.declared.error.CodeError.TheVariants.{BadOpcode, BadSwitch, Cut, NoMemory}
use Rattle.code_model.specs.declared.instr.Instr.{Instr}
use Rattle.code_model.specs.Formats.{Format, either, in_turn, many, value_tested}
use Rattle.code_model.specs.Operands.{behind_opcode, case_count, form_of, instruction, is_count, is_wide, key_of, keys_rise, operand}
use Rattle.code_admission.specs.Codes.{IsRead, code_fault, fault_by, instructions_of}
use Rattle.code_admission.proofs.Decoded.{fault_found}

-- ---- the first fault of bytes that are no code is one of the format

abbrev IsTold : {A : Type 0} → Format A → Type 0
IsTold P = (limit : ℕ) (bytes : List ℕ) → P.Faults limit bytes NoMemory → ⊥

in_turn-told : {A B : Type 0} {P : Format A} {Q : A → Format B} → IsTold P → ((x : A) → IsTold (Q x)) → IsTold (in_turn P Q)
in_turn-told first behind limit bytes (inl faults) = first limit bytes faults
in_turn-told first behind limit bytes (inr faults) = behind faults.x limit faults.rest faults.second

many-told : {A : Type 0} (P : Format A) → IsTold P → (n : ℕ) → IsTold (many P n)
many-told P one zero = λ limit bytes faults. faults
many-told P one (suc n) = in_turn-told one (λ x. in_turn-told (many-told P one n) (λ xs limit bytes faults. faults))

tested-told : {A : Type 0} {P : Format A} (test : A → Bool) (at : ℕ) → IsTold P → IsTold (value_tested P test (BadSwitch at))
tested-told test at one limit bytes (inl faults) = one limit bytes faults
tested-told test at one limit bytes (inr refused) = absurd (let told : NoMemory ≡ BadSwitch at = refused.told in cc)

either-told : {A : Type 0} (P Q : Format A) (b : Bool) → IsTold P → IsTold Q → IsTold (either b P Q)
either-told P Q true first other = first
either-told P Q false first other = other

cut-told : (at : ℕ) → NoMemory ≡ Cut at → ⊥
cut-told at e = cc e

opcode-told : (at : ℕ) → NoMemory ≡ BadOpcode at → ⊥
opcode-told at e = cc e

operand-told : (f : Form) (wide : Bool) (at : ℕ) → IsTold (operand f wide at)
operand-told form.Plain wide at = λ limit bytes faults. faults
operand-told form.Byte wide at = in_turn-told (in_turn-told (λ limit bytes faults. cut-told at faults.1) (λ x limit bytes faults. faults)) (λ x limit bytes faults. faults)
operand-told form.Short wide at = in_turn-told (in_turn-told (λ limit bytes faults. cut-told at faults.1) (λ x limit bytes faults. faults)) (λ x limit bytes faults. faults)
operand-told form.PoolByte wide at = in_turn-told (λ limit bytes faults. cut-told at faults.1) (λ x limit bytes faults. faults)
operand-told form.Pool wide at = in_turn-told (λ limit bytes faults. cut-told at faults.1) (λ x limit bytes faults. faults)
operand-told form.Local wide at = in_turn-told (λ limit bytes faults. cut-told at faults.1) (λ x limit bytes faults. faults)
operand-told form.Inc wide at =
    in_turn-told (λ limit bytes faults. cut-told at faults.1)
    (λ slot. in_turn-told (in_turn-told (λ limit bytes faults. cut-told at faults.1) (λ x limit bytes faults. faults)) (λ x limit bytes faults. faults))
operand-told form.Jump wide at =
    in_turn-told (in_turn-told (in_turn-told (λ limit bytes faults. cut-told at faults.1) (λ x limit bytes faults. faults)) (λ x limit bytes faults. faults)) (λ x limit bytes faults. faults)
operand-told form.JumpWide wide at =
    in_turn-told (in_turn-told (in_turn-told (λ limit bytes faults. cut-told at faults.1) (λ x limit bytes faults. faults)) (λ x limit bytes faults. faults)) (λ x limit bytes faults. faults)
operand-told form.Table wide at =
    in_turn-told (λ limit bytes faults. cut-told at faults.1)
    (λ padding. in_turn-told (in_turn-told (in_turn-told (λ limit bytes faults. cut-told at faults.1) (λ x limit bytes faults. faults)) (λ x limit bytes faults. faults))
    (λ default. in_turn-told (in_turn-told (λ limit bytes faults. cut-told at faults.1) (λ x limit bytes faults. faults))
    (λ low. in_turn-told (tested-told (λ high. int_le low high) at (in_turn-told (λ limit bytes faults. cut-told at faults.1) (λ x limit bytes faults. faults)))
    (λ high. in_turn-told (many-told _ (in_turn-told (in_turn-told (λ limit bytes faults. cut-told at faults.1) (λ x limit bytes faults. faults)) (λ x limit bytes faults. faults)) (case_count low high))
    (λ targets limit bytes faults. faults)))))
operand-told form.Lookup wide at =
    in_turn-told (λ limit bytes faults. cut-told at faults.1)
    (λ padding. in_turn-told (in_turn-told (in_turn-told (λ limit bytes faults. cut-told at faults.1) (λ x limit bytes faults. faults)) (λ x limit bytes faults. faults))
    (λ default. in_turn-told (tested-told is_count at (λ limit bytes faults. cut-told at faults.1))
    (λ count. in_turn-told (tested-told (λ pairs. keys_rise (map key_of pairs)) at
    (many-told _ (in_turn-told (in_turn-told (λ limit bytes faults. cut-told at faults.1) (λ x limit bytes faults. faults))
    (λ key. in_turn-told (in_turn-told (in_turn-told (λ limit bytes faults. cut-told at faults.1) (λ x limit bytes faults. faults)) (λ x limit bytes faults. faults)) (λ x limit bytes faults. faults))) count))
    (λ pairs limit bytes faults. faults))))
operand-told form.Interface wide at =
    in_turn-told (λ limit bytes faults. cut-told at faults.1)
    (λ index. in_turn-told (λ limit bytes faults. cut-told at faults.1) (λ count. in_turn-told (λ limit bytes faults. cut-told at faults.1) (λ x limit bytes faults. faults)))
operand-told form.Multi wide at = in_turn-told (λ limit bytes faults. cut-told at faults.1) (λ index. in_turn-told (λ limit bytes faults. cut-told at faults.1) (λ x limit bytes faults. faults))
operand-told form.Array wide at = in_turn-told (λ limit bytes faults. cut-told at faults.1) (λ x limit bytes faults. faults)
operand-told form.Wide wide at = λ limit bytes faults. opcode-told at faults
operand-told form.Unknown wide at = λ limit bytes faults. opcode-told at faults

behind_opcode-told : (at : ℕ) (wide : Bool) (op : ℕ) → IsTold (behind_opcode at wide op)
behind_opcode-told at wide op = in_turn-told (operand-told (form_of wide op) wide at) (λ x limit bytes faults. faults)

instruction-told : (at : ℕ) → IsTold (instruction at)
instruction-told at =
    in_turn-told (λ limit bytes faults. cut-told at faults.1)
    (λ op. either-told _ _ (is_wide (row_of op).form) (in_turn-told (λ limit bytes faults. cut-told at faults.1) (λ op. behind_opcode-told at true op)) (behind_opcode-told at false op))

never-memory : (bytes : List ℕ) → instructions_of bytes ≡ Err NoMemory → ⊥
never-memory bytes e = let fault = fault_found bytes NoMemory e in instruction-told fault.at _ _ fault.faults

-- ---- a code

read-by : (pool : List Const) (result : Option Kind) (code : CodeAttribute) (r : Result (List Instr) CodeError) → instructions_of code.code ≡ r → fault_by pool result code r ≡ None → IsRead code.code
read-by pool result code (Ok instrs) is none = record { instrs = instrs; read = is }
read-by pool result code (Err (BadOpcode at)) is none = absurd (none-some _ (sym none))
read-by pool result code (Err (Cut at)) is none = absurd (none-some _ (sym none))
read-by pool result code (Err (BadSwitch at)) is none = absurd (none-some _ (sym none))
read-by pool result code (Err NoMemory) is none = absurd (never-memory code.code is)

pub code-read : (pool : List Const) (result : Option Kind) (code : CodeAttribute) → code_fault pool result code ≡ None → IsRead code.code
code-read pool result code none = read-by pool result code (instructions_of code.code) refl none
