-- The first fault of a method's code (JVM Specification 4.7.3, 4.9.1).
use Rattle.std.specs.Prelude.{◌≡◌, ◌≢◌, ℕ, zero, suc, ◌<◌, ◌≤◌, ◌-◌, Bool, not, List, [], ◌∷◌, length, map, slice_get, Option, Some, None, Result, Ok, Err, nat_lt, ◌==◌, ◌&&◌, ◌||◌}
use Rattle.std.specs.Option.{option_and_then, option_map}
use Rattle.const_pool.specs.declared.pool.Const.{Const}
use Rattle.const_pool.specs.declared.class.ClassFile.{ClassFile}
use Rattle.const_pool.specs.declared.class.CodeAttribute.{CodeAttribute}
use Rattle.const_pool.specs.declared.class.Handler.{Handler}
use Rattle.const_pool.specs.declared.class.Member.{Member}
use Rattle.const_pool.specs.declared.class.Raw.{Raw}
use Rattle.const_pool.specs.declared.descriptor.Kind.{Kind}
use Rattle.const_pool.specs.References.{named_text}
use Rattle.code_model.specs.declared.error.CodeError.{CodeError}
use Rattle.code_model.specs.declared.error.CodeError.TheVariants.{BadOpcode, Cut, BadSwitch, NoMemory}
use Rattle.code_model.specs.declared.instr.Code.{Code}
use Rattle.code_model.specs.declared.instr.Instr.{Instr}
use Rattle.code_model.specs.Instructions.{end_of}
use Rattle.code_model.specs.Reading.{◌>>=◌, read_instruction}
use Rattle.op_table.specs.Opcodes.{row_of}
use Rattle.jvm_model.specs.Basis.Methods.{code_of}
use Rattle.code_admission.specs.declared.codes.CodeFault.{CodeFault}
use Rattle.code_admission.specs.declared.codes.CodeRefusal.{CodeRefusal}
use Rattle.code_admission.specs.declared.codes.CodeRefusal.TheVariants as refusal
use Rattle.code_admission.specs.declared.error.AdmitError.{AdmitError}
use Rattle.code_admission.specs.declared.error.AdmitError.TheVariants.{BadCode, NoMemory as out_of_memory}
use Rattle.code_admission.specs.declared.error.CodeCause.{CodeCause}
use Rattle.code_admission.specs.declared.error.CodeCause.TheVariants as cause
use Rattle.code_admission.specs.Checks.{fault_if, first_of, first_in, first_from}
use Rattle.code_admission.specs.CodeTables.{fits_raw}
use Rattle.code_admission.specs.Texts.{method_kinds}
use Rattle.code_model.specs.Groups.{is_start}
use Rattle.code_admission.specs.Uses.{fits_pool, fits_locals, fits_targets, fits_return, fits_type}

-- ---- the instructions

-- The instructions that the bytes from this offset on are, or their first fault (proofs/Decoded: exactly what
-- code_model's `IsReading` and `IsFirstFault` say). No code has more instructions than bytes.
abbrev pub instructions_from : ℕ → ℕ → List ℕ → Result (List Instr) CodeError
instructions_from zero at bytes = Ok []
instructions_from (suc most) at [] = Ok []
instructions_from (suc most) at (byte ∷ bytes) =
    read_instruction at (byte ∷ bytes) >>= λ first. instructions_from most (end_of first.0) first.1 >>= λ rest. Ok (first.0 ∷ rest)

unfoldable pub instructions_of : List ℕ → Result (List Instr) CodeError
instructions_of bytes = instructions_from (length bytes) 0 bytes

abbrev pub fault_at : ℕ → CodeCause → CodeFault
fault_at at why = record { at = at; cause = why }

-- ---- one instruction

-- what the checks of an instruction know of its method
pub record Method : Type 0 where
  pub pool : List Const
  pub instrs : List Instr
  pub max_locals : ℕ
  pub result : Option Kind

abbrev pub method_with : List Const → Option Kind → List Instr → ℕ → Method
method_with pool result instrs max_locals = record { pool = pool; instrs = instrs; max_locals = max_locals; result = result }

abbrev pub cause_of : Method → Instr → Option CodeCause
cause_of m i = first_of (
    fault_if (not (fits_pool m.pool i)) cause.Pool
    ∷ fault_if (not (fits_locals m.max_locals i)) cause.Local
    ∷ fault_if (not (fits_targets m.instrs i)) cause.Target
    ∷ fault_if (not (fits_return m.result i.op)) cause.Return
    ∷ fault_if (not (fits_type m.pool i.op i.arg)) cause.Operand
    ∷ [])

abbrev pub instr_fault : Method → Instr → Option CodeFault
instr_fault m i = option_map (fault_at i.at) (cause_of m i)

-- ---- behind all of them

abbrev pub last_of : List Instr → Option Instr
last_of instrs = slice_get instrs (length instrs - 1)

abbrev pub falls_at : Instr → Option CodeFault
falls_at i = fault_if (not (row_of i.op).ends) (fault_at i.at cause.Falls)

-- control goes on behind the last instruction
abbrev pub falls : List Instr → Option CodeFault
falls instrs = option_and_then falls_at (last_of instrs)

-- an entry of the exception table: the end may be that of the code
abbrev pub fits_handler : List Instr → ℕ → Handler → Bool
fits_handler instrs len h =
    is_start instrs h.start && ((is_start instrs h.end || h.end == len) && (is_start instrs h.handler && nat_lt h.start h.end))

abbrev pub handler_fault : List Instr → ℕ → Handler → Option CodeFault
handler_fault instrs len h = fault_if (not (fits_handler instrs len h)) (fault_at h.start cause.Handler)

-- a table that is none of these instructions
abbrev pub table_fault : List Const → List Instr → Raw → Option CodeFault
table_fault pool instrs raw = fault_if (not (fits_raw pool instrs raw)) (fault_at 0 cause.Table)

-- ---- a code

abbrev pub reading_fault : CodeError → Option CodeFault
reading_fault (BadOpcode at) = Some (fault_at at cause.Opcode)
reading_fault (Cut at) = Some (fault_at at cause.Cut)
reading_fault (BadSwitch at) = Some (fault_at at cause.Switch)
reading_fault NoMemory = None

abbrev pub read_fault : Method → CodeAttribute → Option CodeFault
read_fault m code = first_of (
    first_in (instr_fault m) m.instrs
    ∷ falls m.instrs
    ∷ first_in (handler_fault m.instrs (length code.code)) code.handlers
    ∷ first_in (table_fault m.pool m.instrs) code.attributes
    ∷ [])

abbrev pub fault_by : List Const → Option Kind → CodeAttribute → Result (List Instr) CodeError → Option CodeFault
fault_by pool result code (Err error) = reading_fault error
fault_by pool result code (Ok instrs) =
    read_fault (method_with pool result instrs code.max_locals) code

abbrev pub code_fault : List Const → Option Kind → CodeAttribute → Option CodeFault
code_fault pool result code = fault_by pool result code (instructions_of code.code)

-- ---- the methods of a class

-- what a method gives; a descriptor that is none is refused before
abbrev pub result_of : List Const → Member → Option Kind
result_of pool m = option_and_then (λ shape. shape.result) (option_and_then method_kinds (named_text pool m.descriptor))

abbrev pub told_in : ℕ → ℕ → CodeFault → AdmitError
told_in k method fault = BadCode k method fault.at fault.cause

abbrev pub method_fault : ℕ → List Const → ℕ → Member → Option AdmitError
method_fault k pool at m = option_map (told_in k at) (option_and_then (code_fault pool (result_of pool m)) (code_of m))

abbrev pub codes_fault : ℕ → ClassFile → Option AdmitError
codes_fault k c = first_from (method_fault k c.pool) 0 c.methods

-- ---- what was read

-- the instructions of a method that has Code
abbrev pub reading_of : Member → Option (Result (List Instr) CodeError)
reading_of m = option_map (λ (code : CodeAttribute). instructions_of code.code) (code_of m)

-- a code that was decoded, as what was read
abbrev pub read_as : Option Code → Option (Result (List Instr) CodeError)
read_as decoded = option_map (λ (code : Code). Ok code.instrs) decoded

abbrev pub readings_of : ClassFile → List (Option (Result (List Instr) CodeError))
readings_of c = map reading_of c.methods

-- the bytes of a code are instructions
pub record IsRead (bytes : List ℕ) : Type 0 where
  pub instrs : List Instr
  pub read : instructions_of bytes ≡ Ok instrs

-- the codes of methods are
abbrev pub AreRead : List Member → Type 0
AreRead methods = (k : ℕ) (m : Member) (code : CodeAttribute) → slice_get methods k ≡ Some m → code_of m ≡ Some code → IsRead code.code

-- a code has 1 to 65,535 bytes (4.7.3)
abbrev pub HasCodeLength : CodeAttribute → Type 0
HasCodeLength code = (0 < length code.code) × (length code.code ≤ 65535)

-- ---- refusals

-- a code is refused for this fault, unless memory ran out
abbrev pub IsCodeRefusal : Option CodeFault → CodeRefusal → Type 0
IsCodeRefusal fault (refusal.Fault f) = fault ≡ Some f
IsCodeRefusal fault refusal.NoMemory = Unit {0}

-- a class is refused for this fault, unless memory ran out
abbrev pub IsRefusal : Option AdmitError → AdmitError → Type 0
IsRefusal fault error = error ≢ out_of_memory → fault ≡ Some error
