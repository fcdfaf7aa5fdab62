-- What the instruction at an offset is: its operand as a value, a slot, or the names that it refers to (JVM
-- Specification 4.7.3, 5.4.3, 6.5). No name is looked up here.
use Rattle.std.specs.Prelude.{ℕ, Bool, true, false, List, [], ◌∷◌, length, nat_lt, nat_le, Option, Some, None, slice_get, ℤ, ◌==◌, ◌&&◌, if◌then◌else◌}
use Rattle.std.specs.Int.{is_in_range}
use Rattle.std.specs.Option.{option_and_then, option_map, option_map_or}
use Rattle.heap_objects.specs.declared.datum.Datum.TheVariants as datum
use Rattle.const_pool.specs.declared.pool.Const.{Const}
use Rattle.const_pool.specs.declared.pool.Const.TheVariants as const
use Rattle.const_pool.specs.declared.class.ClassFile.{ClassFile}
use Rattle.const_pool.specs.declared.descriptor.Kind.TheVariants as kind
use Rattle.const_pool.specs.Pool.{entry_at}
use Rattle.const_pool.specs.References.{Reference, named_class, named_field, named_member, named_method, named_text}
use Rattle.code_model.specs.declared.instr.Instr.{Instr}
use Rattle.code_model.specs.declared.instr.Arg.{Arg}
use Rattle.code_model.specs.declared.instr.Arg.TheVariants as arg
use Rattle.code_model.specs.Instructions.{instruction_at, end_of}
use Rattle.jvm_model.specs.declared.family.Family.{Family}
use Rattle.jvm_model.specs.declared.family.Family.TheVariants as family
use Rattle.jvm_model.specs.Basis.Data.{Datum, Keys, Consecutive, Listed, Local, Nop, Constant, Load, Store, ManageStack, BinaryOfInts, BinaryOfLongs, DivisionOfInts, DivisionOfLongs, ShiftOfLong, UnaryOfInt, UnaryOfLong, Lcmp, Iinc, Branch, Goto, Switch, Jsr, Ret, Return, SymbolicReference, New, Getfield, Putfield, Getstatic, Putstatic, Invokevirtual, Invokespecial, Invokestatic, Invokeinterface, Checkcast, Instanceof, Anewarray, Multianewarray, LdcClass, Operation, Within, Named, Athrow, Monitor, Newarray, Arraylength, LoadElement, StoreElement, LdcString, Instruction}
use Rattle.jvm_model.specs.Basis.Families.{family_of}
use Rattle.jvm_model.specs.Classes.Kinds.{meaning_of}
use Rattle.jvm_model.specs.Basis.Methods.{method_code}
use Rattle.jvm_model.specs.Basis.Programs.{name_of}
use Rattle.jvm_model.specs.Instructions.ObjectRules.{array_kind}

-- ---- instructions that see their frame alone: their family with what they have of an operand

abbrev pub value_in : Arg → Option Datum
value_in (arg.Value n) = Some (datum.Int n)
value_in _ = None

abbrev pub slot_in : Arg → Option ℕ
slot_in (arg.Local slot) = Some slot
slot_in _ = None

abbrev pub increment_in : Arg → Option (ℕ × ℤ)
increment_in (arg.Inc slot d) = Some (slot, d)
increment_in _ = None

abbrev pub target_in : Arg → Option ℕ
target_in (arg.Target target) = Some target
target_in _ = None

abbrev pub keys_in : Arg → Option Keys
keys_in (arg.Table default low targets) = Some (Consecutive low (length targets))
keys_in (arg.Lookup default keys targets) = Some (Listed keys)
keys_in _ = None

-- With the constant that an ldc has. An instruction whose operand is of another form than its family needs is none;
-- decoded code has none such.
abbrev pub local_of : Family → Arg → Option Datum → Option Local
local_of family.Nop a c = Some Nop
local_of (family.Constant d) a c = Some (Constant d)
local_of family.PoolConstant a c = option_map Constant c
local_of family.OperandConstant a c = option_map Constant (value_in a)
local_of (family.Load k) a c = option_map (Load k) (slot_in a)
local_of (family.LoadFrom k slot) a c = Some (Load k slot)
local_of (family.Store k) a c = option_map (Store k) (slot_in a)
local_of (family.StoreTo k slot) a c = Some (Store k slot)
local_of (family.ManageStack op) a c = Some (ManageStack op)
local_of (family.BinaryOfInts op) a c = Some (BinaryOfInts op)
local_of (family.BinaryOfLongs op) a c = Some (BinaryOfLongs op)
local_of (family.DivisionOfInts op) a c = Some (DivisionOfInts op)
local_of (family.DivisionOfLongs op) a c = Some (DivisionOfLongs op)
local_of (family.ShiftOfLong op) a c = Some (ShiftOfLong op)
local_of (family.UnaryOfInt op) a c = Some (UnaryOfInt op)
local_of (family.UnaryOfLong op) a c = Some (UnaryOfLong op)
local_of family.Lcmp a c = Some Lcmp
local_of family.Iinc a c = option_map (λ p. Iinc p.0 p.1) (increment_in a)
local_of (family.Branch test) a c = option_map (λ target. Branch test) (target_in a)
local_of family.Goto a c = option_map (λ target. Goto) (target_in a)
local_of family.Jsr a c = option_map (λ target. Jsr) (target_in a)
local_of family.Ret a c = option_map Ret (slot_in a)
local_of family.Switch a c = option_map Switch (keys_in a)
local_of (family.Return k) a c = Some (Return k)
local_of family.NotLocal a c = None

-- the number that an entry of the pool is; texts and classes are none
abbrev pub number_of : Const → Option Datum
number_of (const.Integer n) = Some (datum.Int n)
number_of (const.Long n) = Some (datum.Long n)
number_of _ = None

abbrev pub constant_in : List Const → Arg → Option Datum
constant_in pool (arg.Pool index) = option_and_then number_of (slice_get pool index)
constant_in pool _ = None

-- ---- instructions with names

-- what an InterfaceMethodref names
abbrev pub is_interface_method : Const → Bool
is_interface_method (const.InterfaceMethod c n) = true
is_interface_method _ = false

abbrev pub named_interface_method : List Const → ℕ → Option Reference
named_interface_method pool i =
    if option_map_or is_interface_method (entry_at pool i) false then named_member pool i else None

-- invokespecial, in a class of this name
abbrev pub special_of : List ℕ → Reference → SymbolicReference
special_of caller r = Invokespecial caller r false

-- Those with a pool index alone, a row each: field instructions name a field; invokevirtual, invokespecial and
-- invokestatic a method; new, anewarray, checkcast and instanceof a class (4.10.1, 6.5).
abbrev pub symbolic_reference_of : ClassFile → ℕ → ℕ → Option SymbolicReference
symbolic_reference_of c op index =
    if op == 178 then option_map Getstatic (named_field c.pool index)
    else if op == 179 then option_map Putstatic (named_field c.pool index)
    else if op == 180 then option_map Getfield (named_field c.pool index)
    else if op == 181 then option_map Putfield (named_field c.pool index)
    else if op == 182 then option_map Invokevirtual (named_method c.pool index)
    else if op == 183 then option_and_then (λ caller. option_map (special_of caller) (named_method c.pool index)) (name_of c)
    else if op == 184 then option_map Invokestatic (named_method c.pool index)
    else if op == 187 then option_map New (named_class c.pool index)
    else if op == 189 then option_map Anewarray (named_class c.pool index)
    else if op == 192 then option_map Checkcast (named_class c.pool index)
    else if op == 193 then option_map Instanceof (named_class c.pool index)
    else None

-- invokeinterface, whose further two bytes say nothing more
abbrev pub interface_reference : ClassFile → ℕ → ℕ → Option SymbolicReference
interface_reference c op index = if op == 185 then option_map Invokeinterface (named_interface_method c.pool index) else None

-- multianewarray, with so many dimensions that are given
abbrev pub multi_of : ℕ → List ℕ → SymbolicReference
multi_of dimensions name = Multianewarray name dimensions

abbrev pub array_reference : ClassFile → ℕ → ℕ → ℕ → Option SymbolicReference
array_reference c op index dimensions = if op == 197 then option_map (multi_of dimensions) (named_class c.pool index) else None

-- What an array type has for dimensions (4.9.1): anewarray names one of fewer than 255, multianewarray one of at least
-- as many as are given, which are 1 or more. An instruction that names another is none; decoded code that was looked at
-- has none such.
abbrev pub has_dimensions : SymbolicReference → Bool
has_dimensions (Anewarray name) = nat_lt (meaning_of name).dimensions 255
has_dimensions (Multianewarray name dimensions) = nat_le 1 dimensions && nat_le dimensions (meaning_of name).dimensions
has_dimensions n = true

abbrev pub named_by : SymbolicReference → Option (Operation Local)
named_by n = if has_dimensions n then Some (Named n) else None

-- ---- instructions that see objects

-- arraylength, athrow, monitorenter and monitorexit, iaload to saload, iastore to sastore, a row each
pub record ObjectRow : Type 0 where
  pub op : ℕ
  pub operation : Operation Local

abbrev pub object_row : ℕ → Operation Local → ObjectRow
object_row op operation = record { op = op; operation = operation }

abbrev pub object_rows : List ObjectRow
object_rows =
    object_row 46 (LoadElement kind.Int) ∷ object_row 47 (LoadElement kind.Long) ∷ object_row 50 (LoadElement kind.Ref) ∷
    object_row 51 (LoadElement kind.Byte) ∷ object_row 52 (LoadElement kind.Char) ∷ object_row 53 (LoadElement kind.Short) ∷
    object_row 79 (StoreElement kind.Int) ∷ object_row 80 (StoreElement kind.Long) ∷ object_row 83 (StoreElement kind.Ref) ∷
    object_row 84 (StoreElement kind.Byte) ∷ object_row 85 (StoreElement kind.Char) ∷ object_row 86 (StoreElement kind.Short) ∷
    object_row 190 Arraylength ∷ object_row 191 Athrow ∷ object_row 194 Monitor ∷ object_row 195 Monitor ∷ []

abbrev pub object_among : List ObjectRow → ℕ → Option (Operation Local)
object_among [] op = None
object_among (r ∷ rs) op = if op == r.op then Some r.operation else object_among rs op

-- newarray, with the kind of its array: the codes of the eight primitive types are 4 to 11 (6.5). With another code it
-- is none; decoded code that was looked at has none such.
abbrev pub newarray_of : ℕ → ℕ → Option (Operation Local)
newarray_of op code = if op == 188 && is_in_range 4 11 code then Some (Newarray (array_kind code)) else None

-- ---- every instruction

-- of no family: by the form of its operand
abbrev pub other_operation : ClassFile → ℕ → Arg → Option (Operation Local)
other_operation c op (arg.Pool index) = option_and_then named_by (symbolic_reference_of c op index)
other_operation c op (arg.Interface index count zero) = option_and_then named_by (interface_reference c op index)
other_operation c op (arg.Multi index dimensions) = option_and_then named_by (array_reference c op index dimensions)
other_operation c op (arg.Array code) = newarray_of op code
other_operation c op arg.Plain = object_among object_rows op
other_operation c op _ = None

-- ldc, ldc_w: a String or a Class that an entry of the pool is (5.1)
abbrev pub object_constant : List Const → Const → Option (Operation Local)
object_constant pool (const.Text i) = option_map LdcString (named_text pool i)
object_constant pool (const.Class i) = option_map (λ name. Named (LdcClass name)) (named_text pool i)
object_constant pool _ = None

abbrev pub object_constant_in : List Const → Arg → Option (Operation Local)
object_constant_in pool (arg.Pool index) = option_and_then (object_constant pool) (slice_get pool index)
object_constant_in pool _ = None

-- a number, or else an object
abbrev pub pool_constant_operation : Option (Operation Local) → Option (Operation Local) → Option (Operation Local)
pool_constant_operation (Some number) object = Some number
pool_constant_operation None object = object

-- by its family
abbrev pub operation_by : ClassFile → ℕ → Arg → Family → Option (Operation Local)
operation_by c op a family.NotLocal = other_operation c op a
operation_by c op a family.PoolConstant =
    pool_constant_operation (option_map Within (local_of family.PoolConstant a (constant_in c.pool a))) (object_constant_in c.pool a)
operation_by c op a f = option_map Within (local_of f a (constant_in c.pool a))

-- what an instruction of the class does
abbrev pub operation_of : ClassFile → Instr → Option (Operation Local)
operation_of c i = operation_by c i.op i.arg (family_of i.op)

-- ---- instructions

-- control never goes on behind these (6.5)
abbrev pub is_last : Local → Bool
is_last Goto = true
is_last (Switch keys) = true
is_last (Ret slot) = true
is_last (Return k) = true
is_last _ = false

abbrev pub ends : Operation Local → Bool
ends (Within i) = is_last i
ends Athrow = true
ends _ = false

abbrev pub next_of : Operation Local → ℕ → Option ℕ
next_of op «end» = if ends op then None else Some «end»

-- the offsets that an instruction names: the jump's, or the default's and then the others
abbrev pub targets_of : Arg → List ℕ
targets_of (arg.Target target) = target ∷ []
targets_of (arg.Table default low targets) = default ∷ targets
targets_of (arg.Lookup default keys targets) = default ∷ targets
targets_of _ = []

abbrev pub instruction_of : ClassFile → Instr → Option Instruction
instruction_of c i = option_map (λ op. record { operation = op; own = i.at; next = next_of op (end_of i); targets = targets_of i.arg }) (operation_of c i)

-- the instruction at an offset of a code
abbrev pub code_instruction : ClassFile → List ℕ → ℕ → Option Instruction
code_instruction c code at = option_and_then (instruction_of c) (instruction_at code at)

-- the instruction at an offset of a method of the class
abbrev pub method_instruction : ClassFile → ℕ → ℕ → Option Instruction
method_instruction c method at = option_and_then (λ code. code_instruction c code.code at) (method_code c method)
