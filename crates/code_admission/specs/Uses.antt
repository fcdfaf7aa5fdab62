-- What an instruction names: a constant, locals, targets, a type (JVM Specification 4.9.1, 6.5). One row an opcode or a
-- group of them.
use Rattle.std.specs.Prelude.{◌≡◌, ℕ, ◌<◌, ◌+◌, ◌-◌, ◌%◌, Bool, true, false, not, List, Option, Some, None, unwrap_or, slice_get, codes, nat_le, ◌==◌, ◌&&◌, ◌||◌, if◌then◌else◌}
use Rattle.std.specs.Int.{is_in_range}
use Rattle.std.specs.List.{AllByRecursion, list_all}
use Rattle.std.specs.Option.{option_map_or}
use Rattle.const_pool.specs.declared.pool.Const.{Const}
use Rattle.const_pool.specs.declared.pool.Const.TheVariants.{Integer, Float, Long, Double, Class, Text}
use Rattle.const_pool.specs.declared.descriptor.Kind.{Kind}
use Rattle.const_pool.specs.declared.descriptor.Kind.TheVariants as kind
use Rattle.const_pool.specs.Pool.{entry_at}
use Rattle.const_pool.specs.References.{Reference, named_class, named_text, named_field, named_method}
use Rattle.code_model.specs.declared.instr.Arg.{Arg}
use Rattle.code_model.specs.declared.instr.Arg.TheVariants as arg
use Rattle.code_model.specs.declared.instr.Instr.{Instr}
use Rattle.code_model.specs.Groups.{is_start, targets_of}
use Rattle.jvm_model.specs.Basis.Descriptors.{same_text}
use Rattle.jvm_model.specs.Codes.Lines.{named_interface_method}
use Rattle.code_admission.specs.declared.uses.PoolUse.{PoolUse}
use Rattle.code_admission.specs.declared.uses.PoolUse.TheVariants as use_of
use Rattle.code_admission.specs.declared.uses.Slots.{Slots}
use Rattle.code_admission.specs.Texts.{dimensions_of, is_class_name, is_field_text, is_method_text}

-- ---- constants

-- what an instruction takes from the pool
abbrev pub pool_use : ℕ → PoolUse
pool_use op =
    if is_in_range 18 19 op then use_of.Loadable
    else if op == 20 then use_of.Wide
    else if is_in_range 178 181 op then use_of.Field
    else if is_in_range 182 184 op then use_of.Method
    else if op == 185 then use_of.InterfaceMethod
    else use_of.Class

abbrev pub index_of : Arg → Option ℕ
index_of (arg.Pool index) = Some index
index_of (arg.Interface index count last) = Some index
index_of (arg.Multi index dimensions) = Some index
index_of _ = None

-- what ldc and ldc_w load; a class by a name that is one
abbrev pub is_loadable : List Const → Const → Bool
is_loadable pool (Integer n) = true
is_loadable pool (Float n) = true
is_loadable pool (Text i) = true
is_loadable pool (Class i) = option_map_or is_class_name (named_text pool i) false
is_loadable pool _ = false

-- what ldc2_w loads
abbrev pub is_wide_constant : Const → Bool
is_wide_constant (Long n) = true
is_wide_constant (Double n) = true
is_wide_constant _ = false

-- `<init>` is named by invokespecial alone, `<clinit>` by none (2.9)
abbrev pub may_name : ℕ → List ℕ → Bool
may_name op name = not (same_text name (codes "<clinit>")) && (op == 183 || not (same_text name (codes "<init>")))

abbrev pub is_member_name : (List ℕ → Bool) → ℕ → Reference → Bool
is_member_name is_descriptor op r = is_class_name r.class && (is_descriptor r.member.descriptor && may_name op r.member.name)

-- a member is named, and one that may be
abbrev pub fits_member : (List ℕ → Bool) → ℕ → Option Reference → Bool
fits_member is_descriptor op found = option_map_or (is_member_name is_descriptor op) found false

abbrev pub fits_use : List Const → ℕ → ℕ → PoolUse → Bool
fits_use pool op index use_of.Loadable = option_map_or (is_loadable pool) (entry_at pool index) false
fits_use pool op index use_of.Wide = option_map_or is_wide_constant (entry_at pool index) false
fits_use pool op index use_of.Field = fits_member is_field_text op (named_field pool index)
fits_use pool op index use_of.Method = fits_member is_method_text op (named_method pool index)
fits_use pool op index use_of.InterfaceMethod = fits_member is_method_text op (named_interface_method pool index)
fits_use pool op index use_of.Class = option_map_or is_class_name (named_class pool index) false

abbrev pub fits_pool : List Const → Instr → Bool
fits_pool pool i = option_map_or (λ index. fits_use pool i.op index (pool_use i.op)) (index_of i.arg) true

-- ---- locals

abbrev pub slots_from : ℕ → ℕ → Slots
slots_from first count = record { first = first; count = count }

-- the local of an instruction whose opcode has the number in it, from `first` on: numbers 0 to 3, each of int, long,
-- float, double and reference
abbrev pub short_slots : ℕ → ℕ → Slots
short_slots first op = slots_from ((op - first) % 4) (if is_in_range (first + 4) (first + 7) op then 2 else 1)

abbrev pub plain_slots : ℕ → Option Slots
plain_slots op =
    if is_in_range 26 45 op then Some (short_slots 26 op)
    else if is_in_range 59 78 op then Some (short_slots 59 op)
    else None

-- lload and lstore use their slot and the next
abbrev pub slot_count : ℕ → ℕ
slot_count op = if op == 22 || op == 55 then 2 else 1

-- the locals that an instruction uses
abbrev pub slots_of : ℕ → Arg → Option Slots
slots_of op arg.Plain = plain_slots op
slots_of op (arg.Local slot) = Some (slots_from slot (slot_count op))
slots_of op (arg.Inc slot n) = Some (slots_from slot 1)
slots_of op _ = None

abbrev pub fits_locals : ℕ → Instr → Bool
fits_locals max_locals i = option_map_or (λ (s : Slots). nat_le (s.first + s.count) max_locals) (slots_of i.op i.arg) true

-- ---- targets

-- a table, by offset, that tells where these instructions start
abbrev pub TellsStarts : List Instr → List Bool → Type 0
TellsStarts instrs starts = (at : ℕ) → unwrap_or (slice_get starts at) false ≡ is_start instrs at

-- each stands within so many bytes
abbrev pub AreWithin : ℕ → List Instr → Type 0
AreWithin len instrs = AllByRecursion (λ (i : Instr). i.at < len) instrs

abbrev pub fits_targets : List Instr → Instr → Bool
fits_targets instrs i = list_all (is_start instrs) (targets_of i.arg)

-- ---- returns

abbrev pub is_int_kind : Option Kind → Bool
is_int_kind (Some kind.Int) = true
is_int_kind (Some kind.Byte) = true
is_int_kind (Some kind.Bool) = true
is_int_kind (Some kind.Char) = true
is_int_kind (Some kind.Short) = true
is_int_kind _ = false

abbrev pub is_long_kind : Option Kind → Bool
is_long_kind (Some kind.Long) = true
is_long_kind _ = false

abbrev pub is_float_kind : Option Kind → Bool
is_float_kind (Some kind.Float) = true
is_float_kind _ = false

abbrev pub is_double_kind : Option Kind → Bool
is_double_kind (Some kind.Double) = true
is_double_kind _ = false

abbrev pub is_reference_kind : Option Kind → Bool
is_reference_kind (Some kind.Ref) = true
is_reference_kind _ = false

abbrev pub is_void : Option Kind → Bool
is_void None = true
is_void (Some k) = false

-- ireturn, lreturn, freturn, dreturn, areturn, return
abbrev pub fits_return : Option Kind → ℕ → Bool
fits_return result op =
    if op == 172 then is_int_kind result
    else if op == 173 then is_long_kind result
    else if op == 174 then is_float_kind result
    else if op == 175 then is_double_kind result
    else if op == 176 then is_reference_kind result
    else if op == 177 then is_void result
    else true

-- ---- types

-- the dimensions of the class that an index names; what is no array has none
abbrev pub named_dimensions : List Const → ℕ → ℕ
named_dimensions pool index = option_map_or dimensions_of (named_class pool index) 0

-- newarray of a primitive type; new of no array; anewarray, which adds a dimension; multianewarray of dimensions that
-- there are
abbrev pub fits_type : List Const → ℕ → Arg → Bool
fits_type pool op (arg.Array code) = is_in_range 4 11 code
fits_type pool op (arg.Pool index) =
    if op == 187 then named_dimensions pool index == 0
    else if op == 189 then not (named_dimensions pool index == 255)
    else true
fits_type pool op (arg.Multi index dimensions) = not (dimensions == 0) && nat_le dimensions (named_dimensions pool index)
fits_type pool op _ = true
