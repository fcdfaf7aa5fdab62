-- Floats and doubles (JVM Specification 2.3.2), which no admitted class uses; entries of the pool that nothing names
-- are free.
use Rattle.std.specs.Prelude.{ℕ, Bool, true, false, List, [], ◌∷◌, Option, None, Result, Ok, Err, ◌==◌, ◌&&◌, ◌||◌}
use Rattle.std.specs.Option.{option_and_then, option_map, option_map_or}
use Rattle.const_pool.specs.declared.pool.Const.{Const}
use Rattle.const_pool.specs.declared.pool.Const.TheVariants.{Float, Double, Class}
use Rattle.const_pool.specs.declared.class.ClassFile.{ClassFile}
use Rattle.const_pool.specs.declared.class.Member.{Member}
use Rattle.const_pool.specs.Pool.{entry_at}
use Rattle.const_pool.specs.References.{Reference, named_class, named_member, named_text}
use Rattle.code_model.specs.declared.error.CodeError.{CodeError}
use Rattle.code_model.specs.declared.instr.Arg.{Arg}
use Rattle.code_model.specs.declared.instr.Arg.TheVariants as arg
use Rattle.code_model.specs.declared.instr.Instr.{Instr}
use Rattle.op_table.specs.Opcodes.{row_of}
use Rattle.base_classes.specs.Soundness.{has_float}
use Rattle.code_admission.specs.declared.error.AdmitError.{AdmitError}
use Rattle.code_admission.specs.declared.error.AdmitError.TheVariants.{FloatingPoint}
use Rattle.code_admission.specs.declared.error.FloatingPointUse.TheVariants as place
use Rattle.code_admission.specs.Checks.{fault_if, first_of, first_in, first_from}
use Rattle.code_admission.specs.Codes.{readings_of}
use Rattle.code_admission.specs.FloatingFrames.{floating_frames}
use Rattle.jvm_model.specs.Classes.Kinds.{is_array_name}

-- ---- descriptors

-- F or D stands in a descriptor outside the names of classes, which stand between L and ;
abbrev pub has_floats : List ℕ → Bool
has_floats descriptor = has_float false descriptor

abbrev pub describes_floats : List Const → Member → Bool
describes_floats pool m = option_map_or has_floats (named_text pool m.descriptor) false

-- the name of an array class of F or D
abbrev pub is_floats_name : List ℕ → Bool
is_floats_name name = is_array_name name && has_floats name

-- ---- instructions

abbrev pub names_floats : Reference → Bool
names_floats r = is_floats_name r.class || has_floats r.member.descriptor

-- an index names such a class, or such a member
abbrev pub is_floats_class : List Const → ℕ → Bool
is_floats_class pool index = option_map_or is_floats_name (named_class pool index) false

abbrev pub is_floats_member : List Const → ℕ → Bool
is_floats_member pool index = option_map_or names_floats (named_member pool index) false

-- what stands at an index of the pool
abbrev pub is_floating_entry : List Const → ℕ → Const → Bool
is_floating_entry pool index (Float n) = true
is_floating_entry pool index (Double n) = true
is_floating_entry pool index (Class i) = is_floats_class pool index
is_floating_entry pool index _ = is_floats_member pool index

abbrev pub is_floating_index : List Const → ℕ → Bool
is_floating_index pool index = option_map_or (is_floating_entry pool index) (entry_at pool index) false

-- newarray of float and of double are 6 and 7
abbrev pub is_floating_operand : List Const → Arg → Bool
is_floating_operand pool (arg.Array code) = code == 6 || code == 7
is_floating_operand pool (arg.Pool index) = is_floating_index pool index
is_floating_operand pool (arg.Interface index count last) = is_floating_index pool index
is_floating_operand pool (arg.Multi index dimensions) = is_floating_index pool index
is_floating_operand pool _ = false

abbrev pub is_floating_instr : List Const → Instr → Bool
is_floating_instr pool i = (row_of i.op).floating || is_floating_operand pool i.arg

-- the offset of the first
abbrev pub first_floating : List Const → List Instr → Option ℕ
first_floating pool instrs = first_in (λ (i : Instr). fault_if (is_floating_instr pool i) i.at) instrs

-- the same of a code, as it was read
abbrev pub floating_offset : List Const → Result (List Instr) CodeError → Option ℕ
floating_offset pool (Ok instrs) = first_floating pool instrs
floating_offset pool (Err error) = None

-- ---- a class

abbrev pub floating_field : ℕ → List Const → ℕ → Member → Option AdmitError
floating_field k pool at m = fault_if (describes_floats pool m) (FloatingPoint k (place.Field at))

abbrev pub floating_method : ℕ → List Const → ℕ → Member → Option AdmitError
floating_method k pool at m = fault_if (describes_floats pool m) (FloatingPoint k (place.Method at))

abbrev pub floating_body : ℕ → List Const → ℕ → Option (Result (List Instr) CodeError) → Option AdmitError
floating_body k pool at read = option_map (λ offset. FloatingPoint k (place.Code at offset)) (option_and_then (floating_offset pool) read)

abbrev pub floating_fault : ℕ → ClassFile → Option AdmitError
floating_fault k c = first_of (
    first_from (floating_field k c.pool) 0 c.fields
    ∷ first_from (floating_method k c.pool) 0 c.methods
    ∷ first_from (floating_body k c.pool) 0 (readings_of c)
    ∷ floating_frames k c
    ∷ [])
