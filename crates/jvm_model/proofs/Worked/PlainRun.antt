-- The worked run of class P1 from its bytes: main prints f(41), which is 42, and returns in the ninth step; and of
-- mains that calculate something else.
use Rattle.std.specs.Prelude.{◌≡◌, ℕ, List, [], ◌∷◌, ◌++◌, Some, None, refl, codes}
use Rattle.std.specs.Fmt.{digits}
use Rattle.const_pool.specs.declared.pool.Const.{Const}
use Rattle.const_pool.specs.declared.pool.Const.TheVariants.{Gap, Utf8, Class, Field, Method, NameType}
use Rattle.const_pool.specs.declared.class.ClassFile.{ClassFile}
use Rattle.const_pool.specs.declared.class.Member.{Member}
use Rattle.const_pool.specs.declared.class.CodeAttribute.{CodeAttribute}
use Rattle.const_pool.specs.declared.class.Attribute.TheVariants.{Code}
use Rattle.std.specs.Int.{int_wrap}
use Rattle.op_table.specs.Opcodes.{row_of, groups}
use Rattle.code_model.specs.Instructions.{instruction_at}
use Rattle.code_model.specs.Reading.{read_instruction, behind_opcode_at, operand_at, value_at, index_at, signed_at, number_at}
use Rattle.jf_bytes.specs.Unicode.{utf8_of}
use Rattle.base_classes.specs.BuiltInClasses.{built_in_classes}
use Rattle.base_classes.specs.ObjectClasses.{object_classes}
use Rattle.base_classes.specs.TextClasses.{text_classes}
use Rattle.base_classes.specs.StreamClasses.{stream_classes}
use Rattle.base_classes.specs.ValueClasses.{value_classes}
use Rattle.base_classes.specs.ThrowableClasses.{throwable_classes}
use Rattle.base_classes.specs.Natives.{native_methods}
use Rattle.native_effects.specs.Inputs.KindsViews.{is_among}
use Rattle.native_ops.specs.Methods.Rows.{rows as native_rows}
use Rattle.jvm_model.specs.Basis.Data.{World, Returned, Unverifiable}
use Rattle.jvm_model.specs.Basis.Programs.{methods_numbered}
use Rattle.jvm_model.specs.Basis.Families.{rows, family_of}
use Rattle.jvm_model.specs.Running.Run.{turn_in, output_of, ending_of}
use Rattle.jvm_model.proofs.Worked.WorkedLibrary.{library_files}

abbrev pub p1_pool : List Const
p1_pool = Gap ∷ Utf8 (codes "P1") ∷ Class 1 ∷ Utf8 (codes "java/lang/Object") ∷ Class 3 ∷ Utf8 (codes "java/lang/System") ∷ Class 5 ∷ Utf8 (codes "out") ∷ Utf8 (codes "Ljava/io/PrintStream;") ∷ NameType 7 8 ∷ Field 6 9 ∷ Utf8 (codes "f") ∷ Utf8 (codes "(I)I") ∷ NameType 11 12 ∷ Method 2 13 ∷ Utf8 (codes "java/io/PrintStream") ∷ Class 15 ∷ Utf8 (codes "println") ∷ Utf8 (codes "(I)V") ∷ NameType 17 18 ∷ Method 16 19 ∷ Utf8 (codes "main") ∷ Utf8 (codes "([Ljava/lang/String;)V") ∷ Utf8 (codes "Code") ∷ []

abbrev pub code_with : List ℕ → CodeAttribute
code_with bytes = record { max_stack = 2; max_locals = 1; code = bytes; handlers = []; attributes = [] }

abbrev pub member_with : ℕ → ℕ → CodeAttribute → Member
member_with name descriptor code = record { access = 9; name = name; descriptor = descriptor; attributes = Code 23 code ∷ [] }

abbrev pub method_with : ℕ → ℕ → List ℕ → Member
method_with name descriptor bytes = member_with name descriptor (code_with bytes)

abbrev pub class_with : List Member → ClassFile
class_with methods = record {
  minor = 0;
  major = 50;
  pool = p1_pool;
  access = 33;
  this_class = 2;
  super_class = 4;
  interfaces = [];
  fields = [];
  methods = methods;
  attributes = [];
}

-- getstatic of System.out, these bytes, invokevirtual of println, return
abbrev pub printing_bytes : List ℕ → List ℕ
printing_bytes bytes = (178 ∷ 0 ∷ 10 ∷ []) ++ bytes ++ 182 ∷ 0 ∷ 20 ∷ 177 ∷ []

-- f is iload_0, iconst_1, iadd, ireturn; main prints bipush 41, invokestatic f
abbrev pub p1 : ClassFile
p1 = class_with (method_with 11 12 (26 ∷ 4 ∷ 96 ∷ 172 ∷ []) ∷ method_with 21 22 (printing_bytes (16 ∷ 41 ∷ 184 ∷ 0 ∷ 14 ∷ [])) ∷ [])

-- it stands before the built-in classes, and reads nothing
abbrev pub world_with : ClassFile → ℕ → World
world_with c main = record {
  program = record { classes = c ∷ library_files; methods = methods_numbered (c ∷ library_files); main = main; acts = []; args = []; heap = 4194304 };
  input = [];
}

abbrev pub plain : World
plain = world_with p1 1

-- nothing is written up to the seventh step, and then the line
pub before_println : output_of plain 7 ≡ []
unfolding turn_in digits instruction_at read_instruction behind_opcode_at operand_at value_at index_at signed_at number_at row_of groups family_of rows int_wrap
before_println = refl

pub after_println : output_of plain 8 ≡ utf8_of (codes "42\n")
unfolding turn_in digits instruction_at read_instruction behind_opcode_at operand_at value_at index_at signed_at number_at row_of groups family_of rows native_rows int_wrap native_methods built_in_classes object_classes text_classes stream_classes value_classes throwable_classes is_among
after_println = refl

-- the run goes on up to the eighth step, and returns in the ninth
pub goes_on : ending_of plain 8 ≡ None
unfolding turn_in digits instruction_at read_instruction behind_opcode_at operand_at value_at index_at signed_at number_at row_of groups family_of rows native_rows int_wrap native_methods built_in_classes object_classes text_classes stream_classes value_classes throwable_classes is_among
goes_on = refl

pub has_returned : ending_of plain 9 ≡ Some Returned
unfolding turn_in digits instruction_at read_instruction behind_opcode_at operand_at value_at index_at signed_at number_at row_of groups family_of rows native_rows int_wrap native_methods built_in_classes object_classes text_classes stream_classes value_classes throwable_classes is_among
has_returned = refl

pub stays_returned : ending_of plain 12 ≡ Some Returned
unfolding turn_in digits instruction_at read_instruction behind_opcode_at operand_at value_at index_at signed_at number_at row_of groups family_of rows native_rows int_wrap native_methods built_in_classes object_classes text_classes stream_classes value_classes throwable_classes is_among
stays_returned = refl

-- ---- arithmetic, wrapped to 32 bits

-- main alone, with up to three operands
abbrev pub printing : List ℕ → World
printing bytes = world_with (class_with (member_with 21 22 (record (code_with (printing_bytes bytes)) { max_stack = 3 }) ∷ [])) 0

-- sipush -32768, iconst_3, isub, nop, iconst_m1, imul: the second operand of isub is the topmost
pub subtracts : output_of (printing (17 ∷ 128 ∷ 0 ∷ 6 ∷ 100 ∷ 0 ∷ 2 ∷ 104 ∷ [])) 8 ≡ utf8_of (codes "32771\n")
unfolding turn_in digits instruction_at read_instruction behind_opcode_at operand_at value_at index_at signed_at number_at row_of groups family_of rows native_rows int_wrap native_methods built_in_classes object_classes text_classes stream_classes value_classes throwable_classes is_among
subtracts = refl

-- sipush 32767, sipush 32767, imul, iconst_3, imul: 3221028867, less 2 ^ 32
pub wraps : output_of (printing (17 ∷ 127 ∷ 255 ∷ 17 ∷ 127 ∷ 255 ∷ 104 ∷ 6 ∷ 104 ∷ [])) 7 ≡ utf8_of (codes "-1073938429\n")
unfolding turn_in digits instruction_at read_instruction behind_opcode_at operand_at value_at index_at signed_at number_at row_of groups family_of rows native_rows int_wrap native_methods built_in_classes object_classes text_classes stream_classes value_classes throwable_classes is_among
wraps = refl

-- iadd of an int and a reference: at its offset, in the second step
pub breaks : ending_of (printing (96 ∷ 0 ∷ [])) 2 ≡ Some (Unverifiable 0 3)
unfolding turn_in digits instruction_at read_instruction behind_opcode_at operand_at value_at index_at signed_at number_at row_of groups family_of rows int_wrap
breaks = refl
