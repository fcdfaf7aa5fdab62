-- Worked steps over a table of versions: a method has its original code as version 0, and rewritten code as version 1,
-- in which it begins. Frames of both stand on one another; return addresses are homes; a return stands behind its
-- probe; a handler ends where the code does; and a switch has other zeros behind its opcode.
use Rattle.std.specs.Prelude.{◌≡◌, ℕ, true, List, [], ◌∷◌, ◌++◌, length, Option, Some, None, refl, codes, pos}
use Rattle.std.specs.Int.{int_wrap}
use Rattle.heap_objects.specs.declared.Value.{Value}
use Rattle.heap_objects.specs.declared.Value.TheVariants.{Int, Addr}
use Rattle.const_pool.specs.declared.pool.Const.{Const}
use Rattle.const_pool.specs.declared.pool.Const.TheVariants.{Gap, Utf8, Class, Method, NameType}
use Rattle.const_pool.specs.declared.class.ClassFile.{ClassFile}
use Rattle.const_pool.specs.declared.class.CodeAttribute.{CodeAttribute}
use Rattle.const_pool.specs.declared.class.Handler.{Handler}
use Rattle.const_pool.specs.declared.class.Attribute.TheVariants.{Code}
use Rattle.op_table.specs.Opcodes.{row_of, groups}
use Rattle.code_model.specs.declared.laying.Homes.{Homes}
use Rattle.code_model.specs.Instructions.{instruction_at}
use Rattle.code_model.specs.Reading.{read_instruction, behind_opcode_at, operand_at, value_at, index_at, signed_at, number_at, branch_at, target_at, local_at, table_at, run_at, high_at, many_at}
use Rattle.jvm_model.specs.declared.state.Entry.{Entry}
use Rattle.jvm_model.specs.declared.state.Entry.TheVariants.{Active}
use Rattle.jvm_model.specs.declared.state.State.{State}
use Rattle.jvm_model.specs.declared.state.Phase.TheVariants.{Ready}
use Rattle.jvm_model.specs.Basis.Data.{World}
use Rattle.jvm_model.specs.Basis.Families.{rows, family_of}
use Rattle.jvm_model.specs.Basis.Programs.{methods_numbered}
use Rattle.jvm_model.specs.Running.Run.{step}
use Rattle.jvm_model.specs.Basis.SharedState.{shared_before}
use Rattle.prepared_code.specs.Tables.{Versions}
use Rattle.prepared_code.specs.Entries.{original_version}
use Rattle.prepared_code.specs.Rewritten.{rewritten_version}
use Rattle.prepared_code.specs.Versions.{listing_of}

-- ---- a class W with the static method m()V

abbrev pool : List Const
pool = Gap ∷ Utf8 (codes "W") ∷ Class 1 ∷ Utf8 (codes "m") ∷ Utf8 (codes "()V") ∷ NameType 3 4 ∷ Method 2 5 ∷ Utf8 (codes "Code") ∷ []

abbrev code_with : List ℕ → List Handler → CodeAttribute
code_with bytes handlers = record { max_stack = 1; max_locals = 1; code = bytes; handlers = handlers; attributes = [] }

abbrev class_with : CodeAttribute → ClassFile
class_with code = record {
  minor = 0;
  major = 50;
  pool = pool;
  access = 33;
  this_class = 2;
  super_class = 0;
  interfaces = [];
  fields = [];
  methods = (record { access = 9; name = 3; descriptor = 4; attributes = Code 7 code ∷ [] }) ∷ [];
  attributes = [];
}

abbrev world_of : CodeAttribute → World
world_of code = record {
  program = record { classes = class_with code ∷ []; methods = methods_numbered (class_with code ∷ []); main = 0; acts = []; args = []; heap = 4194304 };
  input = [];
}

-- its original code, and rewritten code with its homes
abbrev both : CodeAttribute → CodeAttribute → Homes → Versions
both old new homes = record {
  slots = Some (original_version (world_of old).program 0) ∷ Some (rewritten_version 0 (class_with new) new homes (length old.code)) ∷ [];
  current = 1 ∷ [];
}

abbrev frame : ℕ → ℕ → List (Option Value) → List Value → Entry
frame version place locals operands = Active (record { method = 0; version = version; place = place; locals = locals; operands = operands; max_locals = 1; max_stack = 1 })

abbrev state_of : CodeAttribute → List Entry → State
state_of old stack = record {
  stack = stack;
  thrown = None;
  begun = true;
  shared = record (shared_before (world_of old).program) { loaded = 0 ∷ []; phases = Ready ∷ [] };
  output = [];
  ending = None;
}

-- the stack behind a step over both
abbrev stack_behind : CodeAttribute → CodeAttribute → Homes → List Entry → List Entry
stack_behind old new homes stack = (step (world_of old) (listing_of (both old new homes)) (state_of old stack)).after.stack

abbrev probe : ℕ → List ℕ
probe index = 17 ∷ 0 ∷ 0 ∷ 184 ∷ 0 ∷ index ∷ []

-- ---- a subroutine: jsr 4, return, astore_0, ret 0

abbrev calls_back : CodeAttribute
calls_back = code_with (168 ∷ 0 ∷ 4 ∷ 177 ∷ 75 ∷ 169 ∷ 0 ∷ []) (record { start = 4; end = 7; handler = 3; catch_class = 0 } ∷ [])

abbrev calls_back_homes : Homes
calls_back_homes = record { from = 0 ∷ 3 ∷ 4 ∷ 5 ∷ 7 ∷ []; home = 6 ∷ 9 ∷ 16 ∷ 17 ∷ 19 ∷ []; place = 6 ∷ 15 ∷ 16 ∷ 17 ∷ 19 ∷ [] }

abbrev calls_back_image : CodeAttribute
calls_back_image = code_with (probe 9 ++ (168 ∷ 0 ∷ 10 ∷ []) ++ probe 11 ++ (177 ∷ 75 ∷ 169 ∷ 0 ∷ []) ++ probe 12 ++ 191 ∷ [])
    (record { start = 16; end = 19; handler = 9; catch_class = 0 } ∷ record { start = 6; end = 19; handler = 19; catch_class = 0 } ∷ [])

abbrev behind : List Entry → List Entry
behind stack = stack_behind calls_back calls_back_image calls_back_homes stack

-- the return address is 3 in the original code, and its home 9 in the version
jsr-original : behind (frame 0 0 (None ∷ []) [] ∷ []) ≡ frame 0 4 (None ∷ []) (Addr 3 ∷ []) ∷ []
unfolding instruction_at read_instruction behind_opcode_at operand_at value_at index_at signed_at number_at branch_at target_at local_at table_at run_at high_at many_at row_of groups family_of rows int_wrap
jsr-original = refl

jsr-homed : behind (frame 1 6 (None ∷ []) [] ∷ []) ≡ frame 1 16 (None ∷ []) (Addr 9 ∷ []) ∷ []
unfolding instruction_at read_instruction behind_opcode_at operand_at value_at index_at signed_at number_at branch_at target_at local_at table_at run_at high_at many_at row_of groups family_of rows int_wrap
jsr-homed = refl

ret-homed : behind (frame 1 17 (Some (Addr 9) ∷ []) [] ∷ []) ≡ frame 1 9 (Some (Addr 9) ∷ []) [] ∷ []
unfolding instruction_at read_instruction behind_opcode_at operand_at value_at index_at signed_at number_at branch_at target_at local_at table_at run_at high_at many_at row_of groups family_of rows int_wrap
ret-homed = refl

-- beside it the frame in the original code goes on by offsets
ret-original : behind (frame 0 5 (Some (Addr 3) ∷ []) [] ∷ frame 1 6 (None ∷ []) [] ∷ []) ≡ frame 0 3 (Some (Addr 3) ∷ []) [] ∷ frame 1 6 (None ∷ []) [] ∷ []
unfolding instruction_at read_instruction behind_opcode_at operand_at value_at index_at signed_at number_at branch_at target_at local_at table_at run_at high_at many_at row_of groups family_of rows int_wrap
ret-original = refl

-- the handler goes to the return by its home, and ends where the code does; the one that takes what leaves the code is
-- none of the version's
handlers-homed : (listing_of (both calls_back calls_back_image calls_back_homes)).handlers 1 ≡ record { start = 16; finish = 19; target = 9; catches = None } ∷ []
unfolding instruction_at read_instruction behind_opcode_at operand_at value_at index_at signed_at number_at branch_at target_at local_at table_at run_at high_at many_at row_of groups family_of rows int_wrap
handlers-homed = refl

handlers-original : (listing_of (both calls_back calls_back_image calls_back_homes)).handlers 0 ≡ record { start = 4; finish = 7; target = 3; catches = None } ∷ []
unfolding instruction_at read_instruction behind_opcode_at operand_at value_at index_at signed_at number_at branch_at target_at local_at table_at run_at high_at many_at row_of groups family_of rows int_wrap
handlers-original = refl

-- ---- recursion: invokestatic of m, return

abbrev recursive : CodeAttribute
recursive = code_with (184 ∷ 0 ∷ 6 ∷ 177 ∷ []) []

abbrev recursive_homes : Homes
recursive_homes = record { from = 0 ∷ 3 ∷ 4 ∷ []; home = 6 ∷ 9 ∷ 16 ∷ []; place = 6 ∷ 15 ∷ 16 ∷ [] }

abbrev recursive_image : CodeAttribute
recursive_image = code_with (probe 9 ++ (184 ∷ 0 ∷ 6 ∷ []) ++ probe 11 ++ (177 ∷ []) ++ probe 12 ++ 191 ∷ []) (record { start = 6; end = 16; handler = 16; catch_class = 0 } ∷ [])

abbrev over : List Entry → List Entry
over stack = stack_behind recursive recursive_image recursive_homes stack

-- from the original code the method begins in the version, behind its entry probe
call-original : over (frame 0 0 (None ∷ []) [] ∷ []) ≡ frame 1 6 (None ∷ []) [] ∷ frame 0 0 (None ∷ []) [] ∷ []
unfolding instruction_at read_instruction behind_opcode_at operand_at value_at index_at signed_at number_at branch_at target_at local_at table_at run_at high_at many_at row_of groups family_of rows int_wrap
call-original = refl

-- a return, which stands behind its probe, goes back into each as it stands there
return-original : over (frame 0 3 (None ∷ []) [] ∷ frame 1 6 (None ∷ []) [] ∷ []) ≡ frame 1 9 (None ∷ []) [] ∷ []
unfolding instruction_at read_instruction behind_opcode_at operand_at value_at index_at signed_at number_at branch_at target_at local_at table_at run_at high_at many_at row_of groups family_of rows int_wrap
return-original = refl

return-homed : over (frame 1 9 (None ∷ []) [] ∷ frame 0 0 (None ∷ []) [] ∷ []) ≡ frame 0 3 (None ∷ []) [] ∷ []
unfolding instruction_at read_instruction behind_opcode_at operand_at value_at index_at signed_at number_at branch_at target_at local_at table_at run_at high_at many_at row_of groups family_of rows int_wrap
return-homed = refl

-- ---- iconst_0, a switch to the return, return

abbrev switches : CodeAttribute
switches = code_with ((3 ∷ 170 ∷ 0 ∷ 0 ∷ []) ++ (0 ∷ 0 ∷ 0 ∷ 19 ∷ []) ++ (0 ∷ 0 ∷ 0 ∷ 0 ∷ []) ++ (0 ∷ 0 ∷ 0 ∷ 0 ∷ []) ++ (0 ∷ 0 ∷ 0 ∷ 19 ∷ []) ++ 177 ∷ []) []

abbrev switches_homes : Homes
switches_homes = record { from = 0 ∷ 1 ∷ 20 ∷ 21 ∷ []; home = 6 ∷ 7 ∷ 24 ∷ 31 ∷ []; place = 6 ∷ 7 ∷ 30 ∷ 31 ∷ [] }

abbrev switches_image : CodeAttribute
switches_image = code_with (probe 9 ++ (3 ∷ 170 ∷ []) ++ (0 ∷ 0 ∷ 0 ∷ 17 ∷ []) ++ (0 ∷ 0 ∷ 0 ∷ 0 ∷ []) ++ (0 ∷ 0 ∷ 0 ∷ 0 ∷ []) ++ (0 ∷ 0 ∷ 0 ∷ 17 ∷ []) ++ probe 11 ++ (177 ∷ []) ++ probe 12 ++ 191 ∷ [])
    (record { start = 6; end = 31; handler = 31; catch_class = 0 } ∷ [])

abbrev switched : List Entry → List Entry
switched stack = stack_behind switches switches_image switches_homes stack

switch-original : switched (frame 0 1 (None ∷ []) (Int (pos 0) ∷ []) ∷ []) ≡ frame 0 20 (None ∷ []) [] ∷ []
unfolding instruction_at read_instruction behind_opcode_at operand_at value_at index_at signed_at number_at branch_at target_at local_at table_at run_at high_at many_at row_of groups family_of rows int_wrap
switch-original = refl

switch-homed : switched (frame 1 7 (None ∷ []) (Int (pos 5) ∷ []) ∷ []) ≡ frame 1 24 (None ∷ []) [] ∷ []
unfolding instruction_at read_instruction behind_opcode_at operand_at value_at index_at signed_at number_at branch_at target_at local_at table_at run_at high_at many_at row_of groups family_of rows int_wrap
switch-homed = refl
