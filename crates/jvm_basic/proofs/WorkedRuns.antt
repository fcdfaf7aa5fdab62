-- A frame that runs over the bytes of its code: a loop with a jump backwards, a subroutine, the depth of operands.
use Rattle.std.proofs.Common.{◌≡◌, ℕ, zero, suc, pos, List, [], ◌∷◌, refl}
use Rattle.std.specs.Prelude.{Option, Some, None}
use Rattle.std.specs.Int.{int_wrap}
use Rattle.heap_objects.specs.declared.Value.TheVariants.{Int, Long, Addr}
use Rattle.op_table.specs.Opcodes.{groups, row_of, wide_groups, wide_row_of}
use Rattle.code_model.specs.declared.instr.Instr.{Instr}
use Rattle.code_model.specs.Instructions.{instruction_at, end_of}
use Rattle.code_model.specs.Reading.{read_instruction, number_at, behind_opcode_at, behind_wide_at, operand_at, signed_at, target_at, branch_at, increment_at, local_at}
use Rattle.frame_stack.specs.FrameLists.{PlacedFrame, FramesView, place_of}
use Rattle.jvm_basic.specs.declared.effect.Effect.{Effect}
use Rattle.jvm_basic.specs.declared.effect.Effect.TheVariants.{Next, Bad, Other}
use Rattle.jvm_model.specs.Basis.Families.{rows, family_of}
use Rattle.jvm_model.specs.Basis.Data.{Locals, Operands}
use Rattle.jvm_basic.specs.Outcomes.{effect_of, after}
use Rattle.jvm_basic.specs.Rules.{rule_of}

abbrev frame : ℕ → Locals → Operands → ℕ → List PlacedFrame
frame place l o most = record { version = 0; method = 0; place = place; locals = l; operands = o; max_locals = 2; max_stack = most } ∷ []

-- the frames behind an instruction, and what it came to
record Moved : Type 0 where
  frames : List PlacedFrame
  effect : Effect

abbrev done : Option Instr → List PlacedFrame → Moved
done None fs = record { frames = fs; effect = Bad }
done (Some i) fs =
    let s : FramesView = record { frames = fs; room = None } in
    record { frames = (after (rule_of i None (end_of i)) s).frames; effect = effect_of (rule_of i None (end_of i)) s }

abbrev instruction_in : List ℕ → Option ℕ → Option Instr
instruction_in code None = None
instruction_in code (Some place) = instruction_at code place

-- one instruction after so many
abbrev runs : ℕ → List ℕ → List PlacedFrame → Moved
runs zero code fs = done (instruction_in code (place_of fs)) fs
runs (suc n) code fs = runs n code (done (instruction_in code (place_of fs)) fs).frames

abbrev moved : Effect → List PlacedFrame → Moved
moved effect fs = record { frames = fs; effect = effect }

-- 0 iinc 0 -1, 3 iload_0, 4 ifgt 0, 7 iload_0, 8 ireturn: it counts down
abbrev loop : List ℕ
loop = 132 ∷ 0 ∷ 255 ∷ 26 ∷ 157 ∷ 255 ∷ 252 ∷ 26 ∷ 172 ∷ []

loop-jumps : runs 2 loop (frame 0 (Some (Int (pos 3)) ∷ None ∷ []) [] 1) ≡ moved Next (frame 0 (Some (Int (pos 2)) ∷ None ∷ []) [] 1)
unfolding instruction_at read_instruction number_at behind_opcode_at behind_wide_at operand_at signed_at target_at branch_at increment_at local_at row_of groups wide_row_of wide_groups family_of rows int_wrap
loop-jumps = refl

loop-ends : runs 9 loop (frame 0 (Some (Int (pos 3)) ∷ None ∷ []) [] 1)
    ≡ moved Next (frame 8 (Some (Int (pos 0)) ∷ None ∷ []) (Int (pos 0) ∷ []) 1)
unfolding instruction_at read_instruction number_at behind_opcode_at behind_wide_at operand_at signed_at target_at branch_at increment_at local_at row_of groups wide_row_of wide_groups family_of rows int_wrap
loop-ends = refl

-- ireturn is left to others, and the frame stays
loop-returns : runs 10 loop (frame 0 (Some (Int (pos 3)) ∷ None ∷ []) [] 1)
    ≡ moved Other (frame 8 (Some (Int (pos 0)) ∷ None ∷ []) (Int (pos 0) ∷ []) 1)
unfolding instruction_at read_instruction number_at behind_opcode_at behind_wide_at operand_at signed_at target_at branch_at increment_at local_at row_of groups wide_row_of wide_groups family_of rows int_wrap
loop-returns = refl

-- 0 jsr 5, 3 iload_0, 4 ireturn, 5 astore_1, 6 iinc 0 1, 9 ret 1: the subroutine adds 1
abbrev subroutine : List ℕ
subroutine = 168 ∷ 0 ∷ 5 ∷ 26 ∷ 172 ∷ 76 ∷ 132 ∷ 0 ∷ 1 ∷ 169 ∷ 1 ∷ []

subroutine-is-called : runs 0 subroutine (frame 0 (Some (Int (pos 41)) ∷ None ∷ []) [] 1)
    ≡ moved Next (frame 5 (Some (Int (pos 41)) ∷ None ∷ []) (Addr 3 ∷ []) 1)
unfolding instruction_at read_instruction number_at behind_opcode_at behind_wide_at operand_at signed_at target_at branch_at increment_at local_at row_of groups wide_row_of wide_groups family_of rows
subroutine-is-called = refl

subroutine-ends : runs 4 subroutine (frame 0 (Some (Int (pos 41)) ∷ None ∷ []) [] 1)
    ≡ moved Next (frame 4 (Some (Int (pos 42)) ∷ Some (Addr 3) ∷ []) (Int (pos 42) ∷ []) 1)
unfolding instruction_at read_instruction number_at behind_opcode_at behind_wide_at operand_at signed_at target_at branch_at increment_at local_at row_of groups wide_row_of wide_groups family_of rows int_wrap
subroutine-ends = refl

-- behind wide: 0 wide iinc 1 256, 6 wide iload 1
wide : runs 1 (196 ∷ 132 ∷ 0 ∷ 1 ∷ 1 ∷ 0 ∷ 196 ∷ 21 ∷ 0 ∷ 1 ∷ []) (frame 0 (None ∷ Some (Int (pos 5)) ∷ []) [] 1)
    ≡ moved Next (frame 10 (None ∷ Some (Int (pos 261)) ∷ []) (Int (pos 261) ∷ []) 1)
unfolding instruction_at read_instruction number_at behind_opcode_at behind_wide_at operand_at signed_at target_at branch_at increment_at local_at row_of groups wide_row_of wide_groups family_of rows int_wrap
wide = refl

-- a long counts two, and where there is no room nothing changes: lconst_0, dup, i2l, jsr
too-deep : runs 0 (9 ∷ []) (frame 0 [] [] 1) ≡ moved Bad (frame 0 [] [] 1)
unfolding instruction_at read_instruction number_at behind_opcode_at behind_wide_at operand_at signed_at target_at branch_at increment_at local_at row_of groups family_of rows
too-deep = refl

deep-enough : runs 0 (9 ∷ []) (frame 0 [] [] 2) ≡ moved Next (frame 1 [] (Long (pos 0) ∷ []) 2)
unfolding instruction_at read_instruction number_at behind_opcode_at behind_wide_at operand_at signed_at target_at branch_at increment_at local_at row_of groups family_of rows
deep-enough = refl

no-room-for-a-copy : runs 0 (89 ∷ []) (frame 0 [] (Int (pos 7) ∷ []) 1) ≡ moved Bad (frame 0 [] (Int (pos 7) ∷ []) 1)
unfolding instruction_at read_instruction number_at behind_opcode_at behind_wide_at operand_at signed_at target_at branch_at increment_at local_at row_of groups family_of rows
no-room-for-a-copy = refl

no-room-for-a-long : runs 0 (133 ∷ []) (frame 0 [] (Int (pos 7) ∷ []) 1) ≡ moved Bad (frame 0 [] (Int (pos 7) ∷ []) 1)
unfolding instruction_at read_instruction number_at behind_opcode_at behind_wide_at operand_at signed_at target_at branch_at increment_at local_at row_of groups family_of rows
no-room-for-a-long = refl

no-room-for-an-address : runs 0 subroutine (frame 0 [] (Int (pos 7) ∷ []) 1) ≡ moved Bad (frame 0 [] (Int (pos 7) ∷ []) 1)
unfolding instruction_at read_instruction number_at behind_opcode_at behind_wide_at operand_at signed_at target_at branch_at increment_at local_at row_of groups family_of rows
no-room-for-an-address = refl
