-- At the home of each instruction of a code that was laid out stands, behind what goes before it, the same instruction
-- by homes.
use Rattle.std.proofs.Common.{◌≡◌, ℕ, ◌+◌, ◌*◌, Bool, true, false, cond, List, length, Option, Some, None, refl, sym, ap, ◌∙◌}
use Rattle.std.proofs.lemmas.List.{length-map}
use Rattle.std.specs.Prelude.{min, unwrap_or}
use Rattle.std.specs.Int.{Width}
use Rattle.std.specs.Option.{option_and_then, option_map}
use Rattle.const_pool.specs.declared.class.ClassFile.{ClassFile}
use Rattle.code_model.specs.declared.instr.Instr.{Instr}
use Rattle.code_model.specs.declared.instr.Arg.{Arg}
use Rattle.code_model.specs.declared.instr.Arg.TheVariants as arg
use Rattle.code_model.specs.declared.laying.Group.{Group}
use Rattle.code_model.specs.declared.laying.Laid.{Laid}
use Rattle.code_model.specs.Groups.{IsLaidIn}
use Rattle.code_model.specs.Instructions.{end_of}
use Rattle.code_model.specs.Operands.{padding_len}
use Rattle.code_model.specs.Layout.{home_of, instr_moved, moved_arg, opcode_bytes, operand_len, place_of, size_at, width_of}
use Rattle.code_model.proofs.Reading.Lengths.{size_at-is}
use Rattle.jvm_model.specs.Basis.Data.{Instruction, Local, Operation}
use Rattle.jvm_model.specs.Codes.Lines.{code_instruction, ends, instruction_of, next_of, operation_of, targets_of}
use Rattle.jvm_model.specs.Codes.Moved.{moved_instruction}
use Rattle.jvm_model.specs.Codes.Homed.{with_own}
use Rattle.jvm_model.proofs.Relocated.MovedOperations.{operation-moves, targets-move}

-- it is as long, wherever its targets lead
operand-long : (h : ℕ → ℕ) (place : ℕ) (w : Width) (a : Arg) → operand_len place w (moved_arg h a) ≡ operand_len place w a
operand-long h place w (arg.Table default low targets) = ap (λ n. padding_len place + 12 + 4 * n) (length-map targets h)
operand-long h place w (arg.Lookup default keys targets) = ap (λ n. padding_len place + 8 + 8 * min (length keys) n) (length-map targets h)
operand-long h place w (arg.Target t) = refl
operand-long h place w (arg.Pool index) = refl
operand-long h place w arg.Plain = refl
operand-long h place w (arg.Value n) = refl
operand-long h place w (arg.Local slot) = refl
operand-long h place w (arg.Inc slot n) = refl
operand-long h place w (arg.Interface index count zero) = refl
operand-long h place w (arg.Multi index dimensions) = refl
operand-long h place w (arg.Array code) = refl

size-same : (h : ℕ → ℕ) (place : ℕ) (i : Instr) → size_at place (instr_moved h place i) ≡ size_at place i
size-same h place i = size_at-is place (instr_moved h place i) ∙ (ap (λ n. length (opcode_bytes i.wide i.op) + n) (operand-long h place (width_of i) i.arg) ∙ sym (size_at-is place i))

next-moves : (h : ℕ → ℕ) (op : Operation Local) (at to : ℕ) → to ≡ h at → next_of op to ≡ option_map h (next_of op at)
next-moves h op at to same = by (ends op) where
  by : (b : Bool) → cond b None (Some to) ≡ option_map h (cond b None (Some at))
  by true = refl
  by false = ap Some same

module _ (c image : ClassFile) (laid : Laid) (g : Group) (is : IsLaidIn laid g) (does : operation_of image g.instr ≡ operation_of c g.instr) where
  abbrev h : ℕ → ℕ
  h = home_of laid.homes

  abbrev place : ℕ
  place = place_of is.home g

  abbrev there : Instr
  there = instr_moved h place g.instr

  end-there : end_of there ≡ h (end_of g.instr)
  end-there = ap (λ n. place + n) (size-same h place g.instr) ∙ sym (ap (λ o. unwrap_or o 0) is.next)

  -- with what it does
  abbrev with_operation : ℕ → ℕ → List ℕ → Operation Local → Instruction
  with_operation own to targets o = record { operation = o; own = own; next = next_of o to; targets = targets }

  by-operation : (o : Option (Operation Local)) → option_map (with_own g.instr.at) (option_map (with_operation place (end_of there) (targets_of there.arg)) o)
      ≡ option_map (moved_instruction h) (option_map (with_operation g.instr.at (end_of g.instr) (targets_of g.instr.arg)) o)
  by-operation None = refl
  by-operation (Some op) =
      ap (λ (n : Option ℕ). let o : Option Instruction = Some (record { operation = op; own = g.instr.at; next = n; targets = targets_of there.arg }) in o) (next-moves h op (end_of g.instr) (end_of there) end-there)
      ∙ ap (λ (ts : List ℕ). let o : Option Instruction = Some (record { operation = op; own = g.instr.at; next = option_map h (next_of op (end_of g.instr)); targets = ts }) in o) (targets-move h g.instr.arg)

  pub homed-line : option_map (with_own g.instr.at) (code_instruction image laid.code place) ≡ option_map (moved_instruction h) (instruction_of c g.instr)
  homed-line =
      ap (λ o. option_map (with_own g.instr.at) (option_and_then (instruction_of image) o)) is.stands
      ∙ (ap (λ o. option_map (with_own g.instr.at) (option_map (with_operation place (end_of there) (targets_of there.arg)) o)) (operation-moves image h place g.instr ∙ does)
      ∙ by-operation (operation_of c g.instr))
