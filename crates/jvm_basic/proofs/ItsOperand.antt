-- An instruction of a code has the operand that its family needs.
use Rattle.std.proofs.Common.{◌≡◌, ◌<◌, Bool, true, false, refl, sym, subst}
use Rattle.std.specs.Prelude.{is_some}
use Rattle.std.specs.List.{list_all, range_with_len}
use Rattle.std.proofs.lemmas.Bool.{false≢true}
use Rattle.op_table.specs.declared.Form.{Form}
use Rattle.op_table.specs.declared.Form.TheVariants as form
use Rattle.op_table.specs.Opcodes.{groups, row_of, wide_groups, wide_row_of}
use Rattle.op_table.proofs.Entries.{holds_below}
use Rattle.code_model.specs.declared.instr.Arg.{Arg}
use Rattle.code_model.specs.declared.instr.Instr.{Instr}
use Rattle.code_model.specs.Operands.{form_of}
use Rattle.code_model.proofs.Reading.Spelled.{HasShape, instruction_spelled}
use Rattle.code_model.proofs.Reading.Readings.{stands_from}
use Rattle.jvm_model.specs.Basis.Families.{rows, family_of}
use Rattle.jvm_model.specs.Codes.Lines.{value_in, slot_in, increment_in, target_in, keys_in}
use Rattle.jvm_basic.specs.Laws.{Need, Nothing, Number, Slot, Increment, BranchTarget, Choice, need_of, has_operand, HasItsOperand}

-- operands of this form are what is needed, or there are none of this form
abbrev suits : Need → Form → Bool
suits need form.Wide = true
suits need form.Unknown = true
suits Nothing f = true
suits Number form.Byte = true
suits Number form.Short = true
suits Slot form.Local = true
suits Increment form.Inc = true
suits BranchTarget form.Jump = true
suits BranchTarget form.JumpWide = true
suits Choice form.Table = true
suits Choice form.Lookup = true
suits _ _ = false

suit : (wide : Bool) → list_all (λ op. suits (need_of (family_of op)) (form_of wide op)) (range_with_len 0 256) ≡ true
unfolding family_of rows row_of groups wide_row_of wide_groups
suit true = refl
suit false = refl

number-suits : (f : Form) (a : Arg) → suits Number f ≡ true → HasShape f a → is_some (value_in a) ≡ true
number-suits form.Byte a h s = subst (λ x. is_some (value_in x) ≡ true) (sym s.1) refl
number-suits form.Short a h s = subst (λ x. is_some (value_in x) ≡ true) (sym s.1) refl
number-suits form.Wide a h s = absurd s
number-suits form.Unknown a h s = absurd s
number-suits _ a h s = absurd (false≢true h)

slot-suits : (f : Form) (a : Arg) → suits Slot f ≡ true → HasShape f a → is_some (slot_in a) ≡ true
slot-suits form.Local a h s = subst (λ x. is_some (slot_in x) ≡ true) (sym s.1) refl
slot-suits form.Wide a h s = absurd s
slot-suits form.Unknown a h s = absurd s
slot-suits _ a h s = absurd (false≢true h)

increment-suits : (f : Form) (a : Arg) → suits Increment f ≡ true → HasShape f a → is_some (increment_in a) ≡ true
increment-suits form.Inc a h s = subst (λ x. is_some (increment_in x) ≡ true) (sym s.2) refl
increment-suits form.Wide a h s = absurd s
increment-suits form.Unknown a h s = absurd s
increment-suits _ a h s = absurd (false≢true h)

target-suits : (f : Form) (a : Arg) → suits BranchTarget f ≡ true → HasShape f a → is_some (target_in a) ≡ true
target-suits form.Jump a h s = subst (λ x. is_some (target_in x) ≡ true) (sym s.1) refl
target-suits form.JumpWide a h s = subst (λ x. is_some (target_in x) ≡ true) (sym s.1) refl
target-suits form.Wide a h s = absurd s
target-suits form.Unknown a h s = absurd s
target-suits _ a h s = absurd (false≢true h)

choice-suits : (f : Form) (a : Arg) → suits Choice f ≡ true → HasShape f a → is_some (keys_in a) ≡ true
choice-suits form.Table a h s = subst (λ x. is_some (keys_in x) ≡ true) (sym s.3) refl
choice-suits form.Lookup a h s = subst (λ x. is_some (keys_in x) ≡ true) (sym s.3) refl
choice-suits form.Wide a h s = absurd s
choice-suits form.Unknown a h s = absurd s
choice-suits _ a h s = absurd (false≢true h)

shape-suits : (need : Need) (f : Form) (a : Arg) → suits need f ≡ true → HasShape f a → has_operand need a ≡ true
shape-suits Nothing f a h s = refl
shape-suits Number f a h s = number-suits f a h s
shape-suits Slot f a h s = slot-suits f a h s
shape-suits Increment f a h s = increment-suits f a h s
shape-suits BranchTarget f a h s = target-suits f a h s
shape-suits Choice f a h s = choice-suits f a h s

pub has-its-operand : (i : Instr) → i.op < 256 → HasItsOperand i
has-its-operand i below bytes at e =
    let s = stands_from bytes at i e in
    let k = instruction_spelled at s.text i s.spelled in
    let suited = holds_below (λ op. suits (need_of (family_of op)) (form_of i.wide op)) 256 i.op (suit i.wide) below in
    shape-suits (need_of (family_of i.op)) (form_of i.wide i.op) i.arg suited k.shape
