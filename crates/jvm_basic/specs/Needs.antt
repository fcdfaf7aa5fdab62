-- What an instruction needs of its frame, said apart from what it does (JVM Specification 4.10, 6.5): the kinds of its
-- topmost operands and of its local. Where it is missing, or the operands would be too deep, the code is unverifiable.
use Rattle.std.specs.Prelude.{ℕ, Bool, true, false, not, List, [], ◌∷◌, Option, Some, None, is_some, ◌&&◌, ◌||◌}
use Rattle.std.specs.List.{list_any}
use Rattle.std.specs.Option.{option_and_then, option_map}
use Rattle.heap_objects.specs.declared.Value.{Value}
use Rattle.heap_objects.specs.declared.Value.TheVariants.{Int, Long, Ref, Addr}
use Rattle.frame_stack.specs.FrameLists.{PlacedFrame, FramesView, top_operands}
use Rattle.code_model.specs.declared.instr.Arg.{Arg}
use Rattle.code_model.specs.declared.instr.Instr.{Instr}
use Rattle.jvm_model.specs.declared.family.Test.{Test}
use Rattle.jvm_model.specs.declared.family.Test.TheVariants.{WithZero, OfInts, OfReferences, IsNull}
use Rattle.jvm_model.specs.declared.family.Family.{Family}
use Rattle.jvm_model.specs.declared.family.Family.TheVariants as family
use Rattle.jvm_model.specs.Basis.Data.{Locals, Operands, StackForm}
use Rattle.jvm_model.specs.Basis.Families.{family_of}
use Rattle.jvm_model.specs.Codes.Lines.{value_in, slot_in, increment_in, target_in}
use Rattle.jvm_model.specs.Basis.StackForms.{forms_of}
use Rattle.jvm_model.specs.Basis.Values.{int_of, local_in, has_kind, is_storable, has_slots, has_form}
use Rattle.jvm_basic.specs.Outcomes.{Outcome, GoesOn, Raises, Breaks, Leaves, top_locals, can_hold, outcome_asked}
use Rattle.jvm_basic.specs.Rules.{datum_in, target_chosen, rule_of}

abbrev pub Wish : Type 0
Wish = Value → Bool

abbrev pub int : Wish
int (Int n) = true
int _ = false

abbrev pub long : Wish
long (Long n) = true
long _ = false

abbrev pub reference : Wish
reference (Ref r) = true
reference _ = false

abbrev pub address : Wish
address (Addr t) = true
address _ = false

-- the topmost operands are as wished, the top first
abbrev pub stand : List Wish → Operands → Bool
stand [] o = true
stand (wish ∷ more) [] = false
stand (wish ∷ more) (v ∷ o) = wish v && stand more o

abbrev pub is_as : Wish → Option Value → Bool
is_as wish None = false
is_as wish (Some v) = wish v

-- the local was written, and is as wished
abbrev pub reads : Wish → Option ℕ → Locals → Bool
reads wish None l = false
reads wish (Some slot) l = is_as wish (local_in l slot)

-- the frame has the slots that the topmost operand takes
abbrev pub takes_slots : Option ℕ → Locals → Operands → Bool
takes_slots None l o = false
takes_slots (Some slot) l [] = false
takes_slots (Some slot) l (v ∷ o) = has_slots l slot v

abbrev pub fits_form : Operands → StackForm → Bool
fits_form o form = has_form form.takes o

abbrev pub operands_of : Test → List Wish
operands_of (WithZero c) = int ∷ []
operands_of (OfInts c) = int ∷ int ∷ []
operands_of (OfReferences same) = reference ∷ reference ∷ []
operands_of (IsNull null) = reference ∷ []

abbrev pub has_needs : Family → Arg → Option Value → Locals → Operands → Bool
has_needs family.PoolConstant a c l o = is_some (option_and_then datum_in c)
has_needs family.OperandConstant a c l o = is_some (value_in a)
has_needs (family.Load k) a c l o = reads (has_kind k) (slot_in a) l
has_needs (family.LoadFrom k slot) a c l o = reads (has_kind k) (Some slot) l
has_needs (family.Store k) a c l o = stand (is_storable k ∷ []) o && takes_slots (slot_in a) l o
has_needs (family.StoreTo k slot) a c l o = stand (is_storable k ∷ []) o && takes_slots (Some slot) l o
has_needs (family.ManageStack op) a c l o = list_any (fits_form o) (forms_of op)
has_needs (family.BinaryOfInts op) a c l o = stand (int ∷ int ∷ []) o
has_needs (family.BinaryOfLongs op) a c l o = stand (long ∷ long ∷ []) o
has_needs (family.DivisionOfInts op) a c l o = stand (int ∷ int ∷ []) o
has_needs (family.DivisionOfLongs op) a c l o = stand (long ∷ long ∷ []) o
has_needs (family.ShiftOfLong op) a c l o = stand (int ∷ long ∷ []) o
has_needs (family.UnaryOfInt op) a c l o = stand (int ∷ []) o
has_needs (family.UnaryOfLong op) a c l o = stand (long ∷ []) o
has_needs family.Lcmp a c l o = stand (long ∷ long ∷ []) o
has_needs family.Iinc a c l o = reads int (option_map (λ p. p.0) (increment_in a)) l
has_needs (family.Branch test) a c l o = is_some (target_in a) && stand (operands_of test) o
has_needs family.Goto a c l o = is_some (target_in a)
has_needs family.Jsr a c l o = is_some (target_in a)
has_needs family.Ret a c l o = reads address (slot_in a) l
has_needs family.Switch a c l o = is_some (option_and_then (target_chosen a) (int_of o))
has_needs _ a c l o = true

-- the operands that the rule gives are too deep, or there is no frame
abbrev pub too_deep : Outcome → List PlacedFrame → Bool
too_deep (GoesOn l o place) fs = not (can_hold o fs)
too_deep (Raises class) fs = false
too_deep Breaks fs = false
too_deep Leaves fs = false

-- what the instruction needs is missing, or what it gives is too deep
abbrev pub is_bad : Instr → Option Value → ℕ → FramesView → Bool
is_bad i c next s =
    not (has_needs (family_of i.op) i.arg c (top_locals s.frames) (top_operands s.frames))
    || too_deep (outcome_asked (rule_of i c next) s.frames) s.frames
