-- The rules of jvm_model with places put in (JVM Specification 2.11, 6.5): the place behind the instruction, and its
-- targets.
use Rattle.std.specs.Prelude.{ℕ, false, List, [], ◌∷◌, Option, Some, None, unwrap_or, position, slice_get, ℤ}
use Rattle.std.specs.Option.{option_and_then}
use Rattle.heap_objects.specs.declared.datum.Datum.TheVariants as datum
use Rattle.heap_objects.specs.declared.Value.{Value}
use Rattle.heap_objects.specs.declared.Value.TheVariants.{Int, Long, Ref, Addr}
use Rattle.const_pool.specs.declared.descriptor.Kind.{Kind}
use Rattle.const_pool.specs.BuiltIn.{built_in_names}
use Rattle.code_model.specs.declared.instr.Arg.{Arg}
use Rattle.code_model.specs.declared.instr.Instr.{Instr}
use Rattle.jvm_model.specs.declared.family.Family.{Family}
use Rattle.jvm_model.specs.declared.family.Family.TheVariants as family
use Rattle.heap_objects.specs.declared.datum.Datum.{Datum}
use Rattle.jvm_model.specs.declared.family.IntOperator.{IntOperator}
use Rattle.jvm_model.specs.declared.family.LongOperator.{LongOperator}
use Rattle.jvm_model.specs.declared.family.Division.{Division}
use Rattle.jvm_model.specs.declared.family.LongShift.{LongShift}
use Rattle.jvm_model.specs.declared.family.OfInt.{OfInt}
use Rattle.jvm_model.specs.declared.family.OfLong.{OfLong}
use Rattle.jvm_model.specs.declared.family.Test.{Test}
use Rattle.jvm_model.specs.Basis.Data.{Locals, Operands, StackForm}
use Rattle.jvm_model.specs.declared.instruction.Local.TheVariants.{Constant, Load, Iinc, Goto, Jsr, Ret, Nop}
use Rattle.jvm_model.specs.Basis.Data.{Where, Next, Target, Back, Subroutine}
use Rattle.jvm_model.specs.Basis.Data as model
use Rattle.jvm_model.specs.Basis.Descriptors.{same_text}
use Rattle.jvm_model.specs.Basis.Families.{family_of}
use Rattle.jvm_model.specs.Codes.Lines.{value_in, slot_in, increment_in, target_in, keys_in, local_of, targets_of}
use Rattle.jvm_model.specs.Instructions.LocalRules
use Rattle.jvm_model.specs.Basis.StackForms.{forms_of}
use Rattle.jvm_model.specs.Basis.Values.{managed_stack}
use Rattle.jvm_basic.specs.Outcomes.{Rule, Outcome, GoesOn, Raises, Breaks, Leaves}

-- ---- places

-- what an instruction asks for, without places
abbrev pub Asking : Type 0
Asking = Locals → Operands → model.Outcome

-- the position of a class among the built-in ones
unfoldable pub class_position : List ℕ → ℕ
class_position name = unwrap_or (position (same_text name) built_in_names) 0

-- the position of java/lang/ArithmeticException among the built-in classes
abbrev pub arithmetic_exception : ℕ
arithmetic_exception = 27

abbrev pub goes_at : Locals → Operands → Option ℕ → Outcome
goes_at l o None = Breaks
goes_at l o (Some place) = GoesOn l o place

abbrev pub place_in : ℕ → List ℕ → Where → Option ℕ
place_in next targets Next = Some next
place_in next targets (Target k) = slice_get targets k
place_in next targets (Back place) = Some place

-- Of a frame with these locals and operands. What ends an activation or needs more than the frame is left to others.
abbrev pub outcome_placed : ℕ → List ℕ → Locals → Operands → model.Outcome → Outcome
outcome_placed next targets l o (model.GoesOn m p to) = goes_at m p (place_in next targets to)
outcome_placed next targets l o Subroutine = goes_at l (Addr next ∷ o) (slice_get targets 0)
outcome_placed next targets l o (model.Raises name message) = Raises (class_position name)
outcome_placed next targets l o (model.Breaks false) = Breaks
outcome_placed next targets l o _ = Leaves

abbrev pub going : Asking → ℕ → List ℕ → Rule
going asks next targets l o = outcome_placed next targets l o (asks l o)

-- the instruction needs this of its operand
abbrev pub needs : {A : Type 0} → Option A → (A → Rule) → Rule
needs None rule l o = Breaks
needs (Some x) rule l o = rule x l o

-- ---- every instruction

-- a return address is no constant
abbrev pub datum_in : Value → Option Datum
datum_in (Int n) = Some (datum.Int n)
datum_in (Long n) = Some (datum.Long n)
datum_in (Ref r) = Some (datum.Ref r)
datum_in (Addr place) = None

abbrev pub rule_by : Family → Arg → Option Datum → ℕ → Rule
rule_by family.NotLocal a c next l o = Leaves
rule_by f a c next l o = needs (local_of f a c) (λ i. going (LocalRules.within i) next (targets_of a)) l o

-- With the constant that an ldc has, and the place behind the instruction. An operand of another form than the
-- instruction's breaks; decoded code has none.
abbrev pub rule_of : Instr → Option Value → ℕ → Rule
rule_of i c next = rule_by (family_of i.op) i.arg (option_and_then datum_in c) next

-- ---- the same by families, each with the targets that it has

abbrev pub replaces : ℕ → Option Value → ℕ → Rule
replaces taken v next = going (LocalRules.replaces taken v) next []

abbrev pub gives : Option Value → ℕ → Rule
gives c next = needs (option_and_then datum_in c) (λ d. going (LocalRules.within (Constant d)) next [])

abbrev pub pushes_number : Arg → ℕ → Rule
pushes_number a next = needs (value_in a) (λ d. going (LocalRules.within (Constant d)) next [])

abbrev pub loads : Kind → Option ℕ → ℕ → Rule
loads k slot next = needs slot (λ n. going (LocalRules.within (Load k n)) next [])

abbrev pub stores : Kind → Option ℕ → ℕ → Rule
stores k slot next = needs slot (λ n. going (LocalRules.stores k n) next [])

abbrev pub increments : Option (ℕ × ℤ) → ℕ → Rule
increments x next = needs x (λ p. going (LocalRules.within (Iinc p.0 p.1)) next [])

abbrev pub manages_stack : List StackForm → ℕ → Rule
manages_stack forms next = going (λ l o. LocalRules.leaves (managed_stack forms o) l) next []

abbrev pub calculates : IntOperator → ℕ → Rule
calculates op next = going (LocalRules.calculates op) next []

abbrev pub calculates_long : LongOperator → ℕ → Rule
calculates_long op next = going (LocalRules.calculates_long op) next []

abbrev pub shifts : LongShift → ℕ → Rule
shifts op next = going (LocalRules.shifts op) next []

abbrev pub compares_longs : ℕ → Rule
compares_longs next = going LocalRules.compares_longs next []

abbrev pub divides_ints : Division → ℕ → Rule
divides_ints op next = going (LocalRules.divides_ints op) next []

abbrev pub divides_longs : Division → ℕ → Rule
divides_longs op next = going (LocalRules.divides_longs op) next []

abbrev pub converts_int : OfInt → ℕ → Rule
converts_int op next = going (LocalRules.converts_int op) next []

abbrev pub converts_long : OfLong → ℕ → Rule
converts_long op next = going (LocalRules.converts_long op) next []

abbrev pub branches : Test → Option ℕ → ℕ → Rule
branches test target next = needs target (λ t. going (LocalRules.branches test) next (t ∷ []))

abbrev pub goes_to : Option ℕ → Rule
goes_to target = needs target (λ t. going (LocalRules.within Goto) 0 (t ∷ []))

-- where a switch goes by a number
abbrev pub target_chosen : Arg → ℤ → Option ℕ
target_chosen a n = option_and_then (λ keys. slice_get (targets_of a) (LocalRules.target_by keys n)) (keys_in a)

abbrev pub switches : Arg → Rule
switches a = needs (keys_in a) (λ keys. going (LocalRules.switches keys) 0 (targets_of a))

abbrev pub calls_subroutine : Option ℕ → ℕ → Rule
calls_subroutine target next = needs target (λ t. going (LocalRules.within Jsr) next (t ∷ []))

abbrev pub goes_back : Option ℕ → Rule
goes_back slot = needs slot (λ n. going (LocalRules.within (Ret n)) 0 [])

abbrev pub does : Family → Arg → Option Value → ℕ → Rule
does family.Nop a c next = going (LocalRules.within Nop) next []
does (family.Constant d) a c next = going (LocalRules.within (Constant d)) next []
does family.PoolConstant a c next = gives c next
does family.OperandConstant a c next = pushes_number a next
does (family.Load k) a c next = loads k (slot_in a) next
does (family.LoadFrom k slot) a c next = loads k (Some slot) next
does (family.Store k) a c next = stores k (slot_in a) next
does (family.StoreTo k slot) a c next = stores k (Some slot) next
does (family.ManageStack op) a c next = manages_stack (forms_of op) next
does (family.BinaryOfInts op) a c next = calculates op next
does (family.BinaryOfLongs op) a c next = calculates_long op next
does (family.DivisionOfInts op) a c next = divides_ints op next
does (family.DivisionOfLongs op) a c next = divides_longs op next
does (family.ShiftOfLong op) a c next = shifts op next
does (family.UnaryOfInt op) a c next = converts_int op next
does (family.UnaryOfLong op) a c next = converts_long op next
does family.Lcmp a c next = compares_longs next
does family.Iinc a c next = increments (increment_in a) next
does (family.Branch test) a c next = branches test (target_in a) next
does family.Goto a c next = goes_to (target_in a)
does family.Jsr a c next = calls_subroutine (target_in a) next
does family.Ret a c next = goes_back (slot_in a)
does family.Switch a c next = switches a
does (family.Return k) a c next = λ l o. Leaves
does family.NotLocal a c next = λ l o. Leaves
