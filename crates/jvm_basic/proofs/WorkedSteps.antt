-- Instructions worked by hand, one step each.
use Rattle.std.proofs.Common.{◌≡◌, ℕ, false, pos, negsuc, List, [], ◌∷◌, map, refl}
use Rattle.std.specs.Prelude.{Some, None}
use Rattle.std.specs.Int.{int_wrap}
use Rattle.heap_objects.specs.declared.Value.{Value}
use Rattle.heap_objects.specs.declared.Value.TheVariants.{Int, Long, Ref, Addr}
use Rattle.code_model.specs.declared.instr.Arg.{Arg}
use Rattle.code_model.specs.declared.instr.Arg.TheVariants as arg
use Rattle.jvm_model.specs.Basis.Families.{rows, family_of}
use Rattle.jvm_model.specs.Basis.Data.{Locals, Operands}
use Rattle.jvm_basic.specs.Outcomes.{Outcome, GoesOn, Raises, Breaks, Leaves}
use Rattle.jvm_basic.specs.Rules.{class_position, rule_of}

-- the instruction at 3, with 4 behind it, on these locals and operands
abbrev step : ℕ → Arg → Locals → Operands → Outcome
step op a l o = rule_of (record { at = 3; op = op; wide = false; arg = a }) None 4 l o

abbrev i : ℕ → Value
i n = Int (pos n)

-- an int of -1 - n
abbrev m : ℕ → Value
m n = Int (negsuc n)

abbrev l : ℕ → Value
l n = Long (pos n)

abbrev k : ℕ → Value
k n = Long (negsuc n)

record Case : Type 0 where
  op : ℕ
  operands : Operands
  left : Operands

abbrev case : ℕ → Operands → Operands → Case
case op operands left = record { op = op; operands = operands; left = left }

abbrev done : Case → Outcome
done c = step c.op arg.Plain [] c.operands

abbrev wanted : Case → Outcome
wanted c = GoesOn [] c.left 4

-- ---- arithmetic

abbrev sums : List Case
sums =
    -- iadd, isub, imul; ladd, lsub, lmul
    case 96 (i 1 ∷ i 2147483647 ∷ []) (m 2147483647 ∷ []) ∷ case 100 (i 5 ∷ i 3 ∷ []) (m 1 ∷ [])
    ∷ case 104 (i 65537 ∷ i 65536 ∷ []) (i 65536 ∷ [])
    ∷ case 97 (l 1 ∷ l 9223372036854775807 ∷ []) (k 9223372036854775807 ∷ [])
    ∷ case 101 (l 1 ∷ k 9223372036854775807 ∷ []) (l 9223372036854775807 ∷ [])
    ∷ case 105 (l 4294967297 ∷ l 4294967296 ∷ []) (l 4294967296 ∷ [])
    -- ineg, lneg
    ∷ case 116 (m 2147483647 ∷ []) (m 2147483647 ∷ []) ∷ case 116 (i 5 ∷ []) (m 4 ∷ []) ∷ case 117 (k 4 ∷ []) (l 5 ∷ []) ∷ []

sums-are : map done sums ≡ map wanted sums
unfolding family_of rows int_wrap
sums-are = refl

abbrev quotients : List Case
quotients =
    -- idiv, irem
    case 108 (i 2 ∷ m 6 ∷ []) (m 2 ∷ []) ∷ case 108 (m 0 ∷ m 2147483647 ∷ []) (m 2147483647 ∷ [])
    ∷ case 112 (i 2 ∷ m 6 ∷ []) (m 0 ∷ []) ∷ case 112 (m 1 ∷ i 7 ∷ []) (i 1 ∷ []) ∷ case 112 (m 0 ∷ m 2147483647 ∷ []) (i 0 ∷ [])
    -- ldiv, lrem
    ∷ case 109 (k 1 ∷ l 7 ∷ []) (k 2 ∷ []) ∷ case 109 (k 0 ∷ k 9223372036854775807 ∷ []) (k 9223372036854775807 ∷ [])
    ∷ case 113 (l 2 ∷ k 6 ∷ []) (k 0 ∷ []) ∷ []

quotients-are : map done quotients ≡ map wanted quotients
unfolding family_of rows int_wrap
quotients-are = refl

abbrev bits : List Case
bits =
    -- ishl, ishr, iushr
    case 120 (i 33 ∷ i 1 ∷ []) (i 2 ∷ []) ∷ case 122 (i 1 ∷ m 6 ∷ []) (m 3 ∷ []) ∷ case 124 (i 28 ∷ m 0 ∷ []) (i 15 ∷ [])
    -- lshl, lshr, lushr
    ∷ case 121 (i 65 ∷ l 1 ∷ []) (l 2 ∷ []) ∷ case 123 (i 33 ∷ l 8589934592 ∷ []) (l 1 ∷ []) ∷ case 125 (i 60 ∷ k 0 ∷ []) (l 15 ∷ [])
    -- iand, ior, ixor; land, lor, lxor
    ∷ case 126 (i 12 ∷ i 10 ∷ []) (i 8 ∷ []) ∷ case 128 (i 12 ∷ i 10 ∷ []) (i 14 ∷ []) ∷ case 130 (i 12 ∷ m 0 ∷ []) (m 12 ∷ [])
    ∷ case 127 (l 6 ∷ k 3 ∷ []) (l 4 ∷ []) ∷ case 129 (l 1 ∷ k 3 ∷ []) (k 2 ∷ []) ∷ case 131 (l 5 ∷ k 0 ∷ []) (k 5 ∷ []) ∷ []

bits-are : map done bits ≡ map wanted bits
unfolding family_of rows int_wrap
bits-are = refl

abbrev conversions : List Case
conversions =
    -- i2l, l2i, i2b, i2c, i2s; lcmp
    case 133 (m 0 ∷ []) (k 0 ∷ []) ∷ case 136 (l 4294967297 ∷ []) (i 1 ∷ []) ∷ case 136 (l 2147483648 ∷ []) (m 2147483647 ∷ [])
    ∷ case 145 (i 200 ∷ []) (m 55 ∷ []) ∷ case 146 (m 0 ∷ []) (i 65535 ∷ []) ∷ case 147 (i 40000 ∷ []) (m 25535 ∷ [])
    ∷ case 148 (l 5 ∷ l 3 ∷ []) (m 0 ∷ []) ∷ case 148 (l 5 ∷ l 5 ∷ []) (i 0 ∷ []) ∷ case 148 (k 5 ∷ l 3 ∷ []) (i 1 ∷ []) ∷ []

conversions-are : map done conversions ≡ map wanted conversions
unfolding family_of rows int_wrap
conversions-are = refl

-- idiv, irem, ldiv, lrem by 0
zero-divisors : map done (case 108 (i 0 ∷ i 5 ∷ []) [] ∷ case 112 (i 0 ∷ i 5 ∷ []) [] ∷ case 109 (l 0 ∷ l 5 ∷ []) [] ∷ case 113 (l 0 ∷ l 5 ∷ []) [] ∷ [])
    ≡ Raises 27 ∷ Raises 27 ∷ Raises 27 ∷ Raises 27 ∷ []
unfolding family_of rows class_position
zero-divisors = refl

-- operands of another kind, or too few; an array load and a float addition
not-done : map done (case 96 (i 1 ∷ l 1 ∷ []) [] ∷ case 96 (i 1 ∷ []) [] ∷ case 121 (l 1 ∷ l 1 ∷ []) [] ∷ case 108 (i 0 ∷ Ref 0 ∷ []) [] ∷ case 46 (i 0 ∷ Ref 7 ∷ []) [] ∷ case 98 [] [] ∷ [])
    ≡ Breaks ∷ Breaks ∷ Breaks ∷ Breaks ∷ Leaves ∷ Leaves ∷ []
unfolding family_of rows
not-done = refl

-- ---- stack instructions: a, b, c, d take one slot, x and y two

abbrev a : Value
a = i 1

abbrev b : Value
b = Ref 2

abbrev c : Value
c = Addr 3

abbrev d : Value
d = i 4

abbrev x : Value
x = l 5

abbrev y : Value
y = l 6

abbrev managed_stack : List Case
managed_stack =
    -- pop, pop2
    case 87 (a ∷ b ∷ []) (b ∷ []) ∷ case 88 (a ∷ b ∷ c ∷ []) (c ∷ []) ∷ case 88 (x ∷ c ∷ []) (c ∷ [])
    -- dup, dup_x1, dup_x2
    ∷ case 89 (a ∷ b ∷ []) (a ∷ a ∷ b ∷ []) ∷ case 90 (a ∷ b ∷ c ∷ []) (a ∷ b ∷ a ∷ c ∷ [])
    ∷ case 91 (a ∷ b ∷ c ∷ d ∷ []) (a ∷ b ∷ c ∷ a ∷ d ∷ []) ∷ case 91 (a ∷ x ∷ d ∷ []) (a ∷ x ∷ a ∷ d ∷ [])
    -- dup2, dup2_x1
    ∷ case 92 (a ∷ b ∷ c ∷ []) (a ∷ b ∷ a ∷ b ∷ c ∷ []) ∷ case 92 (x ∷ c ∷ []) (x ∷ x ∷ c ∷ [])
    ∷ case 93 (a ∷ b ∷ c ∷ d ∷ []) (a ∷ b ∷ c ∷ a ∷ b ∷ d ∷ []) ∷ case 93 (x ∷ b ∷ d ∷ []) (x ∷ b ∷ x ∷ d ∷ [])
    -- dup2_x2
    ∷ case 94 (a ∷ b ∷ c ∷ d ∷ a ∷ []) (a ∷ b ∷ c ∷ d ∷ a ∷ b ∷ a ∷ []) ∷ case 94 (x ∷ b ∷ c ∷ d ∷ []) (x ∷ b ∷ c ∷ x ∷ d ∷ [])
    ∷ case 94 (a ∷ b ∷ x ∷ d ∷ []) (a ∷ b ∷ x ∷ a ∷ b ∷ d ∷ []) ∷ case 94 (x ∷ y ∷ d ∷ []) (x ∷ y ∷ x ∷ d ∷ [])
    -- swap
    ∷ case 95 (a ∷ b ∷ c ∷ []) (b ∷ a ∷ c ∷ []) ∷ []

managed_stack-are : map done managed_stack ≡ map wanted managed_stack
unfolding family_of rows
managed_stack-are = refl

-- each on a mix that it does not take
abbrev not-managed_stack : List Case
not-managed_stack =
    case 87 (x ∷ []) [] ∷ case 88 (a ∷ x ∷ []) [] ∷ case 89 (x ∷ []) [] ∷ case 90 (a ∷ x ∷ []) [] ∷ case 91 (a ∷ b ∷ x ∷ []) []
    ∷ case 92 (a ∷ x ∷ []) [] ∷ case 93 (x ∷ y ∷ []) [] ∷ case 94 (a ∷ x ∷ b ∷ []) [] ∷ case 95 (x ∷ a ∷ []) [] ∷ []

not-managed_stack-are : map done not-managed_stack ≡ Breaks ∷ Breaks ∷ Breaks ∷ Breaks ∷ Breaks ∷ Breaks ∷ Breaks ∷ Breaks ∷ Breaks ∷ []
unfolding family_of rows
not-managed_stack-are = refl

-- ---- branches to 40, and switches

record Jump : Type 0 where
  op : ℕ
  operands : Operands
  place : ℕ

abbrev jump : ℕ → Operands → ℕ → Jump
jump op operands place = record { op = op; operands = operands; place = place }

abbrev jumped : Jump → Outcome
jumped j = step j.op (arg.Target 40) [] j.operands

abbrev jumps-to : Jump → Outcome
jumps-to j = GoesOn [] [] j.place

abbrev with_zero : List Jump
with_zero =
    jump 153 (i 0 ∷ []) 40 ∷ jump 153 (i 1 ∷ []) 4 ∷ jump 154 (i 1 ∷ []) 40 ∷ jump 154 (i 0 ∷ []) 4 ∷ jump 155 (m 0 ∷ []) 40 ∷ jump 155 (i 0 ∷ []) 4
    ∷ jump 156 (i 0 ∷ []) 40 ∷ jump 156 (m 0 ∷ []) 4 ∷ jump 157 (i 1 ∷ []) 40 ∷ jump 157 (i 0 ∷ []) 4 ∷ jump 158 (i 0 ∷ []) 40 ∷ jump 158 (i 1 ∷ []) 4 ∷ []

with_zero-are : map jumped with_zero ≡ map jumps-to with_zero
unfolding family_of rows
with_zero-are = refl

-- the first int is the lower one
abbrev of_two : List Jump
of_two =
    jump 159 (i 2 ∷ i 2 ∷ []) 40 ∷ jump 159 (i 2 ∷ i 1 ∷ []) 4 ∷ jump 160 (i 2 ∷ i 1 ∷ []) 40 ∷ jump 160 (i 2 ∷ i 2 ∷ []) 4
    ∷ jump 161 (i 2 ∷ i 1 ∷ []) 40 ∷ jump 161 (i 1 ∷ i 2 ∷ []) 4 ∷ jump 162 (i 2 ∷ i 2 ∷ []) 40 ∷ jump 162 (i 2 ∷ i 1 ∷ []) 4
    ∷ jump 163 (i 1 ∷ i 2 ∷ []) 40 ∷ jump 163 (i 2 ∷ i 2 ∷ []) 4 ∷ jump 164 (i 2 ∷ i 2 ∷ []) 40 ∷ jump 164 (i 1 ∷ i 2 ∷ []) 4
    ∷ jump 165 (Ref 3 ∷ Ref 3 ∷ []) 40 ∷ jump 165 (Ref 3 ∷ Ref 0 ∷ []) 4 ∷ jump 166 (Ref 3 ∷ Ref 0 ∷ []) 40 ∷ jump 166 (Ref 3 ∷ Ref 3 ∷ []) 4
    ∷ jump 198 (Ref 0 ∷ []) 40 ∷ jump 198 (Ref 3 ∷ []) 4 ∷ jump 199 (Ref 3 ∷ []) 40 ∷ jump 199 (Ref 0 ∷ []) 4 ∷ jump 167 [] 40 ∷ jump 200 [] 40 ∷ []

of_two-are : map jumped of_two ≡ map jumps-to of_two
unfolding family_of rows
of_two-are = refl

-- jsr and jsr_w push the place behind them; a return address is no reference to a branch
subroutines : map jumped (jump 168 [] 0 ∷ jump 201 [] 0 ∷ jump 198 (Addr 4 ∷ []) 0 ∷ []) ≡ GoesOn [] (Addr 4 ∷ []) 40 ∷ GoesOn [] (Addr 4 ∷ []) 40 ∷ Breaks ∷ []
unfolding family_of rows
subroutines = refl

abbrev switched : Arg → Value → Outcome
switched a n = step 170 a [] (n ∷ [])

-- from -1 to 1, at each, on both sides, at the greatest and the least int
table : map (switched (arg.Table 9 (negsuc 0) (20 ∷ 30 ∷ 40 ∷ []))) (m 0 ∷ i 0 ∷ i 1 ∷ i 2 ∷ m 1 ∷ i 2147483647 ∷ m 2147483647 ∷ [])
    ≡ map (GoesOn [] []) (20 ∷ 30 ∷ 40 ∷ 9 ∷ 9 ∷ 9 ∷ 9 ∷ [])
unfolding family_of rows
table = refl

lookup : map (switched (arg.Lookup 9 (negsuc 4 ∷ pos 7 ∷ []) (20 ∷ 30 ∷ []))) (m 4 ∷ i 7 ∷ i 6 ∷ []) ≡ map (GoesOn [] []) (20 ∷ 30 ∷ 9 ∷ [])
unfolding family_of rows
lookup = refl

without-pairs : switched (arg.Lookup 9 [] []) (i 0) ≡ GoesOn [] [] 9
unfolding family_of rows
without-pairs = refl

-- ---- locals

-- lstore_1; then istore_2 breaks the long, and istore_1 does too
stored-long : step 64 arg.Plain (None ∷ Some a ∷ Some b ∷ []) (x ∷ []) ≡ GoesOn (None ∷ Some x ∷ None ∷ []) [] 4
unfolding family_of rows
stored-long = refl

second-slot : step 61 arg.Plain (None ∷ Some x ∷ None ∷ []) (a ∷ []) ≡ GoesOn (None ∷ None ∷ Some a ∷ []) [] 4
unfolding family_of rows
second-slot = refl

-- astore takes a return address, aload gives none back, ret goes to it; istore takes no long, and iload reads none
abbrev of-locals : List Outcome
of-locals =
    step 75 arg.Plain (None ∷ []) (c ∷ []) ∷ step 42 arg.Plain (Some c ∷ []) [] ∷ step 169 (arg.Local 0) (Some c ∷ []) (a ∷ [])
    ∷ step 169 (arg.Local 0) (Some a ∷ []) [] ∷ step 59 arg.Plain (None ∷ None ∷ []) (x ∷ []) ∷ step 26 arg.Plain (Some x ∷ None ∷ []) []
    ∷ step 21 (arg.Local 1) (Some x ∷ None ∷ []) [] ∷ step 22 (arg.Local 0) (Some x ∷ None ∷ []) [] ∷ []

of-locals-are : of-locals ≡
    GoesOn (Some c ∷ []) [] 4 ∷ Breaks ∷ GoesOn (Some c ∷ []) (a ∷ []) 3
    ∷ Breaks ∷ Breaks ∷ Breaks ∷ Breaks ∷ GoesOn (Some x ∷ None ∷ []) (x ∷ []) 4 ∷ []
unfolding family_of rows
of-locals-are = refl

-- iinc wraps
incremented : step 132 (arg.Inc 0 (negsuc 0)) (Some (m 2147483647) ∷ []) [] ≡ GoesOn (Some (i 2147483647) ∷ []) [] 4
unfolding family_of rows int_wrap
incremented = refl
