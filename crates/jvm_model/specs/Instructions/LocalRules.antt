-- What an instruction asks for that sees nothing but the locals and operands of its frame (JVM Specification 2.11,
-- 6.5).
use Rattle.std.specs.Prelude.{ℕ, suc, Bool, true, false, not, List, [], ◌∷◌, drop, Option, Some, None, slice_get, nat_lt, ◌==◌, ◌&&◌, if◌then◌else◌, ℤ, pos, negsuc, ◌-ℤ◌, int_lt, int_rem, codes}
use Rattle.std.specs.Option.{option_map}
use Rattle.std.specs.Ordering.{int_eq}
use Rattle.std.specs.Int.{Width, w8, w16, w32, w64, int_wrap, int_bit_and, int_bit_or, int_bit_xor}
use Rattle.heap_objects.specs.declared.Value.TheVariants.{Int, Long, Addr}
use Rattle.heap_objects.specs.declared.datum.Datum.TheVariants as datum
use Rattle.const_pool.specs.declared.descriptor.Kind.{Kind}
use Rattle.int_ops.specs.Arithmetic.{wrapped_sum, wrapped_difference, wrapped_product, wrapped_negation, wrapped_quotient, shifted_left, shifted_right, shifted_right_unsigned, comparison, zero_extended}
use Rattle.jvm_model.specs.Basis.Data.{Datum, Value, Locals, Operands, IntOperator, LongOperator, Division, LongShift, OfInt, OfLong, Comparison, Test, WithZero, OfInts, OfReferences, IsNull, Keys, Consecutive, Listed, Local, Nop, Constant, Load, Store, ManageStack, BinaryOfInts, BinaryOfLongs, DivisionOfInts, DivisionOfLongs, ShiftOfLong, UnaryOfInt, UnaryOfLong, Lcmp, Iinc, Branch, Goto, Switch, Jsr, Ret, Return, Where, Next, Target, Back, Outcome, GoesOn, Subroutine, Returns, Raises, Breaks}
use Rattle.jvm_model.specs.declared.family.IntOperator.TheVariants.{Iadd, Isub, Imul, Ishl, Ishr, Iushr, Iand, Ior, Ixor}
use Rattle.jvm_model.specs.declared.family.LongOperator.TheVariants.{Ladd, Lsub, Lmul, Land, Lor, Lxor}
use Rattle.jvm_model.specs.declared.family.Division.TheVariants.{Quotient, Remainder}
use Rattle.jvm_model.specs.declared.family.LongShift.TheVariants.{Lshl, Lshr, Lushr}
use Rattle.jvm_model.specs.declared.family.OfInt.TheVariants.{Ineg, I2l, I2b, I2c, I2s}
use Rattle.jvm_model.specs.declared.family.OfLong.TheVariants.{Lneg, L2i}
use Rattle.jvm_model.specs.declared.family.Comparison.TheVariants.{Equal, NotEqual, Less, AtLeast, Greater, AtMost}
use Rattle.jvm_model.specs.Basis.Values.{as_value, datum_of, local_loaded, is_storable, local_in, has_slots, local_stored, int_of, long_of, ref_of, ints_of, longs_of, long_and_int_of, refs_of, managed_stack}
use Rattle.jvm_model.specs.Basis.StackForms.{forms_of}

-- ---- the operand stack

-- the value is on top now, where there is one
abbrev pub pushes : Option Value → Locals → Operands → Outcome
pushes None l o = Breaks false
pushes (Some v) l o = GoesOn l (v ∷ o) Next

-- so many operands give way to a value
abbrev pub replaces : ℕ → Option Value → Locals → Operands → Outcome
replaces taken None l o = Breaks false
replaces taken (Some v) l o = GoesOn l (v ∷ drop taken o) Next

abbrev pub leaves : Option Operands → Locals → Outcome
leaves None l = Breaks false
leaves (Some o) l = GoesOn l o Next

-- ---- locals

abbrev pub stores : Kind → ℕ → Locals → Operands → Outcome
stores k slot l [] = Breaks false
stores k slot l (v ∷ below) =
    if is_storable k v && has_slots l slot v then GoesOn (local_stored l slot v) below Next else Breaks false

-- written as by a store
abbrev pub increments : ℕ → ℤ → Option Value → Locals → Operands → Outcome
increments slot d (Some (Int n)) l o = GoesOn (local_stored l slot (Int (wrapped_sum w32 n d))) o Next
increments slot d _ l o = Breaks false

-- ---- arithmetic (2.11.3, 2.11.4); the topmost operand is the second one

abbrev pub int_calculated : IntOperator → ℤ → ℤ → ℤ
int_calculated Iadd a b = wrapped_sum w32 a b
int_calculated Isub a b = wrapped_difference w32 a b
int_calculated Imul a b = wrapped_product w32 a b
int_calculated Ishl a b = shifted_left w32 a b
int_calculated Ishr a b = shifted_right w32 a b
int_calculated Iushr a b = shifted_right_unsigned w32 a b
int_calculated Iand a b = int_bit_and w32 a b
int_calculated Ior a b = int_bit_or w32 a b
int_calculated Ixor a b = int_bit_xor w32 a b

abbrev pub calculated_long : LongOperator → ℤ → ℤ → ℤ
calculated_long Ladd a b = wrapped_sum w64 a b
calculated_long Lsub a b = wrapped_difference w64 a b
calculated_long Lmul a b = wrapped_product w64 a b
calculated_long Land a b = int_bit_and w64 a b
calculated_long Lor a b = int_bit_or w64 a b
calculated_long Lxor a b = int_bit_xor w64 a b

abbrev pub long_shifted : LongShift → ℤ → ℤ → ℤ
long_shifted Lshl a n = shifted_left w64 a n
long_shifted Lshr a n = shifted_right w64 a n
long_shifted Lushr a n = shifted_right_unsigned w64 a n

abbrev pub divided_by : Division → Width → ℤ → ℤ → ℤ
divided_by Quotient w a b = wrapped_quotient w a b
divided_by Remainder w a b = int_rem a b

-- none where the divisor is 0
abbrev pub number_divided : Division → Width → ℤ → ℤ → Option ℤ
number_divided op w a b = if int_eq b (pos 0) then None else Some (divided_by op w a b)

abbrev pub of_int : OfInt → ℤ → Datum
of_int Ineg n = datum.Int (wrapped_negation w32 n)
of_int I2l n = datum.Long n
of_int I2b n = datum.Int (int_wrap w8 n)
of_int I2c n = datum.Int (zero_extended w16 n)
of_int I2s n = datum.Int (int_wrap w16 n)

abbrev pub of_long : OfLong → ℤ → Datum
of_long Lneg n = datum.Long (wrapped_negation w64 n)
of_long L2i n = datum.Int (int_wrap w32 n)

abbrev pub calculates : IntOperator → Locals → Operands → Outcome
calculates op l o = replaces 2 (option_map (λ p. Int (int_calculated op p.0 p.1)) (ints_of o)) l o

abbrev pub calculates_long : LongOperator → Locals → Operands → Outcome
calculates_long op l o = replaces 2 (option_map (λ p. Long (calculated_long op p.0 p.1)) (longs_of o)) l o

abbrev pub shifts : LongShift → Locals → Operands → Outcome
shifts op l o = replaces 2 (option_map (λ p. Long (long_shifted op p.0 p.1)) (long_and_int_of o)) l o

abbrev pub compares_longs : Locals → Operands → Outcome
compares_longs l o = replaces 2 (option_map (λ p. Int (comparison p.0 p.1)) (longs_of o)) l o

abbrev pub arithmetic_exception : List ℕ
arithmetic_exception = codes "java/lang/ArithmeticException"

-- its message
abbrev pub by_zero : List ℕ
by_zero = codes "/ by zero"

abbrev pub divides_these : Option (Option Value) → Locals → Operands → Outcome
divides_these None l o = Breaks false
divides_these (Some None) l o = Raises arithmetic_exception (Some by_zero)
divides_these (Some (Some v)) l o = GoesOn l (v ∷ drop 2 o) Next

abbrev pub divides_ints : Division → Locals → Operands → Outcome
divides_ints op l o = divides_these (option_map (λ p. option_map Int (number_divided op w32 p.0 p.1)) (ints_of o)) l o

abbrev pub divides_longs : Division → Locals → Operands → Outcome
divides_longs op l o = divides_these (option_map (λ p. option_map Long (number_divided op w64 p.0 p.1)) (longs_of o)) l o

abbrev pub converts_int : OfInt → Locals → Operands → Outcome
converts_int op l o = replaces 1 (option_map (λ n. as_value (of_int op n)) (int_of o)) l o

abbrev pub converts_long : OfLong → Locals → Operands → Outcome
converts_long op l o = replaces 1 (option_map (λ n. as_value (of_long op n)) (long_of o)) l o

-- ---- branches

abbrev pub compares : Comparison → ℤ → ℤ → Bool
compares Equal a b = int_eq a b
compares NotEqual a b = not (int_eq a b)
compares Less a b = int_lt a b
compares AtLeast a b = not (int_lt a b)
compares Greater a b = int_lt b a
compares AtMost a b = not (int_lt b a)

abbrev pub is_same : Bool → Bool → Bool
is_same true b = b
is_same false b = not b

-- whether the test holds, where the operands are of its kind
abbrev pub holds : Test → Operands → Option Bool
holds (WithZero c) o = option_map (λ n. compares c n (pos 0)) (int_of o)
holds (OfInts c) o = option_map (λ p. compares c p.0 p.1) (ints_of o)
holds (OfReferences same) o = option_map (λ p. is_same same (p.0 == p.1)) (refs_of o)
holds (IsNull null) o = option_map (λ r. is_same null (r == 0)) (ref_of o)

-- how many operands it takes
abbrev pub tests : Test → ℕ
tests (WithZero c) = 1
tests (OfInts c) = 2
tests (OfReferences same) = 2
tests (IsNull null) = 1

-- at the first target where it holds
abbrev pub where_if : Bool → Where
where_if true = Target 0
where_if false = Next

abbrev pub goes_if : Option Bool → ℕ → Locals → Operands → Outcome
goes_if None taken l o = Breaks false
goes_if (Some b) taken l o = GoesOn l (drop taken o) (where_if b)

abbrev pub branches : Test → Locals → Operands → Outcome
branches test l o = goes_if (holds test o) (tests test) l o

-- ---- switches: which target, the default being the first

-- at this distance from the lowest number
abbrev pub target_at : ℕ → ℤ → ℕ
target_at count (pos k) = if nat_lt k count then suc k else 0
target_at count (negsuc k) = 0

-- that of the first key that is the number, the targets of the keys being numbered from this one on
abbrev pub target_of : List ℤ → ℕ → ℤ → ℕ
target_of [] k n = 0
target_of (key ∷ keys) k n = if int_eq key n then k else target_of keys (suc k) n

abbrev pub target_by : Keys → ℤ → ℕ
target_by (Consecutive low count) n = target_at count (n -ℤ low)
target_by (Listed keys) n = target_of keys 1 n

abbrev pub switches_on : Keys → Option ℤ → Locals → Operands → Outcome
switches_on keys None l o = Breaks false
switches_on keys (Some n) l o = GoesOn l (drop 1 o) (Target (target_by keys n))

abbrev pub switches : Keys → Locals → Operands → Outcome
switches keys l o = switches_on keys (int_of o) l o

-- ---- subroutines and returns

abbrev pub goes_back : Option Value → Locals → Operands → Outcome
goes_back (Some (Addr t)) l o = GoesOn l o (Back t)
goes_back _ l o = Breaks false

abbrev pub returns_datum : Option Datum → Outcome
returns_datum None = Breaks true
returns_datum (Some d) = Returns (Some d)

abbrev pub returns : Option Kind → Operands → Outcome
returns None o = Returns None
returns (Some k) [] = Breaks true
returns (Some k) (v ∷ below) = returns_datum (datum_of k v)

-- ---- every instruction

abbrev pub within : Local → Locals → Operands → Outcome
within Nop l o = GoesOn l o Next
within (Constant d) l o = GoesOn l (as_value d ∷ o) Next
within (Load k slot) l o = pushes (local_loaded k (slice_get l slot)) l o
within (Store k slot) l o = stores k slot l o
within (ManageStack op) l o = leaves (managed_stack (forms_of op) o) l
within (BinaryOfInts op) l o = calculates op l o
within (BinaryOfLongs op) l o = calculates_long op l o
within (DivisionOfInts op) l o = divides_ints op l o
within (DivisionOfLongs op) l o = divides_longs op l o
within (ShiftOfLong op) l o = shifts op l o
within (UnaryOfInt op) l o = converts_int op l o
within (UnaryOfLong op) l o = converts_long op l o
within Lcmp l o = compares_longs l o
within (Iinc slot d) l o = increments slot d (local_in l slot) l o
within (Branch test) l o = branches test l o
within Goto l o = GoesOn l o (Target 0)
within (Switch keys) l o = switches keys l o
within Jsr l o = Subroutine
within (Ret slot) l o = goes_back (local_in l slot) l o
within (Return k) l o = returns k o
