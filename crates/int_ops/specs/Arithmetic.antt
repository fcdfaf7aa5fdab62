-- What the int and long instructions of the JVM give, as whole numbers (JVM Specification, SE 7, 2.11.3, 2.11.4 and
-- chapter 6). Each meaning is stated once, over the width: `w32` is an int and `w64` a long. Two's complement is std's:
-- `int_wrap w z` is the one number of the width that differs from z by a multiple of 2 ^ (bits w), and `cast_unsigned w
-- a` is the unsigned value of the bits that stand for a.
use Rattle.std.specs.Prelude.{ℕ, ◌-◌, ◌/◌, ◌%◌, ◌^◌, ℤ, pos, ◌+ℤ◌, ◌-ℤ◌, ◌*ℤ◌, neg_ℤ, int_div}
use Rattle.std.specs.Int.{Width, w32, cast_signed, cast_unsigned, int_rem_euclid, int_shr, int_signum, int_wrap}
use mir.Val.{bits}

-- iadd, ladd; isub, lsub; imul, lmul; ineg, lneg
abbrev pub wrapped_sum : Width → ℤ → ℤ → ℤ
wrapped_sum w a b = int_wrap w (a +ℤ b)

abbrev pub wrapped_difference : Width → ℤ → ℤ → ℤ
wrapped_difference w a b = int_wrap w (a -ℤ b)

abbrev pub wrapped_product : Width → ℤ → ℤ → ℤ
wrapped_product w a b = int_wrap w (a *ℤ b)

abbrev pub wrapped_negation : Width → ℤ → ℤ
wrapped_negation w a = int_wrap w (neg_ℤ a)

-- idiv, ldiv: rounded toward zero, and wrapped, which changes the least value divided by -1 alone.
-- irem and lrem are std's `int_rem`, which has the dividend's sign.
abbrev pub wrapped_quotient : Width → ℤ → ℤ → ℤ
wrapped_quotient w a b = int_wrap w (int_div a b)

-- the least value of the width, which divided by -1 is itself
abbrev pub least_value : Width → ℤ
least_value w = neg_ℤ (pos (2 ^ (bits w - 1)))

-- how far a shift moves: the low 5 bits of n for an int, the low 6 for a long
abbrev pub shift_distance : Width → ℤ → ℕ
shift_distance w n = cast_unsigned w32 n % bits w

-- ishl, lshl: a product with a power of two
abbrev pub shifted_left : Width → ℤ → ℤ → ℤ
shifted_left w a n = int_wrap w (a *ℤ pos (2 ^ shift_distance w n))

-- ishr, lshr: a quotient by a power of two, rounded down
abbrev pub shifted_right : Width → ℤ → ℤ → ℤ
shifted_right w a n = int_shr a (shift_distance w n)

-- iushr, lushr: the bits moved down, with zeros above them
abbrev pub shifted_right_unsigned : Width → ℤ → ℤ → ℤ
shifted_right_unsigned w a n = cast_signed w (cast_unsigned w a / 2 ^ shift_distance w n)

-- lcmp: -1, 0 or 1 where a is less than b, equal to it or greater
abbrev pub comparison : ℤ → ℤ → ℤ
comparison a b = int_signum (a -ℤ b)

-- i2c: the low bits of a with zeros above them. l2i, i2b and i2s are `int_wrap`, the low bits with their sign.
abbrev pub zero_extended : Width → ℤ → ℤ
zero_extended w a = int_rem_euclid a (pos (2 ^ bits w))
