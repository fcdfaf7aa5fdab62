-- Corner cases of the instructions' pages in the JVM Specification, SE 7, chapter 6.
use Rattle.std.proofs.Common.{◌≡◌, refl}
use Rattle.std.specs.Prelude.{pos, negsuc, int_rem, ℤ}
use Rattle.std.specs.Int.{w8, w16, w32, w64, int_wrap, int_bit_and, int_bit_or, int_bit_xor}
use Rattle.int_ops.specs.Arithmetic.{wrapped_sum, wrapped_difference, wrapped_product, wrapped_negation, wrapped_quotient, shifted_left, shifted_right, shifted_right_unsigned, comparison, zero_extended}

-- the least int and the greatest, and those of long
abbrev least : ℤ
least = negsuc 2147483647

abbrev greatest : ℤ
greatest = pos 2147483647

abbrev least_long : ℤ
least_long = negsuc 9223372036854775807

abbrev greatest_long : ℤ
greatest_long = pos 9223372036854775807

-- ---- ints

iadd : wrapped_sum w32 greatest (pos 1) ≡ least
unfolding int_wrap
iadd = refl

isub : wrapped_difference w32 least (pos 1) ≡ greatest
unfolding int_wrap
isub = refl

imul : wrapped_product w32 (pos 65536) (pos 65537) ≡ pos 65536
unfolding int_wrap
imul = refl

iand : int_bit_and w32 (negsuc 3) (pos 6) ≡ pos 4
unfolding int_wrap
iand = refl

ior : int_bit_or w32 (negsuc 3) (pos 6) ≡ negsuc 1
unfolding int_wrap
ior = refl

ixor : int_bit_xor w32 (negsuc 3) (pos 6) ≡ negsuc 5
unfolding int_wrap
ixor = refl

ineg : wrapped_negation w32 least ≡ least
unfolding int_wrap
ineg = refl

ishl : shifted_left w32 (pos 3) (pos 33) ≡ pos 6
unfolding int_wrap
ishl = refl

ishr : shifted_right w32 (negsuc 2) (pos 33) ≡ negsuc 1
unfolding int_wrap
ishr = refl

iushr : shifted_right_unsigned w32 (negsuc 0) (pos 31) ≡ pos 1
unfolding int_wrap
iushr = refl

iushr_by_32 : shifted_right_unsigned w32 (negsuc 0) (pos 32) ≡ negsuc 0
unfolding int_wrap
iushr_by_32 = refl

iushr_by_less : shifted_right_unsigned w32 (negsuc 0) (negsuc 27) ≡ pos 268435455
unfolding int_wrap
iushr_by_less = refl

l2i : int_wrap w32 (pos 4294967301) ≡ pos 5
unfolding int_wrap
l2i = refl

i2b : int_wrap w8 (pos 128) ≡ negsuc 127
unfolding int_wrap
i2b = refl

i2c : zero_extended w16 (negsuc 0) ≡ pos 65535
unfolding int_wrap
i2c = refl

i2s : int_wrap w16 (pos 32768) ≡ negsuc 32767
unfolding int_wrap
i2s = refl

lcmp_less : comparison least_long greatest_long ≡ negsuc 0
unfolding int_wrap
lcmp_less = refl

lcmp_greater : comparison greatest_long least_long ≡ pos 1
unfolding int_wrap
lcmp_greater = refl

lcmp_equal : comparison least_long least_long ≡ pos 0
unfolding int_wrap
lcmp_equal = refl

-- ---- longs

ladd : wrapped_sum w64 greatest_long (pos 1) ≡ least_long
unfolding int_wrap
ladd = refl

lsub : wrapped_difference w64 least_long (pos 1) ≡ greatest_long
unfolding int_wrap
lsub = refl

lmul : wrapped_product w64 (pos 4294967296) (pos 4294967297) ≡ pos 4294967296
unfolding int_wrap
lmul = refl

land : int_bit_and w64 (negsuc 3) (pos 6) ≡ pos 4
unfolding int_wrap
land = refl

lor : int_bit_or w64 (negsuc 3) (pos 6) ≡ negsuc 1
unfolding int_wrap
lor = refl

lxor : int_bit_xor w64 (negsuc 3) (pos 6) ≡ negsuc 5
unfolding int_wrap
lxor = refl

lneg : wrapped_negation w64 least_long ≡ least_long
unfolding int_wrap
lneg = refl

lshl : shifted_left w64 (pos 3) (pos 65) ≡ pos 6
unfolding int_wrap
lshl = refl

lshr : shifted_right w64 (negsuc 2) (pos 65) ≡ negsuc 1
unfolding int_wrap
lshr = refl

lushr : shifted_right_unsigned w64 (negsuc 0) (pos 31) ≡ pos 8589934591
unfolding int_wrap
lushr = refl

lushr_by_32 : shifted_right_unsigned w64 (negsuc 0) (pos 32) ≡ pos 4294967295
unfolding int_wrap
lushr_by_32 = refl

lushr_by_64 : shifted_right_unsigned w64 (negsuc 0) (pos 64) ≡ negsuc 0
unfolding int_wrap
lushr_by_64 = refl

-- ---- quotients, rounded toward zero, and remainders with the dividend's sign

both_positive : wrapped_quotient w32 (pos 7) (pos 3) ≡ pos 2
unfolding int_wrap
both_positive = refl

negative_divisor : wrapped_quotient w32 (pos 7) (negsuc 2) ≡ negsuc 1
unfolding int_wrap
negative_divisor = refl

negative_dividend : wrapped_quotient w32 (negsuc 6) (pos 3) ≡ negsuc 1
unfolding int_wrap
negative_dividend = refl

both_negative : wrapped_quotient w32 (negsuc 6) (negsuc 2) ≡ pos 2
unfolding int_wrap
both_negative = refl

least_by_less : wrapped_quotient w32 least (negsuc 0) ≡ least
unfolding int_wrap
least_by_less = refl

both_positive_longs : wrapped_quotient w64 (pos 7) (pos 3) ≡ pos 2
unfolding int_wrap
both_positive_longs = refl

negative_divisor_long : wrapped_quotient w64 (pos 7) (negsuc 2) ≡ negsuc 1
unfolding int_wrap
negative_divisor_long = refl

negative_dividend_long : wrapped_quotient w64 (negsuc 6) (pos 3) ≡ negsuc 1
unfolding int_wrap
negative_dividend_long = refl

both_negative_longs : wrapped_quotient w64 (negsuc 6) (negsuc 2) ≡ pos 2
unfolding int_wrap
both_negative_longs = refl

least_long_by_less : wrapped_quotient w64 least_long (negsuc 0) ≡ least_long
unfolding int_wrap
least_long_by_less = refl

halved : wrapped_quotient w32 (negsuc 6) (pos 2) ≡ negsuc 2
unfolding int_wrap
halved = refl

remainder : int_rem (pos 7) (pos 3) ≡ pos 1
unfolding int_wrap
remainder = refl

remainder_by_negative : int_rem (pos 7) (negsuc 2) ≡ pos 1
unfolding int_wrap
remainder_by_negative = refl

remainder_of_negative : int_rem (negsuc 6) (pos 3) ≡ negsuc 0
unfolding int_wrap
remainder_of_negative = refl

remainder_of_negatives : int_rem (negsuc 6) (negsuc 2) ≡ negsuc 0
unfolding int_wrap
remainder_of_negatives = refl

remainder_of_least : int_rem least (negsuc 0) ≡ pos 0
unfolding int_wrap
remainder_of_least = refl

remainder_of_least_long : int_rem least_long (negsuc 0) ≡ pos 0
unfolding int_wrap
remainder_of_least_long = refl

remainder_of_half : int_rem (negsuc 6) (pos 2) ≡ negsuc 0
unfolding int_wrap
remainder_of_half = refl
