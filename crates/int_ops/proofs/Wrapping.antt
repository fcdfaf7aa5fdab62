-- What std's methods on int and long answer, as `int_wrap` of a whole number.
use Rattle.std.proofs.Common.{◌≡◌, ℕ, suc, ◌-◌, ◌*◌, ◌/◌, ◌%◌, ◌^◌, ◌<◌, ◌≤◌, ℤ, pos, negsuc, ◌+ℤ◌, ◌*ℤ◌, sym, ap, ◌∙◌, refl, arith, int_div, int_rem, unsigned_abs, bit_and, FitsSigned, mod-eq_of_lt, div-le_self, lt_of_le_of_lt, le_trans, lt_trans, pow_pos, lit<, w8, w64}
use Rattle.std.specs.Int.{Width, w16, w32, w128, cast_signed, cast_unsigned, int_rem_euclid, int_wrap}
use Rattle.std.proofs.lemmas.Int.{ints, to_z-of_z, int_wrap_fits, int_wrap-add_left, int_wrap-add_same, int_wrap-mul_left, int_rem_euclid_is, quot-rem}
use Rattle.std.proofs.lemmas.Nat.{and_mask}
use mir.Val.{bits, hbits}
use lib.Signed.{nat_abs-le}
use mir.ValLaws.{of_z_fits}

-- a number of no more bits than the width has, read with its sign
pub int_wrap-pos : (w : Width) (n : ℕ) → n < 2 ^ bits w → int_wrap w (pos n) ≡ cast_signed w n
unfolding int_wrap
int_wrap-pos w n h = ap (cast_signed w) (mod-eq_of_lt h)

pub int_wrap-cast_unsigned : (w : Width) (a : ℤ) → FitsSigned w a → int_wrap w (pos (cast_unsigned w a)) ≡ a
int_wrap-cast_unsigned w a f = int_wrap-pos w _ (of_z_fits w a f).fits ∙ to_z-of_z w a f

-- the product of the unsigned value is that of the number
pub product-cast_unsigned : (w : Width) (a : ℤ) (m : ℕ) → FitsSigned w a → cast_signed w ((cast_unsigned w a * m) % 2 ^ bits w) ≡ int_wrap w (a *ℤ pos m)
unfolding int_wrap
product-cast_unsigned w a m f =
    sym (int_wrap-mul_left w (pos (cast_unsigned w a)) (pos m)) ∙ ap (λ z. int_wrap w (z *ℤ pos m)) (int_wrap-cast_unsigned w a f)

-- the law of division, whatever the width does to the quotient
pub dividend_is : (w : Width) (a b : ℤ) → FitsSigned w a → int_wrap w (int_wrap w (int_wrap w (int_div a b) *ℤ b) +ℤ int_rem a b) ≡ a
dividend_is w a b f =
    int_wrap-add_left w (int_wrap w (int_div a b) *ℤ b) (int_rem a b)
    ∙ int_wrap-add_same w (int_wrap w (int_div a b) *ℤ b) (int_div a b *ℤ b) (int_rem a b) (int_wrap-mul_left w (int_div a b) b)
    ∙ ap (int_wrap w) (quot-rem a b)
    ∙ int_wrap_fits w a f

-- the unsigned value, moved down
pub shift-cast_unsigned : (w : Width) (a : ℤ) (m : ℕ) → FitsSigned w a → cast_signed w (cast_unsigned w a / m) ≡ int_wrap w (pos (cast_unsigned w a / m))
shift-cast_unsigned w a m f = sym (int_wrap-pos w _ (lt_of_le_of_lt (div-le_self (cast_unsigned w a) m) (of_z_fits w a f).fits))

-- a number whose bits are read back with their sign
pub cast_signed-cast_unsigned : (w : Width) (z : ℤ) → unsigned_abs z < 2 ^ bits w → cast_signed w (cast_unsigned w z) ≡ int_wrap w z
unfolding int_wrap
cast_signed-cast_unsigned w (pos n) h = ap (cast_signed w) (sym (mod-eq_of_lt h))
cast_signed-cast_unsigned w (negsuc n) h =
    let below : n < 2 ^ bits w = omega arith in
    let same : 2 ^ bits w - suc n ≡ 2 ^ bits w - 1 - n % 2 ^ bits w = let e = mod-eq_of_lt below in omega (arith, ap (λ k. 2 ^ bits w - 1 - k) e) in
    ap (cast_signed w) same

half_below : (w : Width) → 2 ^ hbits w < 2 ^ bits w
half_below w8 = lit< tt
half_below w16 = lit< tt
half_below w32 = lit< tt
half_below w64 = lit< tt
half_below w128 = lit< tt

-- a quotient is not further from 0 than the dividend
unsigned_abs-int_div : (a b : ℤ) → unsigned_abs (int_div a b) ≤ unsigned_abs a
unsigned_abs-int_div (pos a) (pos b) = div-le_self a b
unsigned_abs-int_div (pos a) (negsuc b) = omega (arith, ints, div-le_self a (suc b))
unsigned_abs-int_div (negsuc a) (pos b) = omega (arith, ints, div-le_self (suc a) b)
unsigned_abs-int_div (negsuc a) (negsuc b) = div-le_self (suc a) (suc b)

pub wrapped_quotient_is : (w : Width) (a b : ℤ) → FitsSigned w a → cast_signed w (cast_unsigned w (int_div a b)) ≡ int_wrap w (int_div a b)
wrapped_quotient_is w a b f = cast_signed-cast_unsigned w (int_div a b) (lt_of_le_of_lt (le_trans (unsigned_abs-int_div a b) (nat_abs-le a f.sfits)) (half_below w))

-- the low bits of a number, with and without their sign
low_bits : (v w : Width) (k : ℕ) (a : ℤ) → 2 ^ bits w ≡ k * 2 ^ bits v → FitsSigned w a → pos (cast_unsigned w a % 2 ^ bits v) ≡ int_rem_euclid a (pos (2 ^ bits v))
low_bits v w k (pos n) e f = refl
low_bits v w k (negsuc n) e f =
    let within : n < 2 ^ bits w = lt_trans f.sfits (half_below w) in
    let below : negsuc n +ℤ pos (k * 2 ^ bits v) ≡ pos (2 ^ bits w - suc n) = omega (arith, ints) in
    sym (int_rem_euclid_is (negsuc n) (pos (2 ^ bits v)) (2 ^ bits v) k (2 ^ bits w - suc n) (pow_pos (bits v)) refl below)

int_wrap-low_bits : (v w : Width) (k : ℕ) (a : ℤ) → 2 ^ bits w ≡ k * 2 ^ bits v → FitsSigned w a → cast_signed v (bit_and (cast_unsigned w a) (2 ^ bits v - 1)) ≡ int_wrap v a
unfolding int_wrap
int_wrap-low_bits v w k a e f = ap (cast_signed v) (and_mask (cast_unsigned w a) (bits v) ∙ ap unsigned_abs (low_bits v w k a e f))

pub int_wrap-low_8 : (a : ℤ) → FitsSigned w32 a → cast_signed w8 (bit_and (cast_unsigned w32 a) 255) ≡ int_wrap w8 a
int_wrap-low_8 a f = int_wrap-low_bits w8 w32 (2 ^ 24) a refl f

pub int_wrap-low_16 : (a : ℤ) → FitsSigned w32 a → cast_signed w16 (bit_and (cast_unsigned w32 a) 65535) ≡ int_wrap w16 a
int_wrap-low_16 a f = int_wrap-low_bits w16 w32 (2 ^ 16) a refl f

pub int_wrap-low_32 : (a : ℤ) → FitsSigned w64 a → cast_signed w32 (bit_and (cast_unsigned w64 a) 4294967295) ≡ int_wrap w32 a
int_wrap-low_32 a f = int_wrap-low_bits w32 w64 (2 ^ 32) a refl f

-- what the functions' attributes name, since a dash cannot stand there: shl; div; the laws of ushr and of division;
-- l2i, i2b and i2s
pub ruleset shifts = (to_z-of_z, product-cast_unsigned)

pub ruleset quotients = (to_z-of_z, wrapped_quotient_is)

pub ruleset unsigned_shifts = (to_z-of_z, shift-cast_unsigned)

pub ruleset divisions = (to_z-of_z, dividend_is)

pub ruleset low_parts = (to_z-of_z, int_wrap-low_8, int_wrap-low_16, int_wrap-low_32)
