-- Words that are numbers.
use Rattle.std.proofs.Common.{◌≡◌, ℕ, ◌<◌, ◌^◌, zero, suc, Bool, true, false, List, length, Option, Some, None, refl, sym, ap, ◌∙◌, arith, rules, subst}
use Rattle.std.specs.Prelude.{ℤ, pos, neg_ℤ, cond, nat_lt, ◌&&◌, if◌then◌else◌}
use Rattle.std.specs.Char.{is_ascii_digit}
use Rattle.std.specs.Int.{w32}
use Rattle.std.proofs.lemmas.Int.{to_z-of_z}
use mir.Val.{of_z, to_z}
use Rattle.std.specs.Int.RustNames.{FitsSigned}
use Rattle.std.specs.List.{list_all}
use Rattle.std.specs.Str.Parse.{IsNumeral, digits_value, signed_digits_value, starts_with_minus, without_leading_plus, without_leading_sign}
use Rattle.std.proofs.lemmas.Bool.{and_parts, leb-true, le-leb, lt-ltb, ltb-true}
use Rattle.std.proofs.lemmas.Str.Parse.{IsNumeralModel, numerals_by_value}
use Rattle.played_rows.specs.Machine.Words.{has_room, is_numeral, number_said, status_said}

digits : IsNumeralModel (λ ds. list_all is_ascii_digit ds ≡ true) (digits_value 10)
digits = numerals_by_value _ (search rules)

both : (a b : Bool) → a ≡ true → b ≡ true → (a && b) ≡ true
both true b is also = also
both false b is also = is

chosen : {A : Type 0} (test : Bool) (a b : Option A) → test ≡ true → (if test then a else b) ≡ a
chosen true a b is = refl
chosen false a b is = absurd cc

other : {A : Type 0} (test : Bool) (a b : Option A) → (test ≡ true → ⊥) → (if test then a else b) ≡ b
other true a b fails = absurd (fails refl)
other false a b fails = refl

numeral : (ds : List ℕ) → IsNumeral 10 ds → is_numeral ds ≡ true
numeral ds is = both (nat_lt 0 (length ds)) (list_all is_ascii_digit ds) (lt-ltb 0 (length ds) is.0) (digits.from ds is.1)

told : (ds : List ℕ) → is_numeral ds ≡ true → IsNumeral 10 ds
told ds is =
    let parts = and_parts (nat_lt 0 (length ds)) (list_all is_ascii_digit ds) is in
    (ltb-true 0 (length ds) parts.0, digits.to ds parts.1)

-- ---- without a sign

pub number-read : (bits : ℕ) (word : List ℕ) (n : ℕ)
    → (IsNumeral 10 (without_leading_plus word) × (digits_value 10 (without_leading_plus word) < 2 ^ bits)) × (n ≡ digits_value 10 (without_leading_plus word))
    → Some n ≡ number_said bits word
unfolding number_said
number-read bits word n is =
    let ds = without_leading_plus word in
    ap Some is.1
    ∙ sym (chosen (is_numeral ds && nat_lt (digits_value 10 ds) (2 ^ bits)) (Some (digits_value 10 ds)) None
    (both (is_numeral ds) (nat_lt (digits_value 10 ds) (2 ^ bits)) (numeral ds is.0.0) (lt-ltb (digits_value 10 ds) (2 ^ bits) is.0.1)))

pub no-number : (bits : ℕ) (word : List ℕ)
    → (IsNumeral 10 (without_leading_plus word) × (digits_value 10 (without_leading_plus word) < 2 ^ bits) → ⊥) → None ≡ number_said bits word
unfolding number_said
no-number bits word fails =
    let ds = without_leading_plus word in
    sym (other (is_numeral ds && nat_lt (digits_value 10 ds) (2 ^ bits)) (Some (digits_value 10 ds)) None (λ is.
    let parts = and_parts (is_numeral ds) (nat_lt (digits_value 10 ds) (2 ^ bits)) is in
    fails (told ds parts.0, ltb-true (digits_value 10 ds) (2 ^ bits) parts.1)))

-- ---- with one

abbrev signed : Bool → ℕ → ℤ
signed minus size = cond minus (neg_ℤ (pos size)) (pos size)

room : (minus : Bool) (size : ℕ) → FitsSigned w32 (signed minus size) → has_room minus size ≡ true
room false size fits = lt-ltb size (2 ^ 31) fits.sfits
room true zero fits = refl
room true (suc n) fits = le-leb (suc n) (2 ^ 31) fits.sfits

fits : (minus : Bool) (size : ℕ) → has_room minus size ≡ true → FitsSigned w32 (signed minus size)
fits false size is = record { sfits = ltb-true size (2 ^ 31) is }
fits true zero is = record { sfits = omega arith }
fits true (suc n) is = record { sfits = leb-true (suc n) (2 ^ 31) is }

pub status-read : (word : List ℕ) (z : ℤ)
    → (IsNumeral 10 (without_leading_sign word) × FitsSigned w32 (signed_digits_value 10 word)) × (z ≡ signed_digits_value 10 word) → Some (to_z w32 (of_z w32 z)) ≡ status_said word
unfolding status_said
status-read word z is =
    let ds = without_leading_sign word in
    let fitting = has_room (starts_with_minus word) (digits_value 10 ds) in
    ap Some (to_z-of_z w32 z (subst (FitsSigned w32) (sym is.1) is.0.1) ∙ is.1)
    ∙ sym (chosen (is_numeral ds && fitting) (Some (signed_digits_value 10 word)) None
    (both (is_numeral ds) fitting (numeral ds is.0.0) (room (starts_with_minus word) (digits_value 10 ds) is.0.1)))

pub no-status : (word : List ℕ)
    → (IsNumeral 10 (without_leading_sign word) × FitsSigned w32 (signed_digits_value 10 word) → ⊥) → None ≡ status_said word
unfolding status_said
no-status word fails =
    let ds = without_leading_sign word in
    let fitting = has_room (starts_with_minus word) (digits_value 10 ds) in
    sym (other (is_numeral ds && fitting) (Some (signed_digits_value 10 word)) None (λ is.
    let parts = and_parts (is_numeral ds) fitting is in
    fails (told ds parts.0, fits (starts_with_minus word) (digits_value 10 ds) parts.1)))
