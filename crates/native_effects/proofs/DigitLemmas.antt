-- Numbers that digits write.
use Rattle.std.proofs.Common.{◌≡◌, ℕ, ◌+◌, ◌-◌, ◌*◌, ◌<◌, List, [], ◌∷◌, Bool, true, false, if◌then◌else◌, length, refl, ap, ◌∙◌, arith, get_or, drop}
use Rattle.std.specs.Prelude.{Some, None, nat_le}
use Rattle.native_effects.specs.Inputs.Parsing.{is_digit, read_digits, up_to}
use Rattle.native_effects.proofs.ListLemmas.{drop_is}

beyond : (greatest n : ℕ) → greatest < n → nat_le n greatest ≡ false
beyond greatest n h = grind arith

-- a number that is too great already stays so
pub too_great : (greatest n : ℕ) (units : List ℕ) → greatest < n → up_to greatest (read_digits n units) ≡ None
too_great greatest n [] h = ap (λ b. if b then Some n else None) (beyond greatest n h)
too_great greatest n (u ∷ units) h = chosen (is_digit u) (too_great greatest (n * 10 + (u - 48)) units (omega (arith, h)))
  where
    chosen : (b : Bool) → up_to greatest (read_digits (n * 10 + (u - 48)) units) ≡ None
        → up_to greatest (if b then read_digits (n * 10 + (u - 48)) units else None) ≡ None
    chosen true more = more
    chosen false more = refl

-- one digit more is too much
pub digit_too_great : (greatest n i : ℕ) (units : List ℕ) (u d : ℕ) → i < length units → u ≡ get_or units i d → is_digit u ≡ true
    → greatest < n * 10 + (u - 48) → up_to greatest (read_digits n (drop i units)) ≡ None
digit_too_great greatest n i units u d within is digit h =
    ap (λ us. up_to greatest (read_digits n us)) (drop_is i units u d within is)
    ∙ (ap (λ b. up_to greatest (if b then read_digits (n * 10 + (u - 48)) (drop (i + 1) units) else None)) digit
    ∙ too_great greatest (n * 10 + (u - 48)) (drop (i + 1) units) h)
