-- A class and those above it.
use Rattle.std.proofs.Common.{◌≡◌, ℕ, suc, ◌+◌, ◌-◌, ◌<◌, ◌≢◌, true, false, if◌then◌else◌, refl, sym, ap, ◌∙◌, arith}
use Rattle.std.specs.Prelude.{Option, Some, ◌==◌}
use Rattle.std.specs.Option.{option_map_or}
use Rattle.std.proofs.lemmas.Bool.{ne_eqb}
use Rattle.native_effects.specs.Inputs.KindsViews.{is_among}

step : (above : ℕ → Option ℕ) (n lower upper : ℕ) → is_among above (suc n) lower upper
    ≡ (if lower == upper then true else option_map_or (λ k. is_among above n k upper) (above lower) false)
unfolding is_among
step above n lower upper = refl

-- one class of so many, and the rest
pub among_step : (above : ℕ → Option ℕ) (gone lower upper : ℕ) → gone < 16777216 → is_among above (16777216 - gone) lower upper
    ≡ (if lower == upper then true else option_map_or (λ k. is_among above (16777216 - (gone + 1)) k upper) (above lower) false)
among_step above gone lower upper h =
    let less : 16777216 - gone ≡ suc (16777216 - (gone + 1)) = omega (arith, h) in
    ap (λ n. is_among above n lower upper) less ∙ step above (16777216 - (gone + 1)) lower upper

-- none is left
pub among_none : (above : ℕ → Option ℕ) (lower upper : ℕ) → is_among above 0 lower upper ≡ false
unfolding is_among
among_none above lower upper = refl

-- a class that is not the one that is sought, and what is above it
pub among_above : (above : ℕ → Option ℕ) (gone lower upper next : ℕ) → gone < 16777216 → lower ≢ upper → Some next ≡ above lower
    → is_among above (16777216 - (gone + 1)) next upper ≡ is_among above (16777216 - gone) lower upper
among_above above gone lower upper next within apart is =
    let other : (lower == upper) ≡ false = ne_eqb lower upper apart in
    sym (among_step above gone lower upper within
    ∙ (ap (λ b. if b then true else option_map_or (λ k. is_among above (16777216 - (gone + 1)) k upper) (above lower) false) other
    ∙ ap (λ o. option_map_or (λ k. is_among above (16777216 - (gone + 1)) k upper) o false) (sym is)))
