-- The hash of a text, unit by unit, and texts of which one has ended.
use Rattle.std.proofs.Common.{◌≡◌, ℕ, ◌+◌, ◌*◌, ◌^◌, ◌<◌, ◌≤◌, List, [], ◌∷◌, length, refl, sym, ap, ◌∙◌, arith, get_or, drop}
use Rattle.std.specs.Prelude.{◌%◌, None}
use Rattle.std.proofs.Math.Nat.{add-mul, mod-add-mod, pow-succ'}
use Rattle.std.proofs.lemmas.Nat.{mul-mod_first}
use Rattle.std.proofs.lemmas.List.{drop_all, length-drop}
use Rattle.native_effects.proofs.ListLemmas.{drop_is}
use Rattle.native_effects.specs.Inputs.Texts.{units_weighted, first_difference}
use Rattle.native_effects.specs.Inputs.Places.{pair_from}

reduced : (a w r m : ℕ) → (a % m * w + r) % m ≡ (a * w + r) % m
reduced a w r m =
    sym (mod-add-mod (a % m * w) m r) ∙ (ap (λ k. (k + r) % m) (mul-mod_first a w m) ∙ mod-add-mod (a * w) m r)

pub mod_step : (s u w r m : ℕ) → (s * (31 * w) + (u * w + r)) % m ≡ ((s * 31 % m + u) % m * w + r) % m
mod_step s u w r m =
    let spread : (s * 31 % m + u) * w + r ≡ s * 31 % m * w + (u * w + r) = omega (arith, add-mul (s * 31 % m) u w) in
    let same : s * 31 * w ≡ s * (31 * w) = grind arith in
    sym (reduced (s * 31 % m + u) w r m
    ∙ (ap (λ k. k % m) spread ∙ (reduced (s * 31) w (u * w + r) m ∙ ap (λ k. (k + (u * w + r)) % m) same)))

step : (s u : ℕ) (units : List ℕ) → (s * 31 ^ length (u ∷ units) + units_weighted (u ∷ units)) % 4294967296
    ≡ ((s * 31 % 4294967296 + u) % 4294967296 * 31 ^ length units + units_weighted units) % 4294967296
step s u units =
    ap (λ p. (s * p + (u * 31 ^ length units + units_weighted units)) % 4294967296) (pow-succ' 31 (length units))
    ∙ mod_step s u (31 ^ length units) (units_weighted units) 4294967296

-- one unit more is hashed
pub hash_step : (s i : ℕ) (units : List ℕ) (u d : ℕ) → i < length units → u ≡ get_or units i d
    → (s * 31 ^ length (drop i units) + units_weighted (drop i units)) % 4294967296
    ≡ ((s * 31 % 4294967296 + u) % 4294967296 * 31 ^ length (drop (i + 1) units) + units_weighted (drop (i + 1) units)) % 4294967296
hash_step s i units u d within h =
    ap (λ us. (s * 31 ^ length us + units_weighted us) % 4294967296) (drop_is i units u d within h) ∙ step s u (drop (i + 1) units)

none_with : (xs : List ℕ) → first_difference xs [] ≡ None
none_with [] = refl
none_with (x ∷ xs) = refl

-- the other text has ended
pub ended : (i : ℕ) (xs ys : List ℕ) → length ys ≤ i → first_difference (drop i xs) (drop i ys) ≡ None
ended i xs ys h = ap (first_difference (drop i xs)) (drop_all i ys h) ∙ none_with (drop i xs)

short : (first second place : ℕ) (us : List ℕ) → length us ≤ 1 → pair_from first second place us ≡ None
short first second place [] h = refl
short first second place (u ∷ []) h = refl
short first second place (u ∷ v ∷ us) h = absurd (omega (arith, h))

-- fewer than two units are no pair
pub no_pair : (first second place : ℕ) (units : List ℕ) → length units ≤ place + 1 → pair_from first second place (drop place units) ≡ None
no_pair first second place units h = short first second place (drop place units) (omega (arith, length-drop place units))
