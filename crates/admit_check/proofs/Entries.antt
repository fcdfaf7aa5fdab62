-- Whether an entry of a list passes a test, found from its front.
use Rattle.std.proofs.Common.{◌≡◌, ℕ, zero, suc, ◌+◌, ◌<◌, Bool, true, false, List, [], ◌∷◌, length, drop, refl, sym, ap, ◌∙◌, arith}
use Rattle.std.specs.Prelude.{slice_get, ◌||◌}
use Rattle.std.specs.Option.{option_map_or}
use Rattle.std.specs.List.{list_any}

any-next : {A : Type 0} (p : A → Bool) (xs : List A) (i : ℕ) → i < length xs → list_any p (drop i xs) ≡ (option_map_or p (slice_get xs i) false || list_any p (drop (suc i) xs))
any-next p [] i within = absurd (omega arith)
any-next p (x ∷ xs) zero within = refl
any-next p (x ∷ xs) (suc i) within = any-next p xs i (omega arith)

-- the entry at this index passes
pub any-stop : {A : Type 0} (p : A → Bool) (xs : List A) (i : ℕ) (found : Bool) → i < length xs → option_map_or p (slice_get xs i) false ≡ true → list_any p (drop i xs) ≡ found → true ≡ found
any-stop p xs i found within passes left = sym (any-next p xs i within ∙ ap (λ b. b || list_any p (drop (suc i) xs)) passes) ∙ left

-- it does not, and those behind it decide
pub any-go_on : {A : Type 0} (p : A → Bool) (xs : List A) (i : ℕ) (found : Bool) → i < length xs → option_map_or p (slice_get xs i) false ≡ false → list_any p (drop i xs) ≡ found → list_any p (drop (i + 1) xs) ≡ found
any-go_on p xs i found within fails left =
    let next : i + 1 ≡ suc i = omega arith in
    ap (λ (n : ℕ). list_any p (drop n xs)) next ∙ (sym (any-next p xs i within ∙ ap (λ b. b || list_any p (drop (suc i) xs)) fails) ∙ left)
