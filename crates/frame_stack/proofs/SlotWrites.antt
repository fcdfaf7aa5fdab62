-- Slots that are written behind others.
use Rattle.std.proofs.Common.{◌≡◌, ℕ, zero, suc, ◌+◌, ◌<◌, true, false, List, [], ◌∷◌, ◌++◌, length, take, drop, refl, sym, ap, ◌∙◌, arith}
use Rattle.std.specs.Prelude.{slice_get, slice_set, Option, Some, None}
use Rattle.std.specs.Option.{option_flatten}
use Rattle.std.proofs.lemmas.List.{take-append-drop}
use Rattle.heap_objects.specs.declared.Value.{Value}
use Rattle.frame_stack.specs.Widths.{is_long}
use Rattle.frame_stack.specs.FrameLists.{is_long_slot, without_long_before, with_value}

module _ {X : Type 0} where
  set-behind : (b k : ℕ) (xs : List X) (y : X) → slice_set xs (b + k) y ≡ take b xs ++ slice_set (drop b xs) k y
  set-behind zero k xs y = let at : zero + k ≡ k = omega arith in ap (λ n. slice_set xs n y) at
  set-behind (suc b) k [] y = refl
  set-behind (suc b) k (x ∷ xs) y = let at : suc b + k ≡ suc (b + k) = omega arith in ap (λ n. slice_set (x ∷ xs) n y) at ∙ ap (λ ys. x ∷ ys) (set-behind b k xs y)

  get-behind : (b k : ℕ) (xs : List X) → slice_get xs (b + k) ≡ slice_get (drop b xs) k
  get-behind zero k xs = let at : zero + k ≡ k = omega arith in ap (slice_get xs) at
  get-behind (suc b) k [] = refl
  get-behind (suc b) k (x ∷ xs) = let at : suc b + k ≡ suc (b + k) = omega arith in ap (slice_get (x ∷ xs)) at ∙ get-behind b k xs

  set-after : (b k : ℕ) (front back : List X) (y : X) → length front ≡ b → slice_set (front ++ back) (b + k) y ≡ front ++ slice_set back k y
  set-after b k [] back y long = let at : b + k ≡ k = omega arith in ap (λ n. slice_set back n y) at
  set-after zero k (x ∷ front) back y long = absurd (omega arith)
  set-after (suc b) k (x ∷ front) back y long =
      let at : suc b + k ≡ suc (b + k) = omega arith in
      ap (λ n. slice_set (x ∷ front ++ back) n y) at ∙ ap (λ ys. x ∷ ys) (set-after b k front back y (omega arith))

-- a long before the slot is taken away
pub unpaired : (b slot at : ℕ) (xs : List (Option Value)) (v : Value) → 0 < slot → at + 1 ≡ b + slot → option_flatten (slice_get xs at) ≡ Some v → is_long v ≡ true
    → slice_set xs at None ≡ take b xs ++ without_long_before slot (drop b xs)
unpaired b zero at xs v some place there long = absurd (omega arith)
unpaired b (suc k) at xs v some place there long =
    let is : at ≡ b + k = omega arith in
    let here : option_flatten (slice_get (drop b xs) k) ≡ Some v = ap option_flatten (sym (get-behind b k xs)) ∙ (ap (λ n. option_flatten (slice_get xs n)) (sym is) ∙ there) in
    ap (λ n. slice_set xs n None) is ∙ (set-behind b k xs None ∙ rw (here, long) refl)

pub not-paired : (b slot at : ℕ) (xs : List (Option Value)) → 0 < slot → at + 1 ≡ b + slot → is_long_slot (option_flatten (slice_get xs at)) ≡ false
    → xs ≡ take b xs ++ without_long_before slot (drop b xs)
not-paired b zero at xs some place short = absurd (omega arith)
not-paired b (suc k) at xs some place short =
    let is : at ≡ b + k = omega arith in
    let here : is_long_slot (option_flatten (slice_get (drop b xs) k)) ≡ false = ap (λ x. is_long_slot (option_flatten x)) (sym (get-behind b k xs)) ∙ (ap (λ n. is_long_slot (option_flatten (slice_get xs n))) (sym is) ∙ short) in
    rw here (sym (take-append-drop b xs))

pub stored-long : (b slot : ℕ) (front back : List (Option Value)) (v : Value) → length front ≡ b → is_long v ≡ true
    → slice_set (slice_set (front ++ back) (b + slot) (Some v)) (b + slot + 1) None ≡ front ++ with_value slot v back
stored-long b slot front back v at long =
    let next : b + slot + 1 ≡ b + (slot + 1) = omega arith in
    ap (λ ys. slice_set ys (b + slot + 1) None) (set-after b slot front back (Some v) at)
    ∙ (ap (λ n. slice_set (front ++ slice_set back slot (Some v)) n None) next
    ∙ (set-after b (slot + 1) front (slice_set back slot (Some v)) None at ∙ rw long refl))

pub stored-short : (b slot : ℕ) (front back : List (Option Value)) (v : Value) → length front ≡ b → is_long v ≡ false
    → slice_set (front ++ back) (b + slot) (Some v) ≡ front ++ with_value slot v back
stored-short b slot front back v at short = set-after b slot front back (Some v) at ∙ rw short refl
