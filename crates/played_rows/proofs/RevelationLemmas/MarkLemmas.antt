-- Marks that words say, one by one.
use Rattle.std.proofs.Common.{◌≡◌, ◌<◌, ◌+◌, ℕ, zero, suc, Bool, true, false, List, [], ◌∷◌, ◌++◌, drop, length, map, take, refl, ap, sym, ◌∙◌, arith, add-one}
use Rattle.std.specs.Prelude.{Option, Some, None, get_or, if◌then◌else◌}
use Rattle.std.specs.Option.{option_and_then}
use denote.Ref.{Bor}
use Rattle.jvm_model.specs.declared.event.Mark.{Mark}
use Rattle.jvm_model.specs.declared.event.Mark.TheVariants.{Off}
use Rattle.jvm_model.specs.declared.program.Program.{Program}
use Rattle.played_rows.specs.Revelation.Reading.{marks_with, with_mark}
use Rattle.played_rows.proofs.FoundLemmas.{left-more}

-- one method more that is not marked
off-behind : {A : Type 0} (xs : List A) (i : ℕ) → i < length xs
    → map (λ x. Off) (take (suc i) xs) ≡ map (λ x. Off) (take i xs) ++ (Off ∷ [])
off-behind [] i less = absurd (omega (arith, less))
off-behind (x ∷ xs) zero less = refl
off-behind (x ∷ xs) (suc i) less = ap (λ marks. Off ∷ marks) (off-behind xs i (omega (arith, less)))

pub off-more : {A : Type 0} (xs : List A) (i : ℕ) → i < length xs
    → map (λ x. Off) (take i xs) ++ (Off ∷ []) ≡ map (λ x. Off) (take (i + 1) xs)
off-more xs i less = sym (off-behind xs i less) ∙ ap (λ k. map (λ x. Off) (take k xs)) (sym (add-one i))

module _ (p : Program) (marks : List Mark) (words : List (Bor (List ℕ))) (i : ℕ) (d : Bor (List ℕ)) (less : i < length words) where
  abbrev next : Option (List Mark) → Option (List Mark)
  next o = option_and_then (λ ms. marks_with p ms (map (λ w. w.now) (drop (i + 1) words))) o

  pub marked : (new : List Mark) (is : Bool) → with_mark p marks (get_or words i d).now ≡ (if is then Some new else None)
      → marks_with p marks (map (λ w. w.now) (drop i words))
      ≡ (if is then marks_with p new (map (λ w. w.now) (drop (i + 1) words)) else None)
  marked new is said = ap (marks_with p marks) (left-more (λ w. w.now) words i d less) ∙ (ap next said ∙ by is)
    where
      by : (is : Bool) → next (if is then Some new else None)
          ≡ (if is then marks_with p new (map (λ w. w.now) (drop (i + 1) words)) else None)
      by true = refl
      by false = refl
