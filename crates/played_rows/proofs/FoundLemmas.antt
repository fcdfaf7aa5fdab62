-- What is found for words, one by one.
use Rattle.std.proofs.Common.{◌≡◌, ◌<◌, ◌+◌, ℕ, List, [], ◌∷◌, ◌++◌, drop, length, map, refl, ap, sym, ◌∙◌}
use Rattle.std.specs.Prelude.{Option, Some, None, get_or}
use Rattle.std.specs.Option.{option_and_then, option_map}
use Rattle.std.proofs.lemmas.List.{append_assoc, drop_more}
use Rattle.played_rows.specs.Words.{all_found}

-- what is left is the next and what stands behind it
pub left-more : {A C : Type 0} (f : A → C) (xs : List A) (i : ℕ) (d : A) → i < length xs
    → map f (drop i xs) ≡ f (get_or xs i d) ∷ map f (drop (i + 1) xs)
left-more f xs i d less = ap (map f) (drop_more xs i d less)

-- what is found for those that are left is put behind what was found
module _ {A C B : Type 0} (find : C → Option B) (f : A → C) (xs : List A) (i : ℕ) (d : A) (less : i < length xs)
    (found : List B) (all : Option (List B))
    (before : option_map (λ bs. found ++ bs) (all_found find (map f (drop i xs))) ≡ all) where
  abbrev next : Option B → Option (List B)
  next o =
      option_map (λ bs. found ++ bs)
      (option_and_then (λ b. option_map (λ bs. b ∷ bs) (all_found find (map f (drop (i + 1) xs)))) o)

  by-next : next (find (f (get_or xs i d))) ≡ all
  by-next = ap (λ cs. option_map (λ bs. found ++ bs) (all_found find cs)) (sym (left-more f xs i d less)) ∙ before

  -- something is found for the next
  pub found-more : (b : B) (new : List B) → find (f (get_or xs i d)) ≡ Some b → new ≡ found ++ b ∷ []
      → option_map (λ bs. new ++ bs) (all_found find (map f (drop (i + 1) xs))) ≡ all
  found-more b new has put =
      ap (λ bs. option_map (λ more. bs ++ more) (all_found find (map f (drop (i + 1) xs)))) put
      ∙ (by (all_found find (map f (drop (i + 1) xs))) ∙ (ap next (sym has) ∙ by-next))
    where
      by : (rest : Option (List B)) → option_map (λ bs. (found ++ b ∷ []) ++ bs) rest
          ≡ option_map (λ bs. found ++ bs) (option_map (λ bs. b ∷ bs) rest)
      by None = refl
      by (Some bs) = ap Some (append_assoc found (b ∷ []) bs)

  -- or nothing is
  pub found-none : find (f (get_or xs i d)) ≡ None → None ≡ all
  found-none none = ap next (sym none) ∙ by-next
