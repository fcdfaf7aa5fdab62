-- Each path once: one path more at the end, and what is counted of it.
use Rattle.std.proofs.Common.{◌≡◌, ℕ, Bool, true, false, not, ◌||◌, List, [], ◌∷◌, ◌++◌, refl, ap, sym, ◌∙◌, subst, filter, cond, if◌then◌else◌}
use Rattle.std.specs.List.{list_any}
use Rattle.std.proofs.lemmas.List.{append-nil}
use Rattle.std.proofs.lemmas.List.Elements.{filter-append}
use Rattle.jvm_model.specs.Profiling.Paths.{same_path, distinct}
use Rattle.context_tree.proofs.Paths.SamePaths.{same_path-is, same_path-sym}

abbrev pub not_same : List ℕ → List ℕ → Bool
not_same x q = not (same_path x q)

-- taking another path out leaves this one where it stood
pub list_any-filter : (P x : List ℕ) (ys : List (List ℕ)) → same_path P x ≡ false → list_any (same_path P) (filter (not_same x) ys) ≡ list_any (same_path P) ys
list_any-filter P x [] h = refl
list_any-filter P x (y ∷ ys) h = by (same_path x y) refl (list_any-filter P x ys h)
  where
    by : (b : Bool) → same_path x y ≡ b → list_any (same_path P) (filter (not_same x) ys) ≡ list_any (same_path P) ys
        → list_any (same_path P) (cond (not (same_path x y)) (y ∷ filter (not_same x) ys) (filter (not_same x) ys)) ≡ (same_path P y || list_any (same_path P) ys)
    by true e rest =
        let other : same_path P y ≡ false = subst (λ z. same_path P z ≡ false) (same_path-is x y e) h in
        ap (λ b. list_any (same_path P) (cond (not b) (y ∷ filter (not_same x) ys) (filter (not_same x) ys))) e ∙ rest ∙ ap (λ b. b || list_any (same_path P) ys) (sym other)
    by false e rest =
        ap (λ b. list_any (same_path P) (cond (not b) (y ∷ filter (not_same x) ys) (filter (not_same x) ys))) e ∙ ap (λ b. same_path P y || b) rest

pub list_any-distinct : (P : List ℕ) (xs : List (List ℕ)) → list_any (same_path P) (distinct xs) ≡ list_any (same_path P) xs
list_any-distinct P [] = refl
list_any-distinct P (x ∷ xs) = by (same_path P x) refl (list_any-distinct P xs)
  where
    by : (b : Bool) → same_path P x ≡ b → list_any (same_path P) (distinct xs) ≡ list_any (same_path P) xs
        → (same_path P x || list_any (same_path P) (filter (not_same x) (distinct xs))) ≡ (same_path P x || list_any (same_path P) xs)
    by true e rest = ap (λ b. b || list_any (same_path P) (filter (not_same x) (distinct xs))) e ∙ sym (ap (λ b. b || list_any (same_path P) xs) e)
    by false e rest = ap (λ b. same_path P x || b) (list_any-filter P x (distinct xs) e ∙ rest)

distinct-step : (P x : List ℕ) (once : List (List ℕ)) (b a : Bool) → same_path P x ≡ b
    → x ∷ filter (not_same x) (if a then once else once ++ P ∷ []) ≡ (if (b || a) then x ∷ filter (not_same x) once else x ∷ (filter (not_same x) once ++ P ∷ []))
distinct-step P x once true true e = refl
distinct-step P x once true false e =
    let same : same_path x P ≡ true = same_path-sym x P ∙ e in
    ap (λ l. x ∷ l) (filter-append (not_same x) once (P ∷ []) ∙ ap (λ b. filter (not_same x) once ++ cond (not b) (P ∷ []) []) same ∙ append-nil (filter (not_same x) once))
distinct-step P x once false true e = refl
distinct-step P x once false false e =
    let other : same_path x P ≡ false = same_path-sym x P ∙ e in
    ap (λ l. x ∷ l) (filter-append (not_same x) once (P ∷ []) ∙ ap (λ b. filter (not_same x) once ++ cond (not b) (P ∷ []) []) other)

pub distinct-push : (P : List ℕ) (xs : List (List ℕ)) → distinct (xs ++ P ∷ []) ≡ (if list_any (same_path P) xs then distinct xs else distinct xs ++ P ∷ [])
distinct-push P [] = refl
distinct-push P (x ∷ xs) =
    ap (λ l. x ∷ filter (not_same x) l) (distinct-push P xs) ∙ distinct-step P x (distinct xs) (same_path P x) (list_any (same_path P) xs) refl
