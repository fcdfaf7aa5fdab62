-- Texts that stand in others, and spans one by one.
use Rattle.std.proofs.Common.{◌≡◌, ◌<◌, ◌+◌, ℕ, zero, suc, Bool, true, false, cond, not, inl, inr, List, [], ◌∷◌, ◌++◌, length, map, drop, refl, ap, ◌∙◌, sym, eqb, arith, add-one}
use Rattle.std.specs.Prelude.{None, codes, get_or}
use Rattle.std.specs.Bool.{MatchBool}
use Rattle.std.specs.List.{filter, flat_map, starts_with}
use Rattle.std.specs.Str.Iter.{HasSubslice}
use Rattle.std.specs.Str.Pattern.{FindsText, HasMatch}
use Rattle.std.proofs.lemmas.Bool.{or_cases, or_left, or_right}
use Rattle.std.proofs.lemmas.Bool.Decides.{same_from_decides, Decides-eqb}
use Rattle.std.proofs.lemmas.List.{append_assoc}
use Rattle.std.proofs.lemmas.Slice.Eq.{starts_is}
use Rattle.std.proofs.lemmas.Str.Pattern.{contains_text}
use Rattle.map_rows.specs.Names.{every_second, stands, stands_in}

-- ---- a text in another

where_it_stands : (n s : List ℕ) → stands_in n s ≡ true → HasSubslice s n
where_it_stands n [] e = ([], drop (length n) [], (starts_is Decides-eqb [] n (starts_with eqb [] n) refl).0 e)
where_it_stands n (x ∷ xs) e = elim (or_cases (starts_with eqb (x ∷ xs) n) (stands_in n xs) e) [
  | inl here ↦ ([], drop (length n) (x ∷ xs), (starts_is Decides-eqb (x ∷ xs) n (starts_with eqb (x ∷ xs) n) refl).0 here)
  | inr later ↦ let found = where_it_stands n xs later in (x ∷ found.0, found.1, ap (λ t. x ∷ t) found.2)
]

it_stands : (n s a b : List ℕ) → s ≡ a ++ (n ++ b) → stands_in n s ≡ true
it_stands n [] [] b e = (starts_is Decides-eqb [] n (starts_with eqb [] n) refl).1 b e
it_stands n [] (y ∷ a) b e = absurd (cc)
it_stands n (x ∷ xs) [] b e =
    or_left (starts_with eqb (x ∷ xs) n) (stands_in n xs) ((starts_is Decides-eqb (x ∷ xs) n (starts_with eqb (x ∷ xs) n) refl).1 b e)
it_stands n (x ∷ xs) (y ∷ a) b e =
    or_right (starts_with eqb (x ∷ xs) n) (stands_in n xs) (it_stands n xs a b (cc))

-- what `contains` answers at the name between its ends
pub stands_is : (r : Bool) (list path name end : List ℕ) → path ≡ codes "/" ++ (name ++ end)
    → MatchBool r (HasMatch (FindsText path) list) (FindsText path list None) → r ≡ stands list name end
stands_is r list path name end is cases =
    let found = contains_text r path list cases in
    same_from_decides r (stands_in path list) (found.0, found.1)
    (where_it_stands path list, λ h. it_stands path list h.0 h.1 h.2)
    ∙ ap (λ p. stands_in p list) is

-- ---- a piece more

module _ (test : List ℕ → Bool) where
  one : (x : List ℕ) (b : Bool) (more : List (List ℕ)) → cond b (x ∷ more) more ≡ cond b (x ∷ []) [] ++ more
  one x true more = refl
  one x false more = refl

  next : (is_span : Bool) (x : List ℕ) (rest : List (List ℕ)) → filter test (every_second is_span (x ∷ rest))
      ≡ filter test (every_second is_span (x ∷ [])) ++ filter test (every_second (not is_span) rest)
  next true x rest = one x (test x) (filter test (every_second false rest))
  next false x rest = refl

  pub piece-next : (all names new : List (List ℕ)) (is_span : Bool) (x : List ℕ) (rest more : List (List ℕ)) → rest ≡ x ∷ more
      → all ≡ names ++ filter test (every_second is_span rest) → new ≡ names ++ filter test (every_second is_span (x ∷ []))
      → all ≡ new ++ filter test (every_second (not is_span) more)
  piece-next all names new is_span x rest more is before put =
      before ∙ (ap (λ r. names ++ filter test (every_second is_span r)) is
      ∙ (ap (λ t. names ++ t) (next is_span x more)
      ∙ (sym (append_assoc names (filter test (every_second is_span (x ∷ []))) (filter test (every_second (not is_span) more)))
      ∙ ap (λ t. t ++ filter test (every_second (not is_span) more)) (sym put))))

pub drop-next : {A : Type 0} (f : A → List ℕ) (xs : List A) (i : ℕ) (x d : A) → i < length xs → x ≡ get_or xs i d
    → map f (drop i xs) ≡ f x ∷ map f (drop (i + 1) xs)
drop-next {A = A} f xs i x d less is = by xs i less is ∙ ap (λ k. f x ∷ map f (drop k xs)) (sym (add-one i))
  where
    by : (xs : List A) (i : ℕ) → i < length xs → x ≡ get_or xs i d → map f (drop i xs) ≡ f x ∷ map f (drop (suc i) xs)
    by [] i less is = absurd (omega (arith, less))
    by (y ∷ ys) zero less is = ap (λ z. f z ∷ map f ys) (sym is)
    by (y ∷ ys) (suc i) less is = by ys i (omega (arith, less)) is

-- ---- a line more

pub line-next : (f : List ℕ → List ℕ) (all text new line x : List ℕ) (rest more : List (List ℕ)) → rest ≡ x ∷ more
    → all ≡ text ++ flat_map f rest → line ≡ f x → new ≡ text ++ line → all ≡ new ++ flat_map f more
line-next f all text new line x rest more is before made put =
    before ∙ (ap (λ r. text ++ flat_map f r) is
    ∙ (sym (append_assoc text (f x) (flat_map f more))
    ∙ (ap (λ t. (text ++ t) ++ flat_map f more) (sym made) ∙ ap (λ t. t ++ flat_map f more) (sym put))))
