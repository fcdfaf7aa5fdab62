-- Two lists of which something holds, place by place.
use Rattle.std.proofs.Common.{◌≡◌, ℕ, zero, suc, ◌+◌, ◌<◌, List, [], ◌∷◌, ◌++◌, length, take, get_or, Option, Some, refl, sym, ap, subst, ◌∙◌, arith}
use Rattle.std.specs.Prelude.{map, slice_get, unwrap_or}
use Rattle.std.specs.List.{AllZip}
use Rattle.std.proofs.lemmas.List.{length-map, take_more}
use Rattle.std.proofs.lemmas.Option.{same_Some, slice_get-get_or}

pub zip-push : {A B : Type 0} (R : A → B → Type 0) (xs : List A) (ys : List B) (x : A) (y : B)
    → AllZip R xs ys → R x y → AllZip R (xs ++ x ∷ []) (ys ++ y ∷ [])
zip-push R [] [] x y h r = (r, tt)
zip-push R [] (b ∷ ys) x y h r = absurd h
zip-push R (a ∷ xs) [] x y h r = absurd h
zip-push R (a ∷ xs) (b ∷ ys) x y h r = (h.0, zip-push R xs ys x y h.1 r)

-- one place more
pub zip-more : {A B : Type 0} (R : A → B → Type 0) (xs : List A) (ys : List B) (i : ℕ) (x : A) (y : B)
    → i < length xs → x ≡ get_or xs i x → AllZip R (take i xs) ys → R x y
    → AllZip R (take (i + 1) xs) (ys ++ y ∷ [])
zip-more R xs ys i x y less is h r =
    subst (λ l. AllZip R l (ys ++ y ∷ []))
    (ap (λ z. take i xs ++ z ∷ []) is ∙ sym (take_more xs i x less))
    (zip-push R (take i xs) ys x y h r)

-- the word at a position, which is read with a default
pub record IsThere (words : List (List ℕ)) (at : ℕ) (word : List ℕ) : Type 0 where
  pub within : at < length words
  pub there : slice_get words at ≡ Some word
  pub is : word ≡ get_or words at word

there-at : (words : List (List ℕ)) (at : ℕ) (word : List ℕ) → at < length words
    → word ≡ unwrap_or (slice_get words at) [] → IsThere words at word
there-at words at word within is =
    let found : slice_get words at ≡ Some (get_or words at []) = slice_get-get_or words at [] within in
    let same : word ≡ get_or words at [] = is ∙ ap (λ (o : Option (List ℕ)). unwrap_or o []) found in
    let here : slice_get words at ≡ Some word =
    found ∙ ap (λ (w : List ℕ). let o : Option (List ℕ) = Some w in o) (sym same) in
    record {
      within = within;
      there = here;
      is = same_Some word (get_or words at word) (sym here ∙ slice_get-get_or words at word within);
    }

pub there-among : {A : Type 0} (f : A → List ℕ) (xs : List A) (at : ℕ) (word : List ℕ) → at < length xs
    → word ≡ unwrap_or (slice_get (map f xs) at) [] → IsThere (map f xs) at word
there-among f xs at word within is =
    let many = length-map xs f in
    there-at (map f xs) at word (omega (arith, many, within)) is

pub zip-take : {A B : Type 0} (R : A → B → Type 0) (n : ℕ) (xs : List A) (ys : List B) → AllZip R xs ys
    → AllZip R (take n xs) (take n ys)
zip-take R zero xs ys h = tt
zip-take R (suc n) [] [] h = tt
zip-take R (suc n) [] (y ∷ ys) h = absurd h
zip-take R (suc n) (x ∷ xs) [] h = absurd h
zip-take R (suc n) (x ∷ xs) (y ∷ ys) h = (h.0, zip-take R n xs ys h.1)

pub zip-weaken : {A B : Type 0} (R S : A → B → Type 0) (xs : List A) (ys : List B)
    → ((x : A) (y : B) → R x y → S x y) → AllZip R xs ys → AllZip S xs ys
zip-weaken R S [] [] f h = tt
zip-weaken R S [] (y ∷ ys) f h = absurd h
zip-weaken R S (x ∷ xs) [] f h = absurd h
zip-weaken R S (x ∷ xs) (y ∷ ys) f h = (f x y h.0, zip-weaken R S xs ys f h.1)

pub zip-length : {A B : Type 0} (R : A → B → Type 0) (xs : List A) (ys : List B) → AllZip R xs ys
    → length xs ≡ length ys
zip-length R [] [] h = refl
zip-length R [] (y ∷ ys) h = absurd h
zip-length R (x ∷ xs) [] h = absurd h
zip-length R (x ∷ xs) (y ∷ ys) h = omega (arith, zip-length R xs ys h.1)

-- an element with the one at its place
pub record HasPair {A B : Type 0} (R : A → B → Type 0) (x : A) (ys : List B) (i : ℕ) : Type 0 where
  pub other : B
  pub there : slice_get ys i ≡ Some other
  pub holds : R x other

pub zip-at : {A B : Type 0} (R : A → B → Type 0) (xs : List A) (ys : List B) (i : ℕ) (x : A)
    → AllZip R xs ys → slice_get xs i ≡ Some x → HasPair R x ys i
zip-at R [] [] i x h e = absurd cc
zip-at R [] (y ∷ ys) i x h e = absurd h
zip-at R (a ∷ xs) [] i x h e = absurd h
zip-at R (a ∷ xs) (y ∷ ys) zero x h e = record {
  other = y;
  there = refl;
  holds = subst (λ z. R z y) (let same : a ≡ x = cc in same) h.0;
}
zip-at R (a ∷ xs) (y ∷ ys) (suc i) x h e =
    let more = zip-at R xs ys i x h.1 e in
    record { other = more.other; there = more.there; holds = more.holds }

-- ---- one list
