-- Each class once is searched as all of them are.
use Rattle.std.proofs.Common.{◌≡◌, ℕ, Bool, true, false, List, [], ◌∷◌, ◌++◌, ap, ap₂, sym, refl, ◌∙◌, length, take}
use Rattle.std.specs.Prelude.{Option, Some, None, Result, Ok, Err, OnErr, ◌==◌, ◌||◌, if◌then◌else◌}
use Rattle.std.specs.Option.{option_map_or, option_or}
use Rattle.std.specs.Io.{StartsWith}
use Rattle.std.proofs.lemmas.List.{append_assoc, append-nil}
use Rattle.std.proofs.lemmas.Bool.{false≢true, eqb-true}
use Rattle.jvm_model.specs.Classes.Load.{is_among}
use Rattle.jvm_model.specs.Classes.Lookup.{MemberPlace, first_in, place_in}
use Rattle.class_index.specs.Orders.{IsSearchedAs, with_class, with_classes}

-- what is found in a class, or behind it
found : ℕ → Option ℕ → Option MemberPlace → Option MemberPlace
found x o rest = option_map_or (λ position. Some (place_in x position)) o rest

-- ---- the first of two lists

module _ (at : ℕ → Option ℕ) where
  pub first_in-append : (xs ys : List ℕ) → first_in at (xs ++ ys) ≡ option_or (first_in at xs) (first_in at ys)
  first_in-append [] ys = refl
  first_in-append (x ∷ xs) ys = by (at x) (first_in-append xs ys)
    where
      by : (o : Option ℕ) → first_in at (xs ++ ys) ≡ option_or (first_in at xs) (first_in at ys)
          → option_map_or (λ position. Some (place_in x position)) o (first_in at (xs ++ ys))
          ≡ option_or (option_map_or (λ position. Some (place_in x position)) o (first_in at xs)) (first_in at ys)
      by None rest = rest
      by (Some n) rest = refl

  -- a class in which there is none
  past : (xs : List ℕ) (c : ℕ) → at c ≡ None → first_in at (xs ++ c ∷ []) ≡ first_in at xs
  past xs c none = first_in-append xs (c ∷ [])
      ∙ (ap (λ o. option_or (first_in at xs) (option_map_or (λ position. Some (place_in c position)) o None)) none ∙ by (first_in at xs))
    where
      by : (o : Option MemberPlace) → option_or o None ≡ o
      by None = refl
      by (Some m) = refl

  -- a class that is among them
  again : (xs : List ℕ) (c : ℕ) → is_among c xs ≡ true → first_in at (xs ++ c ∷ []) ≡ first_in at xs
  again [] c is = absurd (false≢true is)
  again (x ∷ xs) c is = by (c == x) refl is (λ t. again xs c t)
    where
      behind : (o : Option ℕ) → at x ≡ o → (o ≡ None → first_in at (xs ++ c ∷ []) ≡ first_in at xs)
          → option_map_or (λ position. Some (place_in x position)) o (first_in at (xs ++ c ∷ []))
          ≡ option_map_or (λ position. Some (place_in x position)) o (first_in at xs)
      behind None h rest = rest refl
      behind (Some n) h rest = refl

      by : (b : Bool) → (c == x) ≡ b → (b || is_among c xs) ≡ true → (is_among c xs ≡ true → first_in at (xs ++ c ∷ []) ≡ first_in at xs)
          → first_in at (x ∷ xs ++ c ∷ []) ≡ first_in at (x ∷ xs)
      by true same t rest = behind (at x) refl (λ none. past xs c (ap at (eqb-true c x same) ∙ none))
      by false other t rest = behind (at x) refl (λ none. rest t)

-- ---- a class more, if it is none of them

pub one_more : (xs : List ℕ) (c : ℕ) → IsSearchedAs (with_class xs c) (xs ++ c ∷ [])
one_more xs c at = by (is_among c xs) refl
  where
    by : (b : Bool) → is_among c xs ≡ b → first_in at (if b then xs else xs ++ c ∷ []) ≡ first_in at (xs ++ c ∷ [])
    by true is = sym (again at xs c is)
    by false is = refl

pub both : (a b c d : List ℕ) → IsSearchedAs a b → IsSearchedAs c d → IsSearchedAs (a ++ c) (b ++ d)
both a b c d ab cd at =
    first_in-append at a c ∙ (ap (λ o. option_or o (first_in at c)) (ab at) ∙ (ap (option_or (first_in at b)) (cd at) ∙ sym (first_in-append at b d)))

pub same : (a : List ℕ) → IsSearchedAs a a
same a at = refl

pub then_as : (a b c : List ℕ) → IsSearchedAs a b → IsSearchedAs b c → IsSearchedAs a c
then_as a b c ab bc at = ab at ∙ bc at

pub equal_as : (a b : List ℕ) → a ≡ b → IsSearchedAs a b
equal_as a b e at = ap (first_in at) e

pub more : (xs ys : List ℕ) → IsSearchedAs (with_classes xs ys) (xs ++ ys)
more xs [] at = ap (first_in at) (sym (append-nil xs))
more xs (y ∷ ys) at =
    more (with_class xs y) ys at
    ∙ (both (with_class xs y) (xs ++ y ∷ []) ys ys (one_more xs y) (same ys) at ∙ ap (first_in at) (append_assoc xs (y ∷ []) ys))

pub first_in_both : (at : ℕ → Option ℕ) (xs ys : List ℕ) → first_in at (xs ++ ys) ≡ option_or (first_in at xs) (first_in at ys)
first_in_both at xs ys = first_in-append at xs ys

-- ---- the classes that are there come first

-- a list begins with itself
starts-self : (xs : List ℕ) → StartsWith xs xs
starts-self [] = refl
starts-self (x ∷ xs) = ap (λ rest. x ∷ rest) (starts-self xs)

-- and with what its front begins with
starts-shorter : (xs ys zs : List ℕ) → StartsWith zs (xs ++ ys) → StartsWith zs xs
starts-shorter [] ys zs is = refl
starts-shorter (x ∷ xs) ys [] is = absurd cc
starts-shorter (x ∷ xs) ys (z ∷ zs) is =
    let head : z ≡ x = cc in
    let rest : take (length (xs ++ ys)) zs ≡ xs ++ ys = cc in
    ap₂ (λ a b. a ∷ b) head (starts-shorter xs ys zs rest)

pub starts-with : (xs ys : List ℕ) → StartsWith (with_classes xs ys) xs
starts-with xs [] = starts-self xs
starts-with xs (y ∷ ys) = by (is_among y xs) (starts-with (with_class xs y) ys)
  where
    by : (b : Bool) → StartsWith (with_classes (if b then xs else xs ++ y ∷ []) ys) (if b then xs else xs ++ y ∷ [])
        → StartsWith (with_classes (if b then xs else xs ++ y ∷ []) ys) xs
    by true is = is
    by false is = starts-shorter xs (y ∷ []) (with_classes (xs ++ y ∷ []) ys) is

-- what holds anyway holds on an error
pub on-err : {A E P : Type 0} (r : Result A E) → P → OnErr r P
on-err (Ok x) p = tt
on-err (Err e) p = p
