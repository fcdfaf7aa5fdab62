-- What is among numbers that were gathered.
use Rattle.std.proofs.Common.{◌≡◌, ℕ, Bool, true, false, List, [], ◌∷◌, ◌++◌, ap, sym, refl, ◌∙◌, inl, inr}
use Rattle.std.specs.Prelude.{filter, filter_map, flat_map, Option, Some, None, ◌==◌, ◌||◌, ◌&&◌, if◌then◌else◌}
use Rattle.std.specs.List.{cons_option}
use Rattle.std.specs.Option.{option_to_list}
use Rattle.std.proofs.lemmas.Bool.{false≢true, or_cases, or_left, or_right, eqb-true}
use Rattle.std.proofs.Math.Bool.{or-false, or-true, or_assoc}
use Rattle.jf_bytes.proofs.Tests.{equals_itself}
use Rattle.jvm_model.specs.Classes.Load.{is_among}
use Rattle.jvm_model.proofs.Loading.Among.{among-append}
use Rattle.class_index.specs.Orders.{with_class, with_classes}
use Rattle.possible_callees.specs.Tables.{Adds}

-- ---- among lists

-- a number, and a list that has it
pub record IsIn (A : Type 0) (f : A → List ℕ) (Has : A → Type 0) (m : ℕ) : Type 0 where
  pub item : A
  pub there : Has item
  pub within : is_among m (f item) ≡ true

pub from_flat : (f : ℕ → List ℕ) (xs : List ℕ) (m : ℕ) → is_among m (flat_map f xs) ≡ true → IsIn ℕ f (λ x. is_among x xs ≡ true) m
from_flat f [] m h = absurd (false≢true h)
from_flat f (x ∷ xs) m h =
    elim (or_cases (is_among m (f x)) (is_among m (flat_map f xs)) (sym (among-append m (f x) (flat_map f xs)) ∙ h)) [
      | inl a ↦ record { item = x; there = or_left (x == x) (is_among x xs) (equals_itself x); within = a }
      | inr b ↦ let i = from_flat f xs m b in record { item = i.item; there = or_right (i.item == x) (is_among i.item xs) i.there; within = i.within }
    ]

pub to_flat : (f : ℕ → List ℕ) (xs : List ℕ) (x m : ℕ) → is_among x xs ≡ true → is_among m (f x) ≡ true → is_among m (flat_map f xs) ≡ true
to_flat f [] x m there h = absurd (false≢true there)
to_flat f (y ∷ xs) x m there h =
    among-append m (f y) (flat_map f xs) ∙ elim (or_cases (x == y) (is_among x xs) there) [
      | inl same ↦ or_left (is_among m (f y)) (is_among m (flat_map f xs)) (ap (λ z. is_among m (f z)) (sym (eqb-true x y same)) ∙ h)
      | inr behind ↦ or_right (is_among m (f y)) (is_among m (flat_map f xs)) (to_flat f xs x m behind h)
    ]

-- made of those that give one
pub made-flat : (f : ℕ → Option ℕ) (xs : List ℕ) → filter_map f xs ≡ flat_map (λ x. option_to_list (f x)) xs
made-flat f [] = refl
made-flat f (x ∷ xs) = by (f x) (made-flat f xs)
  where
    by : (o : Option ℕ) → filter_map f xs ≡ flat_map (λ x. option_to_list (f x)) xs
        → cons_option o (filter_map f xs) ≡ option_to_list o ++ flat_map (λ x. option_to_list (f x)) xs
    by None e = e
    by (Some n) e = ap (λ l. n ∷ l) e

pub among-filter : (test : ℕ → Bool) (xs : List ℕ) (x : ℕ) → is_among x (filter test xs) ≡ (is_among x xs && test x)
among-filter test [] x = refl
among-filter test (y ∷ xs) x = by (test y) refl (among-filter test xs x)
  where
    same : (b t : Bool) → (x == y) ≡ b → test y ≡ t → is_among x (filter test xs) ≡ (is_among x xs && test x)
        → is_among x (if t then y ∷ filter test xs else filter test xs) ≡ ((b || is_among x xs) && test x)
    same true true e k rest = ap (λ c. c || is_among x (filter test xs)) e ∙ sym (ap test (eqb-true x y e) ∙ k)
    same true false e k rest = rest ∙ (by_false (is_among x xs) (test x) (ap test (eqb-true x y e) ∙ k) ∙ sym (ap test (eqb-true x y e) ∙ k))
      where
        by_false : (a t : Bool) → t ≡ false → (a && t) ≡ false
        by_false true t e = e
        by_false false t e = refl
    same false true e k rest = ap (λ c. c || is_among x (filter test xs)) e ∙ rest
    same false false e k rest = rest

    by : (t : Bool) → test y ≡ t → is_among x (filter test xs) ≡ (is_among x xs && test x)
        → is_among x (if t then y ∷ filter test xs else filter test xs) ≡ (((x == y) || is_among x xs) && test x)
    by t k rest = same (x == y) t refl k rest

-- ---- what is added

pub adds-nothing : (a : List ℕ) → Adds a a []
adds-nothing a m = sym (or-false (is_among m a))

pub adds-then : (a b c xs ys : List ℕ) → Adds a b xs → Adds b c ys → Adds a c (xs ++ ys)
adds-then a b c xs ys first second m =
    second m ∙ (ap (λ t. t || is_among m ys) (first m) ∙ (or_assoc (is_among m a) (is_among m xs) (is_among m ys)
    ∙ ap (λ t. is_among m a || t) (sym (among-append m xs ys))))

pub adds-alike : (a b xs ys : List ℕ) → ((m : ℕ) → is_among m xs ≡ is_among m ys) → Adds a b xs → Adds a b ys
adds-alike a b xs ys same adds m = adds m ∙ ap (λ t. is_among m a || t) (same m)

pub among-with : (m : ℕ) (a : List ℕ) (x : ℕ) → is_among m (with_class a x) ≡ (is_among m a || (m == x))
among-with m a x = by (is_among x a) refl
  where
    there : (b : Bool) → (m == x) ≡ b → is_among x a ≡ true → is_among m a ≡ (is_among m a || b)
    there true e k = ap (λ y. is_among y a) (eqb-true m x e) ∙ (k ∙ sym (or-true (is_among m a)))
    there false e k = sym (or-false (is_among m a))

    by : (b : Bool) → is_among x a ≡ b → is_among m (if b then a else a ++ x ∷ []) ≡ (is_among m a || (m == x))
    by true k = there (m == x) refl k
    by false k = among-append m a (x ∷ []) ∙ ap (λ t. is_among m a || t) (or-false (m == x))

pub adds-all : (a xs : List ℕ) → Adds a (with_classes a xs) xs
adds-all a [] m = sym (or-false (is_among m a))
adds-all a (x ∷ xs) m =
    adds-all (with_class a x) xs m ∙ (ap (λ t. t || is_among m xs) (among-with m a x) ∙ or_assoc (is_among m a) (m == x) (is_among m xs))

pub adds-equal : (a b xs : List ℕ) → b ≡ with_classes a xs → Adds a b xs
adds-equal a b xs e m = ap (is_among m) e ∙ adds-all a xs m
