-- Lists that begin with others.
use Rattle.std.proofs.Common.{◌≡◌, ℕ, Bool, true, false, List, [], ◌∷◌, ◌++◌, ◌≤◌, length, take, drop, ap, sym, subst, refl, ◌∙◌, arith}
use Rattle.std.specs.Prelude.{if◌then◌else◌}
use Rattle.std.proofs.lemmas.Bool.{or_left}
use Rattle.std.proofs.lemmas.List.{append-nil, append_assoc}
use Rattle.jvm_model.specs.Classes.Load.{is_among}
use Rattle.jvm_model.proofs.Loading.Among.{among-append}
use Rattle.class_index.specs.Orders.{with_class}
use Rattle.possible_callees.specs.Tables.{IsPrefix}

take-front : (xs ys : List ℕ) → take (length xs) (xs ++ ys) ≡ xs
take-front [] ys = refl
take-front (x ∷ xs) ys = ap (λ l. x ∷ l) (take-front xs ys)

pub front-self : (xs : List ℕ) → IsPrefix xs xs
front-self xs = record { rest = []; is = sym (append-nil xs) }

pub front-then : (a b c : List ℕ) → IsPrefix a b → IsPrefix b c → IsPrefix a c
front-then a b c first second = record {
  rest = first.rest ++ second.rest;
  is = second.is ∙ (ap (λ l. l ++ second.rest) first.is ∙ append_assoc a first.rest second.rest);
}

pub front-more : (a b more : List ℕ) → b ≡ a ++ more → IsPrefix a b
front-more a b more e = record { rest = more; is = e }

pub front-one : (a : List ℕ) (x : ℕ) → IsPrefix a (with_class a x)
front-one a x = by (is_among x a)
  where
    by : (b : Bool) → IsPrefix a (if b then a else a ++ x ∷ [])
    by true = front-self a
    by false = record { rest = x ∷ []; is = refl }

pub front-with : (a b : List ℕ) (x : ℕ) → IsPrefix a b → IsPrefix a (with_class b x)
front-with a b x front = front-then a b (with_class b x) front (front-one b x)

pub front-among : (a b : List ℕ) (m : ℕ) → IsPrefix a b → is_among m a ≡ true → is_among m b ≡ true
front-among a b m front h = ap (is_among m) front.is ∙ (among-append m a front.rest ∙ or_left (is_among m a) (is_among m front.rest) h)

pub front-take : (a b : List ℕ) → IsPrefix a b → take (length a) b ≡ a
front-take a b front = ap (take (length a)) front.is ∙ take-front a front.rest

pub fresh-with : (a : List ℕ) (x : ℕ) → is_among x a ≡ false → with_class a x ≡ a ++ x ∷ []
fresh-with a x fresh = ap (λ (b : Bool). if b then a else a ++ x ∷ []) fresh

pub front-if : (b : Bool) (a c : List ℕ) (x : ℕ) → c ≡ (if b then with_class a x else a) → IsPrefix a c
front-if b a c x e = subst (IsPrefix a) (sym e) (by b)
  where
    by : (b : Bool) → IsPrefix a (if b then with_class a x else a)
    by true = front-one a x
    by false = front-self a

drop-front : (xs ys : List ℕ) → drop (length xs) (xs ++ ys) ≡ ys
drop-front [] ys = refl
drop-front (x ∷ xs) ys = drop-front xs ys

pub front-drop : (a b : List ℕ) (front : IsPrefix a b) → drop (length a) b ≡ front.rest
front-drop a b front = ap (drop (length a)) front.is ∙ drop-front a front.rest

pub front-long : (a b : List ℕ) → IsPrefix a b → length a ≤ length b
front-long a b front = subst (λ l. length a ≤ length l) (sym front.is) (longer a front.rest)
  where
    longer : (xs ys : List ℕ) → length xs ≤ length (xs ++ ys)
    longer [] ys = omega arith
    longer (x ∷ xs) ys = let rest = longer xs ys in omega (arith, rest)
