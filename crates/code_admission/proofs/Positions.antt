-- Positions in a list of one element more.
use Rattle.std.proofs.Common.{◌≡◌, ℕ, suc, ◌+◌, Bool, true, false, cond, List, [], ◌∷◌, position, Option, Some, refl, sym, ap, ◌∙◌, arith}
use Rattle.std.specs.List.{position_from}
use Rattle.std.specs.Option.{option_map}
use Rattle.std.proofs.lemmas.Iterator.Adapters.{position_from-zero}

counted : {X : Type 0} (test : X → Bool) (i : ℕ) (xs : List X) → position_from test (suc i) xs ≡ option_map suc (position_from test i xs)
counted test i [] = refl
counted test i (x ∷ xs) =
    let n : suc i + 1 ≡ suc (i + 1) = omega arith in
    ap (λ n. cond (test x) (Some (suc i)) (position_from test n xs)) n
    ∙ (ap (λ rest. cond (test x) (Some (suc i)) rest) (counted test (i + 1) xs) ∙ by (test x))
  where
    by : (b : Bool) → cond b (Some (suc i)) (option_map suc (position_from test (i + 1) xs)) ≡ option_map suc (cond b (Some i) (position_from test (i + 1) xs))
    by true = refl
    by false = refl

pub position-first : {X : Type 0} (test : X → Bool) (x : X) (xs : List X) → test x ≡ true → position test (x ∷ xs) ≡ Some 0
position-first test x xs e = position_from-zero test (x ∷ xs) ∙ ap (λ b. cond b (let o : Option ℕ = Some 0 in o) (position_from test 1 xs)) e

pub position-behind : {X : Type 0} (test : X → Bool) (x : X) (xs : List X) (k : ℕ) → test x ≡ false → position test xs ≡ Some k → position test (x ∷ xs) ≡ Some (suc k)
position-behind test x xs k other e =
    position_from-zero test (x ∷ xs)
    ∙ (ap (λ b. cond b (let o : Option ℕ = Some 0 in o) (position_from test 1 xs)) other
    ∙ (counted test 0 xs ∙ ap (option_map suc) (sym (position_from-zero test xs) ∙ e)))
