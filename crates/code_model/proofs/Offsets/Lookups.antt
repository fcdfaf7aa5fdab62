-- Numbers that rise strictly, and look-ups of what stands beside them.
use Rattle.std.proofs.Common.{◌≡◌, ℕ, zero, suc, ◌+◌, ◌≤◌, Bool, true, false, List, [], ◌∷◌, ◌++◌, map, Option, Some, refl, sym, ap, subst, ◌∙◌, arith}
use Rattle.std.specs.Prelude.{◌==◌, cond}
use Rattle.std.specs.List.Sorted.{IsStrictlyIncreasing}
use Rattle.std.proofs.lemmas.Bool.{eqb-true, eq-eqb, ne_eqb}
use Rattle.std.proofs.lemmas.List.{map-append}
use Rattle.std.proofs.lemmas.Option.{same_Some, none-some}
use Rattle.code_model.specs.Layout.{Spot, found_beside}

-- each number is at least this one, and above the one before it
abbrev pub Rises : ℕ → List ℕ → Type 0
Rises low [] = Unit {0}
Rises low (n ∷ ns) = (low ≤ n) × Rises (n + 1) ns

pub Rises-from_below : (low high : ℕ) (ns : List ℕ) → low ≤ high → Rises high ns → Rises low ns
Rises-from_below low high [] le rises = tt
Rises-from_below low high (n ∷ ns) le rises = (omega (arith, rises.0), rises.1)

-- each is above those in front of it
pub Rises-at : (low : ℕ) (front : List ℕ) (n : ℕ) (rest : List ℕ) → Rises low (front ++ n ∷ rest) → low ≤ n
Rises-at low [] n rest rises = rises.0
Rises-at low (m ∷ front) n rest rises = let above = Rises-at (m + 1) front n rest rises.1 in omega (arith, rises.0)

pub Rises-increasing : (low : ℕ) (ns : List ℕ) → Rises low ns → IsStrictlyIncreasing ns
Rises-increasing low [] rises k lt = absurd (omega arith)
Rises-increasing low (n ∷ []) rises k lt = absurd (omega arith)
Rises-increasing low (m ∷ n ∷ ns) rises zero lt = omega (arith, rises.1.0)
Rises-increasing low (m ∷ n ∷ ns) rises (suc k) lt = let next : suc k + 1 ≡ suc (k + 1) = omega arith in rw next (Rises-increasing (m + 1) (n ∷ ns) rises.1 k (omega arith))

-- ---- spots

-- one number of a spot is found beside another, where that rises
pub found_beside-spot : (f g : Spot → ℕ) (low : ℕ) (front : List Spot) (s : Spot) (rest : List Spot) → Rises low (map f (front ++ s ∷ rest))
    → found_beside (map f (front ++ s ∷ rest)) (map g (front ++ s ∷ rest)) (f s) ≡ Some (g s)
found_beside-spot f g low [] s rest rises = rw (eq-eqb (f s) (f s) refl) refl
found_beside-spot f g low (r ∷ front) s rest rises =
    let above : f r + 1 ≤ f s = Rises-at (f r + 1) (map f front) (f s) (map f rest) (subst (Rises (f r + 1)) (map-append f front (s ∷ rest)) rises.1) in
    let other : (f r == f s) ≡ false = ne_eqb (f r) (f s) (λ same. omega arith) in
    rw other (found_beside-spot f g (f r + 1) front s rest rises.1)

-- the same of spots that are known by their parts
pub found_beside-at : (f g : Spot → ℕ) (low : ℕ) (spots front : List Spot) (s : Spot) (rest : List Spot) → spots ≡ front ++ s ∷ rest → Rises low (map f spots)
    → found_beside (map f spots) (map g spots) (f s) ≡ Some (g s)
found_beside-at f g low spots front s rest parts rises =
    let P : List Spot → Type 0 = λ ts. Rises low (map f ts) → found_beside (map f ts) (map g ts) (f s) ≡ Some (g s) in
    subst P (sym parts) (found_beside-spot f g low front s rest) rises

abbrev pub found : ℕ → Option ℕ
found n = Some n

-- where a number is found beside another, there is such a spot
pub record IsFound (f g : Spot → ℕ) (spots : List Spot) (n x : ℕ) : Type 0 where
  pub front : List Spot
  pub spot : Spot
  pub rest : List Spot
  pub parts : spots ≡ front ++ spot ∷ rest
  pub number : f spot ≡ n
  pub beside : g spot ≡ x

found_later : (f g : Spot → ℕ) (s : Spot) (spots : List Spot) (n x : ℕ) → IsFound f g spots n x → IsFound f g (s ∷ spots) n x
found_later f g s spots n x found = record { front = s ∷ found.front; spot = found.spot; rest = found.rest; parts = ap (λ (t : List Spot). s ∷ t) found.parts; number = found.number; beside = found.beside }

found_or_later : (f g : Spot → ℕ) (s : Spot) (spots : List Spot) (n x : ℕ) (b : Bool) → (f s == n) ≡ b → cond b (Some (g s)) (found_beside (map f spots) (map g spots) n) ≡ Some x
    → (found_beside (map f spots) (map g spots) n ≡ Some x → IsFound f g spots n x) → IsFound f g (s ∷ spots) n x
found_or_later f g s spots n x true is e later = record { front = []; spot = s; rest = spots; parts = refl; number = eqb-true (f s) n is; beside = same_Some (g s) x e }
found_or_later f g s spots n x false is e later = found_later f g s spots n x (later e)

pub spot-found_beside : (f g : Spot → ℕ) (spots : List Spot) (n x : ℕ) → found_beside (map f spots) (map g spots) n ≡ Some x → IsFound f g spots n x
spot-found_beside f g [] n x e = absurd (none-some x e)
spot-found_beside f g (s ∷ spots) n x e = found_or_later f g s spots n x (f s == n) refl e (λ later. spot-found_beside f g spots n x later)

-- what is found beside a number that rises has that beside it
pub found_beside-back : (f k : Spot → ℕ) (low : ℕ) (spots : List Spot) (n x : ℕ) → Rises low (map k spots) → found_beside (map f spots) (map k spots) n ≡ Some x → found_beside (map k spots) (map f spots) x ≡ Some n
found_beside-back f k low spots n x rises e =
    let s = spot-found_beside f k spots n x e in
    ap (found_beside (map k spots) (map f spots)) (sym s.beside) ∙ found_beside-at k f low spots s.front s.spot s.rest s.parts rises ∙ ap found s.number
