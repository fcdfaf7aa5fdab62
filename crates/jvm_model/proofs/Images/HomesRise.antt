-- Homes rise strictly with the offsets whose homes they are.
use Rattle.std.proofs.Common.{◌≡◌, ◌≤◌, ◌<◌, ◌+◌, ℕ, Bool, true, false, cond, List, [], ◌∷◌, map, length, Some, refl, ap, arith}
use Rattle.std.specs.Prelude.{◌==◌, unwrap_or}
use Rattle.std.proofs.lemmas.Bool.{eqb-true}
use Rattle.std.proofs.lemmas.Option.{same_Some, none-some}
use Rattle.code_model.specs.declared.laying.Group.{Group}
use Rattle.code_model.specs.Groups.{instrs_of}
use Rattle.code_model.specs.Instructions.{Reads}
use Rattle.code_model.specs.Layout.{Spot, all_spots, found_beside, home_in, home_of, homes_of}
use Rattle.code_model.proofs.CodeLayouts.Among.{homes_rise, starts_rise}
use Rattle.code_model.proofs.Offsets.Lookups.{Rises}

-- what is found stands among the numbers, and what stands beside it among theirs
found-low : (fs ks : List ℕ) (low a x : ℕ) → Rises low fs → found_beside fs ks a ≡ Some x → low ≤ a
found-low [] ks low a x rises e = absurd (none-some x e)
found-low (n ∷ fs) [] low a x rises e = absurd (none-some x e)
found-low (n ∷ fs) (k ∷ ks) low a x rises e = by (n == a) refl e (λ r. found-low fs ks (n + 1) a x rises.1 r) where
  by : (b : Bool) → (n == a) ≡ b → cond b (Some k) (found_beside fs ks a) ≡ Some x → (found_beside fs ks a ≡ Some x → n + 1 ≤ a) → low ≤ a
  by true is e later = let same : n ≡ a = eqb-true n a is in omega (arith, rises.0)
  by false is e later = let rest : n + 1 ≤ a = later e in omega (arith, rises.0)

beside-low : (fs ks : List ℕ) (low a x : ℕ) → Rises low ks → found_beside fs ks a ≡ Some x → low ≤ x
beside-low [] ks low a x rises e = absurd (none-some x e)
beside-low (n ∷ fs) [] low a x rises e = absurd (none-some x e)
beside-low (n ∷ fs) (k ∷ ks) low a x rises e = by (n == a) e (λ r. beside-low fs ks (k + 1) a x rises.1 r) where
  by : (b : Bool) → cond b (Some k) (found_beside fs ks a) ≡ Some x → (found_beside fs ks a ≡ Some x → k + 1 ≤ x) → low ≤ x
  by true e later = let same : k ≡ x = same_Some k x e in omega (arith, rises.0)
  by false e later = let rest : k + 1 ≤ x = later e in omega (arith, rises.0)

found-rises : (fs ks : List ℕ) (low high a b x y : ℕ) → Rises low fs → Rises high ks → found_beside fs ks a ≡ Some x → found_beside fs ks b ≡ Some y → a < b → x < y
found-rises [] ks low high a b x y fr kr ea eb less = absurd (none-some x ea)
found-rises (n ∷ fs) [] low high a b x y fr kr ea eb less = absurd (none-some x ea)
found-rises (n ∷ fs) (k ∷ ks) low high a b x y fr kr ea eb less = by (n == a) (n == b) refl refl ea eb (λ r s. found-rises fs ks (n + 1) (k + 1) a b x y fr.1 kr.1 r s less) where
  by : (p q : Bool) → (n == a) ≡ p → (n == b) ≡ q → cond p (Some k) (found_beside fs ks a) ≡ Some x → cond q (Some k) (found_beside fs ks b) ≡ Some y
      → (found_beside fs ks a ≡ Some x → found_beside fs ks b ≡ Some y → x < y) → x < y
  by true true ip iq ea eb later = let same : n ≡ a = eqb-true n a ip in let other : n ≡ b = eqb-true n b iq in absurd (omega arith)
  by true false ip iq ea eb later = let here : k ≡ x = same_Some k x ea in let rest : k + 1 ≤ y = beside-low fs ks (k + 1) b y kr.1 eb in omega arith
  by false true ip iq ea eb later = let there : n ≡ b = eqb-true n b iq in let rest : n + 1 ≤ a = found-low fs ks (n + 1) a x fr.1 ea in absurd (omega arith)
  by false false ip iq ea eb later = later ea eb

pub home-rises : (front old : List ℕ) (gs : List Group) → Reads old 0 (instrs_of gs) → (a b x y : ℕ) → home_in (homes_of front gs) a ≡ Some x → home_in (homes_of front gs) b ≡ Some y → a < b
    → home_of (homes_of front gs) a < home_of (homes_of front gs) b
home-rises front old gs reads a b x y ea eb less =
    let spots = all_spots front gs in
    let there : x < y = found-rises (map (λ (s : Spot). s.from) spots) (map (λ (s : Spot). s.home) spots) 0 (length front) a b x y
    (starts_rise old (length front) 0 gs reads) (homes_rise (length front) 0 gs) ea eb less in
    let first : home_of (homes_of front gs) a ≡ x = ap (λ o. unwrap_or o 0) ea in
    let second : home_of (homes_of front gs) b ≡ y = ap (λ o. unwrap_or o 0) eb in
    omega arith
