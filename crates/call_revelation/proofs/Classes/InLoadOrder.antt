-- Places that rise, and the classes that stand there.
use Rattle.std.proofs.Common.{◌≡◌, ℕ, zero, suc, ◌+◌, ◌-◌, ◌<◌, ◌≤◌, Bool, true, false, List, [], ◌∷◌, length, ap, sym, refl, ◌∙◌, arith, inl, inr}
use Rattle.std.specs.Prelude.{Option, filter, filter_map, slice_get, ◌==◌, ◌||◌, if◌then◌else◌}
use Rattle.std.specs.List.{AllByRecursion, AllPairs, Contains, cons_option, slice_index_or}
use Rattle.std.specs.List.Sorted.{IsStrictlyIncreasing}
use Rattle.std.specs.Option.{option_map_or}
use Rattle.std.proofs.lemmas.List.Kept.{AllPairs-from_increasing}
use Rattle.std.proofs.lemmas.Bool.{false≢true, or_cases, or_left, or_parts, or_right, eqb-true}
use Rattle.jf_bytes.proofs.Tests.{equals_itself}
use Rattle.jvm_model.specs.Classes.Load.{is_among}
use Rattle.possible_callees.specs.Tables.{IsRising}

-- ---- a list that was put in order

all-from : (x : ℕ) (xs : List ℕ) → ((j d : ℕ) → j < length xs → x < slice_index_or xs j d) → AllByRecursion (λ m. x < m) xs
all-from x [] h = tt
all-from x (y ∷ ys) h = (h 0 0 (omega arith), all-from x ys (λ j d within. h (suc j) d (omega (arith, within))))

rising-pairs : (xs : List ℕ) → AllPairs (λ a b. a < b) xs → IsRising xs
rising-pairs [] h = tt
rising-pairs (x ∷ xs) h = (
  all-from x xs (λ j d within. h 0 (suc j) d (omega arith) (omega (arith, within))),
  rising-pairs xs (λ i j d less within. h (suc i) (suc j) d (omega (arith, less)) (omega (arith, within))),
)

pub rising-from : (xs : List ℕ) → IsStrictlyIncreasing xs → IsRising xs
rising-from xs up = rising-pairs xs (AllPairs-from_increasing xs up)

pub among-contains : (xs : List ℕ) (x : ℕ) → is_among x xs ≡ true → Contains xs x
among-contains [] x h = absurd (false≢true h)
among-contains (y ∷ ys) x h =
    elim (or_cases (x == y) (is_among x ys) h) [
      | inl same ↦ (0, omega arith, sym (eqb-true x y same))
      | inr later ↦ let rest = among-contains ys x later in (suc rest.0, let within = rest.1 in omega (arith, within), rest.2)
    ]

pub contains-among : (xs : List ℕ) (x : ℕ) → Contains xs x → is_among x xs ≡ true
contains-among xs x h = by xs h.0 h.1 h.2
  where
    by : (ys : List ℕ) (k : ℕ) → k < length ys → slice_index_or ys k x ≡ x → is_among x ys ≡ true
    by [] k within is = absurd (omega (arith, within))
    by (y ∷ ys) zero within is = or_left (x == y) (is_among x ys) (ap (λ z. x == z) is ∙ equals_itself x)
    by (y ∷ ys) (suc k) within is = or_right (x == y) (is_among x ys) (by ys k (omega (arith, within)) is)

-- ---- what stands at places that rise

-- these are the places, from one on, at which the test holds
abbrev AreHits : (ℕ → Bool) → List ℕ → ℕ → List ℕ → Type 0
AreHits test classes start ranks = (i : ℕ) → is_among (start + i) ranks ≡ option_map_or test (slice_get classes i) false

above : (n r : ℕ) (rs : List ℕ) → n ≤ r → AllByRecursion (λ m. r < m) rs → AllByRecursion (λ m. suc n ≤ m) rs
above n r [] low all = tt
above n r (x ∷ rs) low all = (let less = all.0 in omega (arith, low, less), above n r rs low all.1)

-- a number below all of them is none of them
not-above : (n : ℕ) (rs : List ℕ) → AllByRecursion (λ m. suc n ≤ m) rs → is_among n rs ≡ true → ⊥
not-above n [] all h = false≢true h
not-above n (r ∷ rs) all h =
    elim (or_cases (n == r) (is_among n rs) h) [
      | inl same ↦ let less = all.0 in let is = eqb-true n r same in omega (arith, less, is)
      | inr later ↦ not-above n rs all.1 later
    ]

no-hits : (test : ℕ → Bool) (start : ℕ) (ranks : List ℕ) → AllByRecursion (λ m. start ≤ m) ranks → AreHits test [] start ranks → ranks ≡ []
no-hits test start [] all hits = refl
no-hits test start (r ∷ rs) all hits =
    let low = all.0 in
    absurd (false≢true (sym (hits (r - start))
    ∙ or_left (start + (r - start) == r) (is_among (start + (r - start)) rs)
    (ap (λ k. k == r) (let z : start + (r - start) ≡ r = omega (arith, low) in z) ∙ equals_itself r)))

apart : (n r : ℕ) → n ≤ r → (n == r) ≡ false → suc n ≤ r
apart n r low other = grind (arith)

beyond : (a r : ℕ) → r < a → (a == r) ≡ false
beyond a r less = grind (arith)

higher : (n : ℕ) (rs : List ℕ) → AllByRecursion (λ m. n ≤ m) rs → is_among n rs ≡ false → AllByRecursion (λ m. suc n ≤ m) rs
higher n [] low none = tt
higher n (r ∷ rs) low none =
    let both = or_parts (n == r) (is_among n rs) none in (apart n r low.0 both.0, higher n rs low.1 both.1)

picked : (test : ℕ → Bool) (at : ℕ → Option ℕ) (classes : List ℕ) (start : ℕ) (ranks : List ℕ) → IsRising ranks → AllByRecursion (λ m. start ≤ m) ranks
    → ((i : ℕ) → at (start + i) ≡ slice_get classes i) → AreHits test classes start ranks → filter_map at ranks ≡ filter test classes
picked test at [] start ranks up low there hits = ap (filter_map at) (no-hits test start ranks low hits)
picked test at (c ∷ cs) start ranks up low there hits =
    step (test c) refl ranks up low hits
    (λ rs rising lower found. picked test at cs (suc start) rs rising lower (λ i. ap at (let z : suc start + i ≡ start + suc i = omega arith in z) ∙ there (suc i)) found)
  where
    here : start ≡ start + 0
    here = omega arith

    step : (b : Bool) → test c ≡ b → (rs : List ℕ) → IsRising rs → AllByRecursion (λ m. start ≤ m) rs → AreHits test (c ∷ cs) start rs
        → ((more : List ℕ) → IsRising more → AllByRecursion (λ m. suc start ≤ m) more → AreHits test cs (suc start) more → filter_map at more ≡ filter test cs)
        → filter_map at rs ≡ (if b then c ∷ filter test cs else filter test cs)
    step true e [] up low hits rest = absurd (false≢true (hits 0 ∙ e))
    step true e (r ∷ rs) up low hits rest =
        elim (or_cases (start == r) (is_among start rs) (ap (λ k. is_among k (r ∷ rs)) here ∙ (hits 0 ∙ e))) [
          | inl same ↦
              ap (λ o. cons_option o (filter_map at rs)) (ap at (sym (eqb-true start r same) ∙ here) ∙ there 0)
              ∙ ap (λ l. c ∷ l) (rest rs up.1 (above start r rs low.0 up.0)
              (λ i. sym (ap (λ b. b || is_among (suc start + i) rs) (let is = eqb-true start r same in beyond (suc start + i) r (omega (arith, is))))
              ∙ (ap (λ k. is_among k (r ∷ rs)) (let z : suc start + i ≡ start + suc i = omega arith in z) ∙ hits (suc i))))
          | inr later ↦ absurd (not-above start rs (above start r rs low.0 up.0) later)
        ]
    step false e rs up low hits rest =
        rest rs up (higher start rs low (ap (λ k. is_among k rs) here ∙ (hits 0 ∙ e)))
        (λ i. ap (λ k. is_among k rs) (let z : suc start + i ≡ start + suc i = omega arith in z) ∙ hits (suc i))

all-low : (xs : List ℕ) → AllByRecursion (λ m. 0 ≤ m) xs
all-low [] = tt
all-low (x ∷ xs) = (omega arith, all-low xs)

-- so what stands at these places is in the order of the list
pub in-order : (test : ℕ → Bool) (classes ranks : List ℕ) → IsRising ranks → ((i : ℕ) → is_among i ranks ≡ option_map_or test (slice_get classes i) false)
    → filter_map (slice_get classes) ranks ≡ filter test classes
in-order test classes ranks up hits =
    picked test (slice_get classes) classes 0 ranks up (all-low ranks) (λ i. ap (slice_get classes) (let z : 0 + i ≡ i = omega arith in z))
    (λ i. ap (λ k. is_among k ranks) (let z : 0 + i ≡ i = omega arith in z) ∙ hits i)
