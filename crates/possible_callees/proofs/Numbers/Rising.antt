-- Numbers that were gathered, in their order.
use Rattle.std.proofs.Common.{◌≡◌, ℕ, zero, suc, ◌+◌, ◌<◌, ◌≤◌, Bool, true, false, List, [], ◌∷◌, ◌++◌, ap, sym, refl, ◌∙◌, arith}
use Rattle.std.specs.Prelude.{filter, ◌==◌, ◌||◌, ◌&&◌, if◌then◌else◌}
use Rattle.std.specs.List.{AllByRecursion, range_with_len}
use Rattle.std.proofs.lemmas.Bool.{and_from, and_parts}
use Rattle.std.proofs.lemmas.List.{append-nil}
use Rattle.jvm_model.specs.Classes.Load.{is_among}
use Rattle.jvm_model.proofs.Revealing.Growing.{filter-front}
use Rattle.possible_callees.specs.Tables.{IsRising}
use Rattle.possible_callees.proofs.Truths.{alike}
use Rattle.possible_callees.proofs.Numbers.Adding.{among-filter}

-- each number of a range is above what is below the first
above : (test : ℕ → Bool) (k start n : ℕ) → k < start → AllByRecursion (λ y. k < y) (filter test (range_with_len start n))
above test k start zero less = tt
above test k start (suc n) less = by (test start) (above test k (start + 1) n (omega (arith, less)))
  where
    by : (b : Bool) → AllByRecursion (λ y. k < y) (filter test (range_with_len (start + 1) n))
        → AllByRecursion (λ y. k < y) (if b then start ∷ filter test (range_with_len (start + 1) n) else filter test (range_with_len (start + 1) n))
    by true rest = (less, rest)
    by false rest = rest

pub rising-filter : (test : ℕ → Bool) (start n : ℕ) → IsRising (filter test (range_with_len start n))
rising-filter test start zero = tt
rising-filter test start (suc n) = by (test start) (rising-filter test (start + 1) n)
  where
    by : (b : Bool) → IsRising (filter test (range_with_len (start + 1) n))
        → IsRising (if b then start ∷ filter test (range_with_len (start + 1) n) else filter test (range_with_len (start + 1) n))
    by true rest = (above test start (start + 1) n (omega arith), rest)
    by false rest = rest

other : (m start : ℕ) → (m == start) ≡ false → start ≤ m → start + 1 ≤ m
other m start e from = grind (arith)

in-range : (start n m : ℕ) → start ≤ m → m < start + n → is_among m (range_with_len start n) ≡ true
in-range start zero m from to = absurd (omega (arith, from, to))
in-range start (suc n) m from to = by (m == start) refl (λ e. in-range (start + 1) n m (other m start e from) (omega (arith, to)))
  where
    by : (b : Bool) → (m == start) ≡ b → ((m == start) ≡ false → is_among m (range_with_len (start + 1) n) ≡ true)
        → (b || is_among m (range_with_len (start + 1) n)) ≡ true
    by true e rest = refl
    by false e rest = rest e

-- of numbers below a bound those of the range that are among them are they
pub among-range : (found : List ℕ) (bound : ℕ) → ((m : ℕ) → is_among m found ≡ true → m < bound) → (m : ℕ)
    → is_among m (filter (λ x. is_among x found) (range_with_len 0 bound)) ≡ is_among m found
among-range found bound below m =
    among-filter (λ x. is_among x found) (range_with_len 0 bound) m
    ∙ alike (is_among m (range_with_len 0 bound) && is_among m found) (is_among m found)
    (λ h. (and_parts (is_among m (range_with_len 0 bound)) (is_among m found) h).1)
    (λ h. let less : m < bound = below m h in and_from (is_among m (range_with_len 0 bound)) (is_among m found) (in-range 0 bound m (omega arith) (omega (arith, less))) h)

last : (a n j : ℕ) → a + n ≡ j → range_with_len a (suc n) ≡ range_with_len a n ++ j ∷ []
last a zero j e = ap (λ k. k ∷ []) (let z : a ≡ j = omega (arith, e) in z)
last a (suc n) j e = ap (λ l. a ∷ l) (last (a + 1) n j (omega (arith, e)))

counting_more : (a n j : ℕ) → a + n ≡ j → range_with_len a (n + 1) ≡ range_with_len a n ++ j ∷ []
counting_more a n j e = ap (range_with_len a) (let z : n + 1 ≡ suc n = omega arith in z) ∙ last a n j e

-- with one number more
pub one-kept : (test : ℕ → Bool) (n : ℕ) (all : List ℕ) → all ≡ filter test (range_with_len 0 n) → test n ≡ true
    → all ++ n ∷ [] ≡ filter test (range_with_len 0 (n + 1))
one-kept test n all e there =
    ap (λ l. l ++ n ∷ []) e
    ∙ (ap (λ b. filter test (range_with_len 0 n) ++ (if b then n ∷ [] else [])) (sym there)
    ∙ (sym (filter-front test (range_with_len 0 n) (n ∷ [])) ∙ ap (filter test) (sym (counting_more 0 n n (omega arith)))))

pub one-left : (test : ℕ → Bool) (n : ℕ) (all : List ℕ) → all ≡ filter test (range_with_len 0 n) → test n ≡ false
    → all ≡ filter test (range_with_len 0 (n + 1))
one-left test n all e none =
    e ∙ (sym (append-nil (filter test (range_with_len 0 n)))
    ∙ (ap (λ b. filter test (range_with_len 0 n) ++ (if b then n ∷ [] else [])) (sym none)
    ∙ (sym (filter-front test (range_with_len 0 n) (n ∷ [])) ∙ ap (filter test) (sym (counting_more 0 n n (omega arith))))))
