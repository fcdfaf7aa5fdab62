-- The start that a row's offset is taken for, as a search by halves finds it.
use Rattle.std.proofs.Common.{◌≡◌, ℕ, zero, suc, ◌-◌, ◌<◌, ◌≤◌, List, [], ◌∷◌, length, get_or, refl, arith}
use Rattle.std.proofs.lemmas.Bool.{le-leb, lt-leb}
use Rattle.stackmap_shift.specs.DebugTables.{start_for, start_at}

-- The starts in front of an index are below, and those from there on are not.
pub start_for-at : (starts : List ℕ) (index at : ℕ) → ((k : ℕ) → k < index → k < length starts → get_or starts k 0 < at) → ((k : ℕ) → index ≤ k → k < length starts → at ≤ get_or starts k 0)
    → start_at starts index ≡ start_for starts at
start_for-at [] index at below above = refl
start_for-at (s ∷ []) zero at below above = refl
start_for-at (s ∷ []) (suc index) at below above = refl
start_for-at (s ∷ t ∷ starts) zero at below above = rw (le-leb at s (above 0 (omega arith) (omega arith))) refl
start_for-at (s ∷ t ∷ starts) (suc index) at below above =
    let last : length (s ∷ t ∷ starts) - 1 ≡ suc (length (t ∷ starts) - 1) = omega arith in
    let rest = start_for-at (t ∷ starts) index at (λ k lt within. below (suc k) (omega arith) (omega arith)) (λ k le within. above (suc k) (omega arith) (omega arith)) in
    rw (last, lt-leb at s (below 0 (omega arith) (omega arith))) rest
