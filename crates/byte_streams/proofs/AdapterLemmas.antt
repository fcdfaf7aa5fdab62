-- Writing and reading bytes part by part.
use Rattle.std.proofs.Common.{◌≡◌, ◌+◌, ◌-◌, ◌≤◌, ℕ, List, Option, length, take, drop, sym, ap, subst, arith, length-drop}
use Rattle.std.proofs.Math.Seq.{take-add}
use Rattle.std.proofs.lemmas.List.{take_all}
use Rattle.std.proofs.KnownBytes.{Appends-trans}
use Rattle.std.specs.Io.KnownBytes.{Appends}

-- what a slice from n on holds
abbrev pub from_on : List ℕ → ℕ → List ℕ
from_on bytes n = take (length bytes - n) (drop n bytes)

pub from_on-drop : (bytes : List ℕ) (n : ℕ) → from_on bytes n ≡ drop n bytes
from_on-drop bytes n = take_all _ _ (omega (arith, length-drop n bytes))

-- the first n bytes were written, and then m more
pub Appends-more : (old mid new : Option (List ℕ)) (bytes : List ℕ) (n m : ℕ)
    → Appends old mid (take n bytes) → Appends mid new (take m (from_on bytes n)) → Appends old new (take (n + m) bytes)
Appends-more old mid new bytes n m first more =
    let then : Appends mid new (take m (drop n bytes)) = subst (λ l. Appends mid new (take m l)) (from_on-drop bytes n) more in
    subst (Appends old new) (sym (take-add n m bytes)) (Appends-trans old mid new _ _ first then)

-- they stay within
pub count-within : (bytes : List ℕ) (n m : ℕ) → n ≤ length bytes → m ≤ length (from_on bytes n) → n + m ≤ length bytes
count-within bytes n m within more = omega (arith, length-drop n bytes, ap length (from_on-drop bytes n))
