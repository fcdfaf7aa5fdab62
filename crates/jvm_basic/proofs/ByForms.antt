-- Values put below so many operands are what the forms of the stack instructions say.
use Rattle.std.proofs.Common.{◌≡◌, ℕ, Bool, true, false, List, [], ◌∷◌, drop, refl}
use Rattle.std.specs.Prelude.{◌&&◌}
use Rattle.std.proofs.lemmas.Bool.{false≢true}
use Rattle.jvm_model.specs.Basis.Data.{Locals, Operands}
use Rattle.jvm_basic.specs.Outcomes.{GoesOn}
use Rattle.jvm_model.specs.Basis.Values.{has_form, puts_on}
use Rattle.jvm_basic.specs.Copies.{copies_one, copies_two, swaps}

never : (b : Bool) → (b && false) ≡ true → ⊥
never true e = false≢true e
never false e = false≢true e

pub one-1 : (long : Bool) (longs : List Bool) (o : Operands) (place : ℕ) (l : Locals) → has_form (long ∷ longs) o ≡ true
    → copies_one 1 place l o ≡ GoesOn l (puts_on (0 ∷ 0 ∷ []) o (drop 1 o)) place
one-1 long longs [] place l h = absurd (false≢true h)
one-1 long longs (v ∷ o) place l h = refl

pub one-2 : (long : Bool) (longs : List Bool) (o : Operands) (place : ℕ) (l : Locals) → has_form (long ∷ longs) o ≡ true
    → copies_one 2 place l o ≡ GoesOn l (puts_on (0 ∷ 1 ∷ 0 ∷ []) o (drop 2 o)) place
one-2 long longs [] place l h = absurd (false≢true h)
one-2 long longs (v ∷ []) place l h = refl
one-2 long longs (v ∷ w ∷ o) place l h = refl

pub one-3 : (long : Bool) (longs : List Bool) (o : Operands) (place : ℕ) (l : Locals) → has_form (long ∷ longs) o ≡ true
    → copies_one 3 place l o ≡ GoesOn l (puts_on (0 ∷ 1 ∷ 2 ∷ 0 ∷ []) o (drop 3 o)) place
one-3 long longs [] place l h = absurd (false≢true h)
one-3 long longs (v ∷ []) place l h = refl
one-3 long longs (v ∷ w ∷ []) place l h = refl
one-3 long longs (v ∷ w ∷ x ∷ o) place l h = refl

pub two-2 : (a b : Bool) (longs : List Bool) (o : Operands) (place : ℕ) (l : Locals) → has_form (a ∷ b ∷ longs) o ≡ true
    → copies_two 2 place l o ≡ GoesOn l (puts_on (0 ∷ 1 ∷ 0 ∷ 1 ∷ []) o (drop 2 o)) place
two-2 a b longs [] place l h = absurd (false≢true h)
two-2 a b longs (v ∷ []) place l h = absurd (never _ h)
two-2 a b longs (v ∷ w ∷ o) place l h = refl

pub two-3 : (a b : Bool) (longs : List Bool) (o : Operands) (place : ℕ) (l : Locals) → has_form (a ∷ b ∷ longs) o ≡ true
    → copies_two 3 place l o ≡ GoesOn l (puts_on (0 ∷ 1 ∷ 2 ∷ 0 ∷ 1 ∷ []) o (drop 3 o)) place
two-3 a b longs [] place l h = absurd (false≢true h)
two-3 a b longs (v ∷ []) place l h = absurd (never _ h)
two-3 a b longs (v ∷ w ∷ []) place l h = refl
two-3 a b longs (v ∷ w ∷ x ∷ o) place l h = refl

pub two-4 : (a b : Bool) (longs : List Bool) (o : Operands) (place : ℕ) (l : Locals) → has_form (a ∷ b ∷ longs) o ≡ true
    → copies_two 4 place l o ≡ GoesOn l (puts_on (0 ∷ 1 ∷ 2 ∷ 3 ∷ 0 ∷ 1 ∷ []) o (drop 4 o)) place
two-4 a b longs [] place l h = absurd (false≢true h)
two-4 a b longs (v ∷ []) place l h = absurd (never _ h)
two-4 a b longs (v ∷ w ∷ []) place l h = refl
two-4 a b longs (v ∷ w ∷ x ∷ []) place l h = refl
two-4 a b longs (v ∷ w ∷ x ∷ y ∷ o) place l h = refl

pub swapped : (a b : Bool) (longs : List Bool) (o : Operands) (place : ℕ) (l : Locals) → has_form (a ∷ b ∷ longs) o ≡ true
    → swaps place l o ≡ GoesOn l (puts_on (1 ∷ 0 ∷ []) o (drop 2 o)) place
swapped a b longs [] place l h = absurd (false≢true h)
swapped a b longs (v ∷ []) place l h = absurd (never _ h)
swapped a b longs (v ∷ w ∷ o) place l h = refl

pub ruleset by_forms = (one-1, one-2, one-3, two-2, two-3, two-4, swapped)
