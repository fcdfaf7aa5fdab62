-- The last dot of a text, found from its front.
use Rattle.std.proofs.Common.{◌≡◌, ℕ, suc, ◌+◌, ◌<◌, Bool, true, false, List, [], ◌∷◌, length, take, Option, Some, None, eqb, refl, arith}
use Rattle.std.specs.Prelude.{if◌then◌else◌}
use Rattle.std.proofs.lemmas.List.{length-take}
use Rattle.std.proofs.lemmas.Option.{same_Some, none-some}
use Rattle.plan_text.specs.Roots.{last_dot, dot_here}

-- what is found behind this place, or else what was found before it
abbrev pub or_later : ℕ → Option ℕ → Option ℕ → Option ℕ
or_later at before None = before
or_later at before (Some place) = Some (at + place)

-- ---- where it stands

here_or_none : (is_dot : Bool) (n dot : ℕ) → (if is_dot then Some 0 else None) ≡ Some dot → dot < suc n
here_or_none true n dot found = let at : 0 ≡ dot = same_Some 0 dot found in omega arith
here_or_none false n dot found = absurd (none-some dot found)

here_within : (unit : ℕ) (later : Option ℕ) (n dot : ℕ) → ((k : ℕ) → later ≡ Some k → k < n) → dot_here unit later ≡ Some dot → dot < suc n
here_within unit (Some k) n dot below found = let at : k + 1 ≡ dot = same_Some (k + 1) dot found in omega (arith, below k refl)
here_within unit None n dot below found = here_or_none (eqb unit 46) n dot found

last_dot-within : (units : List ℕ) (dot : ℕ) → last_dot units ≡ Some dot → dot < length units
last_dot-within [] dot found = absurd (none-some dot found)
last_dot-within (unit ∷ rest) dot found = here_within unit (last_dot rest) (length rest) dot (λ k e. last_dot-within rest k e) found

-- the last dot before a place is before it
pub last_dot-before : (units : List ℕ) (end dot : ℕ) → last_dot (take end units) ≡ Some dot → dot < end
last_dot-before units end dot found = omega (arith, length-take end units, last_dot-within (take end units) dot found)
