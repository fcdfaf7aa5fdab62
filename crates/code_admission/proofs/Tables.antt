-- A table of the starts of instructions, while it is made.
use Rattle.std.proofs.Common.{◌≡◌, ℕ, zero, suc, ◌+◌, ◌<◌, Bool, true, false, List, [], ◌∷◌, length, refl, sym, ap, subst, ◌∙◌, ◌||◌, eqb-true, get_or, drop, arith}
use Rattle.std.specs.Prelude.{◌==◌, unwrap_or, slice_get, slice_set}
use Rattle.std.proofs.lemmas.Bool.{eqb-false}
use Rattle.std.proofs.lemmas.List.{length-set, drop_more}
use Rattle.code_model.specs.declared.instr.Instr.{Instr}
use Rattle.code_model.specs.Groups.{is_start}
use Rattle.code_admission.specs.Uses.{AreWithin}

-- something starts at this offset, by the table
abbrev pub is_marked : List Bool → ℕ → Bool
is_marked starts at = unwrap_or (slice_get starts at) false

-- the starts are marked but for those of the instructions that are left
pub record IsMarking (len : ℕ) (all : List Instr) (starts : List Bool) (left : List Instr) : Type 0 where
  pub room : length starts ≡ len
  pub within : AreWithin len left
  pub tells : (at : ℕ) → (is_marked starts at || is_start left at) ≡ is_start all at

set_here : (starts : List Bool) (i : ℕ) → i < length starts → is_marked (slice_set starts i true) i ≡ true
set_here [] i within = absurd (omega arith)
set_here (b ∷ starts) zero within = refl
set_here (b ∷ starts) (suc i) within = set_here starts i (omega arith)

set_elsewhere : (starts : List Bool) (i at : ℕ) → (i ≡ at → ⊥) → is_marked (slice_set starts i true) at ≡ is_marked starts at
set_elsewhere [] i at other = refl
set_elsewhere (b ∷ starts) zero zero other = absurd (other refl)
set_elsewhere (b ∷ starts) zero (suc at) other = refl
set_elsewhere (b ∷ starts) (suc i) zero other = refl
set_elsewhere (b ∷ starts) (suc i) (suc at) other = set_elsewhere starts i at (λ e. other (ap suc e))

set_marks : (starts : List Bool) (i at : ℕ) → i < length starts → is_marked (slice_set starts i true) at ≡ (i == at || is_marked starts at)
set_marks starts i at within = by_case (i == at) refl
  where
    by_case : (b : Bool) → (i == at) ≡ b → is_marked (slice_set starts i true) at ≡ (b || is_marked starts at)
    by_case true e = ap (is_marked (slice_set starts i true)) (sym (eqb-true i at e)) ∙ set_here starts i within
    by_case false e = set_elsewhere starts i at (eqb-false i at e)

exchanged : (a b c : Bool) → ((a || b) || c) ≡ (b || (a || c))
exchanged true true c = refl
exchanged true false c = refl
exchanged false b c = refl

marks_one : (len : ℕ) (all : List Instr) (starts : List Bool) (i : Instr) (left : List Instr) → IsMarking len all starts (i ∷ left)
    → IsMarking len all (slice_set starts i.at true) left
marks_one len all starts i left m = record {
  room = length-set starts i.at true ∙ m.room;
  within = m.within.1;
  tells = λ at. ap (λ b. b || is_start left at) (set_marks starts i.at at (let here = m.within.0 in let room = m.room in omega arith))
      ∙ exchanged (i.at == at) (is_marked starts at) (is_start left at) ∙ m.tells at;
}

-- one more is marked
pub marks : (len : ℕ) (all : List Instr) (starts : List Bool) (n : ℕ) (i : Instr) → n < length all → i ≡ get_or all n i → IsMarking len all starts (drop n all)
    → IsMarking len all (slice_set starts i.at true) (drop (n + 1) all)
marks len all starts n i within is m = marks_one len all starts i (drop (n + 1) all) (subst (IsMarking len all starts) (drop_more all n i within ∙ ap (λ (x : Instr). x ∷ drop (n + 1) all) (sym is)) m)
