-- What is put piece by piece.
use Rattle.std.proofs.Common.{◌≡◌, ℕ, zero, suc, ◌+◌, ◌<◌, ◌≤◌, Bool, true, false, cond, Option, Some, None, List, [], ◌∷◌, ◌++◌, length, get_or, take, drop, refl, sym, ap, ◌∙◌, append_assoc, arith}
use Rattle.std.specs.Prelude.{replicate, zip}
use Rattle.std.specs.List.{flat_map}
use Rattle.std.proofs.lemmas.List.{drop_more}
use Rattle.code_model.specs.declared.laying.Group.{Group}
use Rattle.code_model.specs.Layout.{width_of, instr_bytes, place_of, group_end, end_from, groups_bytes, fits_branch, first_far_from}
use Rattle.code_model.proofs.CodeLayouts.Walks.{left_at}

abbrev zeros : List ℕ
zeros = 0 ∷ 0 ∷ 0 ∷ []

pub take-zeros : (n : ℕ) → n ≤ 3 → take n zeros ≡ replicate n 0
take-zeros zero le = refl
take-zeros (suc zero) le = refl
take-zeros (suc (suc zero)) le = refl
take-zeros (suc (suc (suc zero))) le = refl
take-zeros (suc (suc (suc (suc n)))) le = absurd (omega arith)

-- pieces one behind the other
pub put_two : (out a b o1 o2 : List ℕ) → o1 ≡ out ++ a → o2 ≡ o1 ++ b → o2 ≡ out ++ (a ++ b)
put_two out a b o1 o2 p q = q ∙ ap (λ t. t ++ b) p ∙ append_assoc out a b

pub put_four : (out a b c d o1 o2 o3 o4 : List ℕ) → o1 ≡ out ++ a → o2 ≡ o1 ++ b → o3 ≡ o2 ++ c → o4 ≡ o3 ++ d → o4 ≡ out ++ (a ++ (b ++ (c ++ d)))
put_four out a b c d o1 o2 o3 o4 p q r s = put_two out a (b ++ (c ++ d)) o1 o4 p (put_two o1 b (c ++ d) o2 o4 q (put_two o2 c d o3 o4 r s))

pub put_five : (out a b c d e o1 o2 o3 o4 o5 : List ℕ) → o1 ≡ out ++ a → o2 ≡ o1 ++ b → o3 ≡ o2 ++ c → o4 ≡ o3 ++ d → o5 ≡ o4 ++ e → o5 ≡ out ++ (a ++ (b ++ (c ++ (d ++ e))))
put_five out a b c d e o1 o2 o3 o4 o5 p q r s t = put_two out a (b ++ (c ++ (d ++ e))) o1 o5 p (put_four o1 b c d e o2 o3 o4 o5 q r s t)

-- one piece more of those that are left: what is left behind it is the whole again
pub put_next : (total out piece rest out' : List ℕ) → out ++ (piece ++ rest) ≡ total → out' ≡ out ++ piece → out' ++ rest ≡ total
put_next total out piece rest out' so_far put = ap (λ t. t ++ rest) put ∙ append_assoc out piece rest ∙ so_far

pub put_item : {A : Type 0} (f : A → List ℕ) (total out out' : List ℕ) (xs : List A) (i : ℕ) (x : A) → i < length xs → x ≡ get_or xs i x
    → out ++ flat_map f (drop i xs) ≡ total → out' ≡ out ++ f x → out' ++ flat_map f (drop (i + 1) xs) ≡ total
put_item f total out out' xs i x lt is so_far put =
    let left : drop i xs ≡ x ∷ drop (i + 1) xs = drop_more xs i x lt ∙ ap (λ y. y ∷ drop (i + 1) xs) (sym is) in
    put_next total out (f x) (flat_map f (drop (i + 1) xs)) out' (ap (λ ys. out ++ flat_map f ys) (sym left) ∙ so_far) put

pub put_row : {A B : Type 0} (f : A × B → List ℕ) (total out out' : List ℕ) (xs : List A) (ys : List B) (i : ℕ) (x : A) (y : B) → i < length xs → i < length ys → get_or xs i x ≡ x → get_or ys i y ≡ y
    → out ++ flat_map f (zip (drop i xs) (drop i ys)) ≡ total → out' ≡ out ++ f (x, y) → out' ++ flat_map f (zip (drop (i + 1) xs) (drop (i + 1) ys)) ≡ total
put_row {A = A} {B = B} f total out out' xs ys i x y lt lt' isx isy so_far put =
    let left : drop i xs ≡ x ∷ drop (i + 1) xs = drop_more xs i x lt ∙ ap (λ (z : A). z ∷ drop (i + 1) xs) isx in
    let left' : drop i ys ≡ y ∷ drop (i + 1) ys = drop_more ys i y lt' ∙ ap (λ (z : B). z ∷ drop (i + 1) ys) isy in
    let both : zip (drop i xs) (drop i ys) ≡ (x, y) ∷ zip (drop (i + 1) xs) (drop (i + 1) ys) = ap (λ (zs : List A). zip zs (drop i ys)) left ∙ ap (λ (zs : List B). zip (x ∷ drop (i + 1) xs) zs) left' in
    put_next total out (f (x, y)) (flat_map f (zip (drop (i + 1) xs) (drop (i + 1) ys))) out' (ap (λ (zs : List (A × B)). out ++ flat_map f zs) (sym both) ∙ so_far) put

-- ---- groups

near_by : (b : Bool) (rest : Option ℕ) (at : ℕ) → cond b rest (Some at) ≡ None → (b ≡ true) × (rest ≡ None)
near_by true rest at e = (refl, e)
near_by false rest at e = absurd cc

-- none of the groups behind the first is too far
pub near-first : (home : ℕ → ℕ) (at : ℕ) (g : Group) (rest : List Group) → first_far_from home at (g ∷ rest) ≡ None → (fits_branch home (place_of at g) (width_of g.instr) g.instr.arg ≡ true) × (first_far_from home (group_end at g) rest ≡ None)
near-first home at g rest e = near_by _ (first_far_from home (group_end at g) rest) g.instr.at e

pub near-next : (home : ℕ → ℕ) (at i : ℕ) (gs : List Group) (g : Group) → i < length gs → g ≡ get_or gs i g → first_far_from home at (drop i gs) ≡ None → first_far_from home (group_end at g) (drop (i + 1) gs) ≡ None
near-next home at i gs g lt is e = (near-first home at g (drop (i + 1) gs) (ap (first_far_from home at) (sym (left_at gs i g lt is)) ∙ e)).1

pub short-next : (at i : ℕ) (gs : List Group) (g : Group) → i < length gs → g ≡ get_or gs i g → end_from at (drop i gs) ≤ 65535 → end_from (group_end at g) (drop (i + 1) gs) ≤ 65535
short-next at i gs g lt is le = let same : end_from at (drop i gs) ≡ end_from (group_end at g) (drop (i + 1) gs) = ap (end_from at) (left_at gs i g lt is) in omega arith

pub put_group : (home : ℕ → ℕ) (total out o1 o2 : List ℕ) (at i : ℕ) (gs : List Group) (g : Group) → i < length gs → g ≡ get_or gs i g → out ++ groups_bytes home at (drop i gs) ≡ total
    → o1 ≡ out ++ g.before → o2 ≡ o1 ++ instr_bytes home (place_of at g) g.instr → o2 ++ groups_bytes home (group_end at g) (drop (i + 1) gs) ≡ total
put_group home total out o1 o2 at i gs g lt is so_far p q =
    let rest = groups_bytes home (group_end at g) (drop (i + 1) gs) in
    let instr = instr_bytes home (place_of at g) g.instr in
    let here : out ++ (g.before ++ (instr ++ rest)) ≡ total = ap (λ hs. out ++ groups_bytes home at hs) (sym (left_at gs i g lt is)) ∙ so_far in
    put_next total o1 instr rest o2 (put_next total out g.before (instr ++ rest) o1 here p) q
