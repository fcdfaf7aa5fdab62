-- Groups that follow one another: where they stand and end, and their bytes.
use Rattle.std.proofs.Common.{◌≡◌, ℕ, suc, ◌+◌, ◌-◌, ◌<◌, ◌≤◌, List, [], ◌∷◌, ◌++◌, length, get_or, take, drop, Some, refl, sym, ap, subst, ◌∙◌, append_assoc, arith}
use Rattle.std.specs.Prelude.{slice_get}
use Rattle.std.proofs.lemmas.List.{append-nil, length-append, drop_more, take_more}
use Rattle.std.proofs.lemmas.Option.{same_Some, slice_get_within}
use Rattle.code_model.specs.declared.laying.Group.{Group}
use Rattle.code_model.specs.Layout.{Spot, instr_bytes, size_at, place_of, group_end, spots_from, end_from, source_end, homes_of, home_of, groups_bytes, laid_of}
use Rattle.code_model.proofs.Reading.Lengths.{length-instr_bytes}

-- groups end where they begin, or behind it
pub le-end_from : (at : ℕ) (gs : List Group) → at ≤ end_from at gs
le-end_from at [] = omega arith
le-end_from at (g ∷ gs) = let rest = le-end_from (group_end at g) gs in omega arith

-- so does the first of them
pub first_end-le : (at : ℕ) (g : Group) (gs : List Group) → group_end at g ≤ end_from at (g ∷ gs)
first_end-le at g gs = le-end_from (group_end at g) gs

-- what is left at a group that a loop reads
pub left_at : {A : Type 0} (xs : List A) (i : ℕ) (x : A) → i < length xs → x ≡ get_or xs i x → drop i xs ≡ x ∷ drop (i + 1) xs
left_at xs i x lt is = drop_more xs i x lt ∙ ap (λ y. y ∷ drop (i + 1) xs) (sym is)

pub taken_at : {A : Type 0} (xs : List A) (i : ℕ) (x : A) → i < length xs → x ≡ get_or xs i x → take (i + 1) xs ≡ take i xs ++ x ∷ []
taken_at xs i x lt is = take_more xs i x lt ∙ ap (λ y. take i xs ++ y ∷ []) (sym is)

-- the group that a loop reads ends before they all do
pub read_end-le : (at i : ℕ) (gs : List Group) (g : Group) → i < length gs → g ≡ get_or gs i g → group_end at g ≤ end_from at (drop i gs)
read_end-le at i gs g lt is =
    let left = left_at gs i g lt is in
    subst (λ (xs : List Group). group_end at g ≤ end_from at xs) (sym left) (first_end-le at g (drop (i + 1) gs))

-- and its instruction stands before that
pub read_place-le : (at i : ℕ) (gs : List Group) (g : Group) → i < length gs → g ≡ get_or gs i g → place_of at g ≤ end_from at (drop i gs)
read_place-le at i gs g lt is = let ends = read_end-le at i gs g lt is in omega arith

-- for the bounds of places
pub ruleset walk_bounds = (le-end_from, read_end-le, read_place-le)

-- the original code ends where its last instruction does
pub source_end_last : (end : ℕ) (gs : List Group) (g : Group) → slice_get gs (length gs - 1) ≡ Some g → source_end end gs ≡ g.instr.at + size_at g.instr.at g.instr
source_end_last end [] g here = let within = slice_get_within [] 0 g here in absurd (omega arith)
source_end_last end (h ∷ []) g here = ap (λ (k : Group). k.instr.at + size_at k.instr.at k.instr) (same_Some h g here)
source_end_last end (h ∷ k ∷ gs) g here =
    source_end_last (h.instr.at + size_at h.instr.at h.instr) (k ∷ gs) g (let less : length (h ∷ k ∷ gs) - 1 ≡ suc (length (k ∷ gs) - 1) = omega arith in ap (slice_get (h ∷ k ∷ gs)) (sym less) ∙ here)

-- ---- groups, and then others

pub end_from-append : (at : ℕ) (gs hs : List Group) → end_from at (gs ++ hs) ≡ end_from (end_from at gs) hs
end_from-append at [] hs = refl
end_from-append at (g ∷ gs) hs = end_from-append (group_end at g) gs hs

pub spots_from-append : (at : ℕ) (gs hs : List Group) → spots_from at (gs ++ hs) ≡ spots_from at gs ++ spots_from (end_from at gs) hs
spots_from-append at [] hs = refl
spots_from-append at (g ∷ gs) hs = ap (λ (spots : List Spot). record { from = g.instr.at; home = at; place = place_of at g } ∷ spots) (spots_from-append (group_end at g) gs hs)

pub groups_bytes-append : (home : ℕ → ℕ) (at : ℕ) (gs hs : List Group) → groups_bytes home at (gs ++ hs) ≡ groups_bytes home at gs ++ groups_bytes home (end_from at gs) hs
groups_bytes-append home at [] hs = refl
groups_bytes-append home at (g ∷ gs) hs =
    let instr = instr_bytes home (place_of at g) g.instr in
    let rest = groups_bytes home (group_end at g) gs in
    let more = groups_bytes home (end_from (group_end at g) gs) hs in
    ap (λ (bytes : List ℕ). g.before ++ (instr ++ bytes)) (groups_bytes-append home (group_end at g) gs hs)
    ∙ ap (λ (bytes : List ℕ). g.before ++ bytes) (sym (append_assoc instr rest more)) ∙ sym (append_assoc g.before (instr ++ rest) more)

-- one group more
pub groups_bytes-more : (home : ℕ → ℕ) (at i : ℕ) (gs : List Group) (g : Group) → i < length gs → g ≡ get_or gs i g
    → groups_bytes home at (take (i + 1) gs) ≡ groups_bytes home at (take i gs) ++ (g.before ++ instr_bytes home (place_of (end_from at (take i gs)) g) g.instr)
groups_bytes-more home at i gs g lt is =
    let place = place_of (end_from at (take i gs)) g in
    ap (groups_bytes home at) (taken_at gs i g lt is) ∙ groups_bytes-append home at (take i gs) (g ∷ [])
    ∙ ap (λ (bytes : List ℕ). groups_bytes home at (take i gs) ++ (g.before ++ bytes)) (append-nil (instr_bytes home place g.instr))

-- what was put, one piece behind the other
pub put_on : (start so_far before instr whole out out' out'' : List ℕ) → out ≡ start ++ so_far → out' ≡ out ++ before → out'' ≡ out' ++ instr → whole ≡ so_far ++ (before ++ instr) → out'' ≡ start ++ whole
put_on start so_far before instr whole out out' out'' p q r e =
    let pieces : (start ++ so_far) ++ before ++ instr ≡ start ++ (so_far ++ (before ++ instr)) = simp append_assoc in
    cc

-- groups have as many bytes as they take
pub length-groups_bytes : (home : ℕ → ℕ) (at : ℕ) (gs : List Group) → at + length (groups_bytes home at gs) ≡ end_from at gs
length-groups_bytes home at [] = omega arith
length-groups_bytes home at (g ∷ gs) =
    let rest = length-groups_bytes home (group_end at g) gs in
    let bytes = groups_bytes home (group_end at g) gs in
    let instr = instr_bytes home (place_of at g) g.instr in
    omega (arith, length-append g.before (instr ++ bytes), length-append instr bytes, length-instr_bytes home (place_of at g) g.instr, rest)

-- and so has the code
pub length-laid_of : (front : List ℕ) (gs : List Group) (back : List ℕ) → length (laid_of front gs back).code ≡ end_from (length front) gs + length back
length-laid_of front gs back =
    let bytes = groups_bytes (home_of (homes_of front gs)) (length front) gs in
    omega (arith, length-append front (bytes ++ back), length-append bytes back, length-groups_bytes (home_of (homes_of front gs)) (length front) gs)
