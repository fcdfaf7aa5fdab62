-- Offsets that are carried over: by index, by homes and by places, and back.
use Rattle.std.proofs.Common.{◌≡◌, ℕ, zero, suc, ◌+◌, ◌-◌, ◌<◌, ◌≤◌, Bool, true, false, cond, List, [], ◌∷◌, ◌++◌, length, take, map, get_or, Option, Some, None, IfSome, Result, Ok, Err, IfOk, refl, sym, ap, subst, ◌∙◌, arith, inl, inr}
use Rattle.std.specs.Prelude.{slice_get, ◌==◌, ◌||◌}
use Rattle.std.specs.List.Sorted.{IsStrictlyIncreasing}
use Rattle.std.proofs.lemmas.Bool.{eqb-true, cases_lt}
use Rattle.std.proofs.lemmas.List.{length-map}
use Rattle.std.proofs.lemmas.Option.{none-some, slice_get_within, get_or_from_slice_get, slice_get-get_or}
use Rattle.code_model.specs.declared.instr.Instr.{Instr}
use Rattle.code_model.specs.declared.instr.Code.{Code}
use Rattle.code_model.specs.declared.laying.Group.{Group}
use Rattle.code_model.specs.declared.laying.Homes.{Homes}
use Rattle.code_model.specs.Instructions.{Reads, end_of}
use Rattle.code_model.specs.Groups.{AreGroups, is_start}
use Rattle.code_model.specs.Layout.{Spot, all_spots, with_spots, found_beside, homes_of, instruction_origin, place_in, starts_in}
use Rattle.code_model.specs.Offsets.{AreRising, IsRead, StaysInPlace, RisesStrictly, code_end, offsets_of, own_spot, own_spots, unmoved_homes}
use Rattle.code_model.proofs.CodeLayouts.Layouts.{homes-increasing, places-increasing, starts-increasing}
use Rattle.code_model.proofs.Offsets.Lookups.{Rises, Rises-from_below, Rises-increasing}
use Rattle.code_model.proofs.CodeLayouts.Ready.{groups_read}
use Rattle.code_model.proofs.Reading.Readings.{at-instruction_at}
use Rattle.code_model.proofs.Reading.Lengths.{size_at-some}
use Rattle.code_model.proofs.Offsets.Searches.{rise-lt, rise-le, found-in_order}

-- ---- by index

-- where a number is found beside another, both stand at one index
pub record IsAt (xs ys : List ℕ) (x y : ℕ) : Type 0 where
  pub index : ℕ
  pub within : index < length xs
  pub number : get_or xs index 0 ≡ x
  pub beside : slice_get ys index ≡ Some y

later : (n m : ℕ) (xs ys : List ℕ) (x y : ℕ) → IsAt xs ys x y → IsAt (n ∷ xs) (m ∷ ys) x y
later n m xs ys x y h = let within = h.within in record { index = suc h.index; within = omega arith; number = h.number; beside = h.beside }

pub index_of : (xs ys : List ℕ) (x y : ℕ) → found_beside xs ys x ≡ Some y → IsAt xs ys x y
index_of [] ys x y e = absurd (none-some y e)
index_of (n ∷ xs) [] x y e = absurd (none-some y e)
index_of (n ∷ xs) (m ∷ ys) x y e = by (n == x) refl e (λ r. index_of xs ys x y r) where
  by : (b : Bool) → (n == x) ≡ b → cond b (Some m) (found_beside xs ys x) ≡ Some y → (found_beside xs ys x ≡ Some y → IsAt xs ys x y) → IsAt (n ∷ xs) (m ∷ ys) x y
  by true is e rest = record { index = 0; within = omega arith; number = eqb-true n x is; beside = e }
  by false is e rest = later n m xs ys x y (rest e)

-- the smaller of two numbers of a rising list stands in front
in_front : (xs : List ℕ) (i j : ℕ) → IsStrictlyIncreasing xs → i < length xs → get_or xs i 0 < get_or xs j 0 → i < j
in_front xs i j up within less = elim (cases_lt i j) [
  | inl lt ↦ lt
  | inr ge ↦ let le = rise-le xs up j i ge within in absurd (omega arith)
]

pub rises : (xs ys : List ℕ) → IsStrictlyIncreasing xs → IsStrictlyIncreasing ys → RisesStrictly (found_beside xs ys)
rises xs ys ups upt a b x y ea eb less =
    let i = index_of xs ys a x ea in
    let j = index_of xs ys b y eb in
    let ni = i.number in
    let nj = j.number in
    let front = in_front xs i.index j.index ups i.within (omega arith) in
    let here = get_or_from_slice_get ys i.index x 0 i.beside in
    let there = get_or_from_slice_get ys j.index y 0 j.beside in
    let above = rise-lt ys upt i.index j.index front (slice_get_within ys j.index y j.beside) in
    omega arith

pub are_rising : (moved : Homes) → IsStrictlyIncreasing moved.from → IsStrictlyIncreasing moved.home → IsStrictlyIncreasing moved.place
    → length moved.home ≡ length moved.from → length moved.place ≡ length moved.from → AreRising moved
are_rising moved starts homes places each_home each_place = record {
  starts = starts;
  homes = homes;
  places = places;
  each_home = each_home;
  each_place = each_place;
  by_home = rises moved.from moved.home starts homes;
  by_place = rises moved.from moved.place starts places;
}

-- ---- of code that is laid out

pub laid_rise : (front : List ℕ) (groups : List Group) → AreGroups groups → AreRising (homes_of front groups)
laid_rise front groups a =
    let spots = all_spots front groups in
    let count = length-map spots (λ (s : Spot). s.from) in
    are_rising (homes_of front groups) (starts-increasing a.bytes front groups (groups_read groups a)) (homes-increasing front groups) (places-increasing front groups)
    (length-map spots (λ (s : Spot). s.home) ∙ sym count) (length-map spots (λ (s : Spot). s.place) ∙ sym count)

-- ---- a place and its origin

-- an entry among the first so many
pub slice_get-take : {A : Type 0} (n : ℕ) (xs : List A) (i : ℕ) → i < n → slice_get (take n xs) i ≡ slice_get xs i
slice_get-take zero xs i lt = absurd (omega arith)
slice_get-take (suc n) [] i lt = refl
slice_get-take (suc n) (x ∷ xs) zero lt = refl
slice_get-take (suc n) (x ∷ xs) (suc i) lt = slice_get-take n xs i (omega arith)

pub slice_get-taken : {A : Type 0} (n : ℕ) (xs : List A) (i : ℕ) (x : A) → slice_get (take n xs) i ≡ Some x → i < n
slice_get-taken zero xs i x e = absurd (none-some x e)
slice_get-taken (suc n) [] i x e = absurd (none-some x e)
slice_get-taken (suc n) (y ∷ xs) zero x e = omega arith
slice_get-taken (suc n) (y ∷ xs) (suc i) x e = let rest = slice_get-taken n xs i x e in omega arith

pub slice_get-not_taken : {A : Type 0} (n : ℕ) (xs : List A) (i : ℕ) → n ≤ i → slice_get (take n xs) i ≡ None
slice_get-not_taken zero xs i le = refl
slice_get-not_taken (suc n) [] i le = refl
slice_get-not_taken (suc n) (y ∷ xs) zero le = absurd (omega arith)
slice_get-not_taken (suc n) (y ∷ xs) (suc i) le = slice_get-not_taken n xs i (omega arith)

module _ (moved : Homes) (r : AreRising moved) where
  pub origin-found : (place at : ℕ) → instruction_origin moved place ≡ Some at → (place_in moved at ≡ Some place) × (at < code_end moved)
  origin-found place at e =
      let last = length moved.from - 1 in
      let i = index_of moved.place (starts_in moved) place at e in
      let within = i.within in
      let number = i.number in
      let lt = slice_get-taken last moved.from i.index at i.beside in
      let start = sym (slice_get-take last moved.from i.index lt) ∙ i.beside in
      let here = get_or_from_slice_get moved.from i.index at 0 start in
      let few = slice_get_within moved.from i.index at start in
      let found = found-in_order moved.from moved.place i.index at r.starts few here in
      let end = rise-lt moved.from r.starts i.index last lt (omega arith) in
      (found ∙ slice_get-get_or moved.place i.index 0 i.within ∙ ap (λ n. let o : Option ℕ = Some n in o) i.number, omega arith)

  pub origin-only : (place at : ℕ) → place_in moved at ≡ Some place → at < code_end moved → instruction_origin moved place ≡ Some at
  origin-only place at e less =
      let last = length moved.from - 1 in
      let i = index_of moved.from moved.place at place e in
      let within = i.within in
      let number = i.number in
      let lt = in_front moved.from i.index last r.starts i.within (omega arith) in
      let few = slice_get_within moved.place i.index place i.beside in
      let here = get_or_from_slice_get moved.place i.index place 0 i.beside in
      let found = found-in_order moved.place (starts_in moved) i.index place r.places few here in
      found ∙ slice_get-take last moved.from i.index lt ∙ slice_get-get_or moved.from i.index 0 i.within ∙ ap (λ n. let o : Option ℕ = Some n in o) i.number

  pub found-of : (place : ℕ) (o : Option ℕ) → o ≡ instruction_origin moved place → IfSome o (λ at. (place_in moved at ≡ Some place) × (at < code_end moved))
  found-of place None e = tt
  found-of place (Some at) e = origin-found place at (sym e)

-- ---- code that stays where it is

own_rise : (bytes : List ℕ) (start : ℕ) (instrs : List Instr) → Reads bytes start instrs → Rises start (map (λ (i : Instr). i.at) instrs ++ length bytes ∷ [])
own_rise bytes start [] reads = (omega (arith, reads), tt)
own_rise bytes start (i ∷ instrs) reads =
    let is_start = at-instruction_at bytes start i reads.0 in
    let some = size_at-some i.at i in
    let rest = own_rise bytes (end_of i) instrs reads.1 in
    (omega arith, Rises-from_below (i.at + 1) (end_of i) _ (omega arith) rest)

pub unmoved_rise : (code : Code) → IsRead code → AreRising (unmoved_homes code)
unmoved_rise code read =
    let ends : Rises 0 (offsets_of code) = subst (λ n. Rises 0 (map (λ (i : Instr). i.at) code.instrs ++ n ∷ [])) (sym read.1.len) (own_rise read.0 0 code.instrs read.1.instrs) in
    let up = Rises-increasing 0 (offsets_of code) ends in
    are_rising (unmoved_homes code) up up up refl refl

found-itself : (instrs : List Instr) (end at : ℕ) → found_beside (map (λ (i : Instr). i.at) instrs ++ end ∷ []) (map (λ (i : Instr). i.at) instrs ++ end ∷ []) at
    ≡ cond (is_start instrs at || end == at) (Some at) None
found-itself [] end at = by (end == at) refl where
  by : (b : Bool) → (end == at) ≡ b → cond b (Some end) None ≡ cond b (Some at) None
  by true is = ap (λ n. let o : Option ℕ = Some n in o) (eqb-true end at is)
  by false is = refl
found-itself (i ∷ instrs) end at = by (i.at == at) refl (found-itself instrs end at) where
  by : (b : Bool) → (i.at == at) ≡ b
      → found_beside (map (λ (j : Instr). j.at) instrs ++ end ∷ []) (map (λ (j : Instr). j.at) instrs ++ end ∷ []) at ≡ cond (is_start instrs at || end == at) (Some at) None
      → cond b (Some i.at) (found_beside (map (λ (j : Instr). j.at) instrs ++ end ∷ []) (map (λ (j : Instr). j.at) instrs ++ end ∷ []) at)
      ≡ cond ((b || is_start instrs at) || end == at) (Some at) None
  by true is rest = ap (λ n. let o : Option ℕ = Some n in o) (eqb-true i.at at is)
  by false is rest = rest

pub unmoved_stays : (code : Code) → StaysInPlace code (unmoved_homes code)
unmoved_stays code at = (found-itself code.instrs code.len at, found-itself code.instrs code.len at)

-- homes that were made of the spots of instructions that stay
own_numbers : (number : Spot → ℕ) → ((at : ℕ) → number (own_spot at) ≡ at) → (instrs : List Instr) → map number (own_spots instrs) ≡ map (λ (i : Instr). i.at) instrs
own_numbers number law [] = refl
own_numbers number law (i ∷ instrs) = ap (λ n. n ∷ map number (own_spots instrs)) (law i.at) ∙ ap (λ (ns : List ℕ). i.at ∷ ns) (own_numbers number law instrs)

abbrev no_homes : Homes
no_homes = record { from = []; home = []; place = [] }

own_made : (code : Code) → with_spots (with_spots no_homes (own_spots code.instrs)) (own_spot code.len ∷ []) ≡ unmoved_homes code
own_made code =
    let froms = own_numbers (λ (s : Spot). s.from) (λ at. refl) code.instrs in
    let homes = own_numbers (λ (s : Spot). s.home) (λ at. refl) code.instrs in
    let places = own_numbers (λ (s : Spot). s.place) (λ at. refl) code.instrs in
    let with_from : List ℕ → Homes = λ ns. record { from = ns ++ code.len ∷ []; home = map (λ (s : Spot). s.home) (own_spots code.instrs) ++ code.len ∷ []; place = map (λ (s : Spot). s.place) (own_spots code.instrs) ++ code.len ∷ [] } in
    let with_home : List ℕ → Homes = λ ns. record { from = offsets_of code; home = ns ++ code.len ∷ []; place = map (λ (s : Spot). s.place) (own_spots code.instrs) ++ code.len ∷ [] } in
    let with_place : List ℕ → Homes = λ ns. record { from = offsets_of code; home = offsets_of code; place = ns ++ code.len ∷ [] } in
    ap with_from froms ∙ ap with_home homes ∙ ap with_place places

pub own_homes_made : (code : Code) (empty added all : Homes) (instrs : List Instr) → empty ≡ no_homes → instrs ≡ code.instrs → added ≡ with_spots empty (own_spots instrs)
    → all ≡ with_spots added (own_spot code.len ∷ []) → all ≡ unmoved_homes code
own_homes_made code empty added all instrs none same first last =
    last ∙ ap (λ (h : Homes). with_spots h (own_spot code.len ∷ [])) (first ∙ ap (λ (is : List Instr). with_spots empty (own_spots is)) same ∙ ap (λ (h : Homes). with_spots h (own_spots code.instrs)) none) ∙ own_made code

-- what is said of homes that were made
pub made_rise : (code : Code) → IsRead code → {E : Type 0} (r : Result Homes E) → IfOk r (λ (h : Homes). h ≡ unmoved_homes code) → IfOk r (λ (h : Homes). AreRising h)
made_rise code read (Ok h) is = subst AreRising (sym is) (unmoved_rise code read)
made_rise code read (Err e) is = tt

pub made_stay : (code : Code) {E : Type 0} (r : Result Homes E) → IfOk r (λ (h : Homes). h ≡ unmoved_homes code) → IfOk r (λ (h : Homes). StaysInPlace code h)
made_stay code (Ok h) is = subst (StaysInPlace code) (sym is) (unmoved_stays code)
made_stay code (Err e) is = tt
