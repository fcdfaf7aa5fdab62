-- Code that was laid out: what stands at each home and each place of it.
use Rattle.std.proofs.Common.{◌≡◌, ℕ, zero, suc, ◌+◌, ◌≤◌, List, [], ◌∷◌, ◌++◌, length, take, drop, map, Option, Some, refl, sym, ap, subst, ◌∙◌, append_assoc, arith, inl, inr}
use Rattle.std.specs.Prelude.{slice_get, ◌⊎◌}
use Rattle.std.specs.List.Sorted.{IsStrictlyIncreasing}
use Rattle.std.specs.Option.{option_map}
use Rattle.std.proofs.lemmas.List.{append-nil, length-append, take_at, drop_at}
use Rattle.std.proofs.lemmas.Option.{same_Some, none-some, slice_get-map}
use Rattle.code_model.specs.declared.instr.Instr.{Instr}
use Rattle.code_model.specs.declared.laying.Group.{Group}
use Rattle.code_model.specs.declared.laying.Homes.{Homes}
use Rattle.code_model.specs.Instructions.{instruction_at, end_of, Reads}
use Rattle.code_model.specs.Layout.{Spot, width_of, instr_bytes, size_at, instr_moved, place_of, group_end, spots_from, end_from, source_end, all_spots, homes_of, home_in, place_in, origin_in, home_of, found_beside, groups_bytes, laid_of}
use Rattle.code_model.proofs.Reading.Readings.{instruction_at_within}
use Rattle.code_model.proofs.CodeLayouts.Walks.{groups_bytes-append, length-groups_bytes}
use Rattle.code_model.proofs.Offsets.Lookups.{Rises, Rises-increasing, found, found_beside-at, found_beside-back, spot-found_beside}
use Rattle.code_model.proofs.CodeLayouts.Among.{homes_rise, places_rise, starts_rise, reads_middle, spot_of, spots_and_end, spots_split, first_spot, IsGroupSpot, end_spot, which_spot, source_end-reads}
use Rattle.code_model.specs.Groups.{IsBytes, CanBranch, instrs_of}
use Rattle.code_model.proofs.Reading.Again.{IsUnmoved, instruction_again, instruction_at-among}

-- ---- what stands where

-- What is known of a group whose home is here.
pub record Stands (homes : Homes) (code : List ℕ) (g : Group) (home : ℕ) : Type 0 where
  pub home_is : home_in homes g.instr.at ≡ Some home
  pub place_is : place_in homes g.instr.at ≡ Some (place_of home g)
  pub origin_is : origin_in homes (place_of home g) ≡ Some g.instr.at
  pub before_is : take (length g.before) (drop home code) ≡ g.before
  pub before_reads : (n place : ℕ) (i : Instr) → place ≡ home + n → IsUnmoved i.arg → instruction_at g.before n ≡ Some i → instruction_at code place ≡ Some (record i { at = place })
  pub instr_is : CanBranch (home_of homes) (place_of home g) (width_of g.instr) g.instr.arg
      → instruction_at code (place_of home g) ≡ Some (instr_moved (home_of homes) (place_of home g) g.instr)
  pub next_is : home_in homes (end_of g.instr) ≡ Some (end_of (record g.instr { at = place_of home g }))

-- a number of a group's spot is found beside another that rises
beside_spot : (f k : Spot → ℕ) (low : ℕ) (front : List ℕ) (pre : List Group) (g : Group) (post : List Group) → Rises low (map f (all_spots front (pre ++ g ∷ post)))
    → found_beside (map f (all_spots front (pre ++ g ∷ post))) (map k (all_spots front (pre ++ g ∷ post))) (f (spot_of (end_from (length front) pre) g)) ≡ Some (k (spot_of (end_from (length front) pre) g))
beside_spot f k low front pre g post rises = found_beside-at f k low (all_spots front (pre ++ g ∷ post)) _ (spot_of (end_from (length front) pre) g) _ (spots_split (length front) 0 pre g post) rises

-- the offset behind it has its home behind it
next_home : (bytes front : List ℕ) (pre : List Group) (g : Group) (post : List Group) → Reads bytes 0 (instrs_of (pre ++ g ∷ post))
    → home_in (homes_of front (pre ++ g ∷ post)) (end_of g.instr) ≡ Some (group_end (end_from (length front) pre) g)
next_home bytes front pre g post reads =
    let at = end_from (length front) pre in
    let groups = pre ++ g ∷ post in
    let middle = reads_middle bytes 0 pre g post reads in
    let begins = first_spot bytes (group_end at g) (end_of g.instr) (end_of g.instr) post middle.1 refl in
    let before = spots_from (length front) pre in
    let split : all_spots front groups ≡ (before ++ spot_of at g ∷ []) ++ begins.spot ∷ begins.rest =
    spots_split (length front) 0 pre g post ∙ ap (λ (t : List Spot). before ++ spot_of at g ∷ t) begins.parts ∙ sym (append_assoc before (spot_of at g ∷ []) (begins.spot ∷ begins.rest)) in
    let there = found_beside-at (λ s. s.from) (λ s. s.home) 0 (all_spots front groups) (before ++ spot_of at g ∷ []) begins.spot begins.rest split (starts_rise bytes (length front) 0 groups reads) in
    ap (home_in (homes_of front groups)) (sym begins.from_is) ∙ there ∙ ap found begins.home_is

-- its bytes stand between theirs
code_split : (front : List ℕ) (back : List ℕ) (home : ℕ → ℕ) (pre : List Group) (g : Group) (post : List Group)
    → front ++ (groups_bytes home (length front) (pre ++ g ∷ post) ++ back)
    ≡ (front ++ groups_bytes home (length front) pre)
    ++ (g.before ++ (instr_bytes home (place_of (end_from (length front) pre) g) g.instr ++ (groups_bytes home (group_end (end_from (length front) pre) g) post ++ back)))
code_split front back home pre g post =
    ap (λ (t : List ℕ). front ++ (t ++ back)) (groups_bytes-append home (length front) pre (g ∷ post)) ∙ simp append_assoc

front_length : (front : List ℕ) (home : ℕ → ℕ) (pre : List Group) → length (front ++ groups_bytes home (length front) pre) ≡ end_from (length front) pre
front_length front home pre = length-append front (groups_bytes home (length front) pre) ∙ length-groups_bytes home (length front) pre

middle_stands : (bytes front back : List ℕ) (home : ℕ → ℕ) (pre : List Group) (g : Group) (post : List Group) → instruction_at bytes g.instr.at ≡ Some g.instr → IsBytes bytes
    → CanBranch home (place_of (end_from (length front) pre) g) (width_of g.instr) g.instr.arg
    → instruction_at (front ++ (groups_bytes home (length front) (pre ++ g ∷ post) ++ back)) (place_of (end_from (length front) pre) g)
    ≡ Some (instr_moved home (place_of (end_from (length front) pre) g) g.instr)
middle_stands bytes front back home pre g post here fits leads =
    let at = end_from (length front) pre in
    let place = place_of at g in
    let start = front ++ groups_bytes home (length front) pre in
    let behind = groups_bytes home (group_end at g) post ++ back in
    let len : length (start ++ g.before) ≡ place = length-append start g.before ∙ ap (λ n. n + length g.before) (front_length front home pre) in
    let again = instruction_again bytes g.instr.at g.instr here fits home (start ++ g.before) behind place len leads in
    let split = code_split front back home pre g post ∙ sym (append_assoc start g.before (instr_bytes home place g.instr ++ behind)) in
    ap (λ (t : List ℕ). instruction_at t place) split ∙ again

middle_before : (front back : List ℕ) (home : ℕ → ℕ) (pre : List Group) (g : Group) (post : List Group)
    → take (length g.before) (drop (end_from (length front) pre) (front ++ (groups_bytes home (length front) (pre ++ g ∷ post) ++ back))) ≡ g.before
middle_before front back home pre g post =
    let at = end_from (length front) pre in
    let start = front ++ groups_bytes home (length front) pre in
    let behind = instr_bytes home (place_of at g) g.instr ++ (groups_bytes home (group_end at g) post ++ back) in
    ap (λ (t : List ℕ). take (length g.before) (drop at t)) (code_split front back home pre g post)
    ∙ ap (take (length g.before)) (drop_at start (g.before ++ behind) at (front_length front home pre)) ∙ take_at g.before behind (length g.before) refl

-- an instruction of the bytes in front of a group's stands behind its home
instruction_at-before : (front back : List ℕ) (pre : List Group) (g : Group) (post : List Group) (n place : ℕ) (i : Instr) → place ≡ end_from (length front) pre + n → IsUnmoved i.arg
    → instruction_at g.before n ≡ Some i → instruction_at (laid_of front (pre ++ g ∷ post) back).code place ≡ Some (record i { at = place })
instruction_at-before front back pre g post n place i is unmoved e =
    let home = home_of (homes_of front (pre ++ g ∷ post)) in
    let at = end_from (length front) pre in
    let start = front ++ groups_bytes home (length front) pre in
    let behind = instr_bytes home (place_of at g) g.instr ++ (groups_bytes home (group_end at g) post ++ back) in
    let len = front_length front home pre in
    ap (λ (t : List ℕ). instruction_at t place) (code_split front back home pre g post) ∙ instruction_at-among start g.before behind n place i (omega arith) unmoved e

-- So it is of each group of a layout.
pub group_stands : (bytes front back : List ℕ) (pre : List Group) (g : Group) (post : List Group) → Reads bytes 0 (instrs_of (pre ++ g ∷ post)) → IsBytes bytes
    → Stands (homes_of front (pre ++ g ∷ post)) (laid_of front (pre ++ g ∷ post) back).code g (end_from (length front) pre)
group_stands bytes front back pre g post reads fits =
    let groups = pre ++ g ∷ post in
    let at = end_from (length front) pre in
    let middle = reads_middle bytes 0 pre g post reads in
    let home = home_of (homes_of front groups) in
    let starts = starts_rise bytes (length front) 0 groups reads in
    record {
      home_is = beside_spot (λ (s : Spot). s.from) (λ (s : Spot). s.home) 0 front pre g post starts;
      place_is = beside_spot (λ (s : Spot). s.from) (λ (s : Spot). s.place) 0 front pre g post starts;
      origin_is = beside_spot (λ (s : Spot). s.place) (λ (s : Spot). s.from) (length front) front pre g post (places_rise (length front) 0 groups);
      before_is = middle_before front back home pre g post;
      before_reads = instruction_at-before front back pre g post;
      instr_is = middle_stands bytes front back home pre g post middle.0 fits;
      next_is = next_home bytes front pre g post reads;
    }

-- ---- by look-ups

-- The group of an instruction that was found by a look-up: its spot has this number.
pub record IsGroupOf (homes : Homes) (code : List ℕ) (i : Instr) (number : Spot → ℕ) (found : ℕ) : Type 0 where
  pub group : Group
  pub home : ℕ
  pub instr : group.instr ≡ i
  pub number_is : number (spot_of home group) ≡ found
  pub stands : Stands homes code group home

split_group : (bytes front back : List ℕ) (pre : List Group) (g : Group) (post : List Group) (number : Spot → ℕ) → IsBytes bytes
    → (i : Instr) (found : ℕ) → instruction_at bytes i.at ≡ Some i → g.instr.at ≡ i.at → number (spot_of (end_from (length front) pre) g) ≡ found
    → Reads bytes 0 (instrs_of (pre ++ g ∷ post)) → IsGroupOf (homes_of front (pre ++ g ∷ post)) (laid_of front (pre ++ g ∷ post) back).code i number found
split_group bytes front back pre g post number fits i found here at is reads =
    let there = (reads_middle bytes 0 pre g post reads).0 in
    record {
      group = g;
      home = end_from (length front) pre;
      instr = same_Some g.instr i (sym there ∙ ap (instruction_at bytes) at ∙ here);
      number_is = is;
      stands = group_stands bytes front back pre g post reads fits;
    }

spot_group : (bytes front back : List ℕ) (gs : List Group) (number : Spot → ℕ) → Reads bytes 0 (instrs_of gs) → IsBytes bytes
    → (i : Instr) (found : ℕ) → instruction_at bytes i.at ≡ Some i → (spot : Spot) → spot.from ≡ i.at → number spot ≡ found → IsGroupSpot (length front) gs spot
    → IsGroupOf (homes_of front gs) (laid_of front gs back).code i number found
spot_group bytes front back gs number reads fits i found here spot from is s =
    let P : List Group → Type 0 = λ hs. Reads bytes 0 (instrs_of hs) → IsGroupOf (homes_of front hs) (laid_of front hs back).code i number found in
    let at : s.group.instr.at ≡ i.at = ap (λ (t : Spot). t.from) (sym s.is) ∙ from in
    subst P (sym s.parts) (split_group bytes front back s.pre s.group s.post number fits i found here at (ap number (sym s.is) ∙ is)) reads

group_of : (bytes front back : List ℕ) (gs : List Group) (number : Spot → ℕ) → Reads bytes 0 (instrs_of gs) → IsBytes bytes
    → (i : Instr) (found : ℕ) → instruction_at bytes i.at ≡ Some i → found_beside (map (λ (s : Spot). s.from) (all_spots front gs)) (map number (all_spots front gs)) i.at ≡ Some found
    → IsGroupOf (homes_of front gs) (laid_of front gs back).code i number found
group_of bytes front back gs number reads fits i found here e =
    let f = spot-found_beside (λ (s : Spot). s.from) number (all_spots front gs) i.at found e in
    let within = instruction_at_within bytes i.at i here in
    let end = source_end-reads bytes 0 0 gs reads refl in
    elim (which_spot (length front) 0 gs f.front f.spot f.rest f.parts) [
      | inl s ↦ spot_group bytes front back gs number reads fits i found here f.spot f.number f.beside s
      | inr s ↦ let from : f.spot.from ≡ source_end 0 gs = ap (λ (t : Spot). t.from) s in absurd (omega (arith, f.number))
    ]

-- the group of an instruction whose home was looked up
pub group_at_home : (bytes front back : List ℕ) (gs : List Group) → Reads bytes 0 (instrs_of gs) → IsBytes bytes
    → (i : Instr) (home : ℕ) → instruction_at bytes i.at ≡ Some i → home_in (homes_of front gs) i.at ≡ Some home
    → IsGroupOf (homes_of front gs) (laid_of front gs back).code i (λ s. s.home) home
group_at_home bytes front back gs reads fits i home here e = group_of bytes front back gs (λ s. s.home) reads fits i home here e

-- the group of an instruction whose place was looked up
pub group_at_place : (bytes front back : List ℕ) (gs : List Group) → Reads bytes 0 (instrs_of gs) → IsBytes bytes
    → (i : Instr) (place : ℕ) → instruction_at bytes i.at ≡ Some i → place_in (homes_of front gs) i.at ≡ Some place
    → IsGroupOf (homes_of front gs) (laid_of front gs back).code i (λ s. s.place) place
group_at_place bytes front back gs reads fits i place here e = group_of bytes front back gs (λ s. s.place) reads fits i place here e

-- an instruction stands at its place
pub instruction_at-place : (bytes front back : List ℕ) (gs : List Group) → Reads bytes 0 (instrs_of gs) → IsBytes bytes
    → (i : Instr) (place : ℕ) → instruction_at bytes i.at ≡ Some i → place_in (homes_of front gs) i.at ≡ Some place → CanBranch (home_of (homes_of front gs)) place (width_of i) i.arg
    → instruction_at (laid_of front gs back).code place ≡ Some (instr_moved (home_of (homes_of front gs)) place i)
instruction_at-place bytes front back gs reads fits i place here e leads =
    let o = group_at_place bytes front back gs reads fits i place here e in
    let home = home_of (homes_of front gs) in
    let there : ℕ → Instr → Option Instr = λ at j. Some (instr_moved home at j) in
    let branches : CanBranch home (place_of o.home o.group) (width_of o.group.instr) o.group.instr.arg =
    subst (λ (j : Instr). CanBranch home (place_of o.home o.group) (width_of j) j.arg) (sym o.instr) (subst (λ at. CanBranch home at (width_of i) i.arg) (sym o.number_is) leads) in
    ap (instruction_at (laid_of front gs back).code) (sym o.number_is) ∙ o.stands.instr_is branches ∙ ap (λ at. there at o.group.instr) o.number_is ∙ ap (there place) o.instr

-- and ends there where the offset behind it has its home
pub home_in-end_of : (bytes front back : List ℕ) (gs : List Group) → Reads bytes 0 (instrs_of gs) → IsBytes bytes
    → (i : Instr) (place : ℕ) → instruction_at bytes i.at ≡ Some i → place_in (homes_of front gs) i.at ≡ Some place
    → home_in (homes_of front gs) (end_of i) ≡ Some (end_of (record i { at = place }))
home_in-end_of bytes front back gs reads fits i place here e =
    let o = group_at_place bytes front back gs reads fits i place here e in
    let end : ℕ → Instr → Option ℕ = λ at j. Some (end_of (record j { at = at })) in
    ap (λ (j : Instr). home_in (homes_of front gs) (end_of j)) (sym o.instr) ∙ o.stands.next_is ∙ ap (λ at. end at o.group.instr) o.number_is ∙ ap (end place) o.instr

-- ---- the ends of a layout

-- the front stands at the start
pub front_stands : (front : List ℕ) (gs : List Group) (back : List ℕ) → take (length front) (laid_of front gs back).code ≡ front
front_stands front gs back = take_at front (groups_bytes (home_of (homes_of front gs)) (length front) gs ++ back) (length front) refl

-- the back stands where the groups end
pub back_stands : (front : List ℕ) (gs : List Group) (back : List ℕ) → drop (end_from (length front) gs) (laid_of front gs back).code ≡ back
back_stands front gs back =
    let home = home_of (homes_of front gs) in
    let split = append_assoc front (groups_bytes home (length front) gs) back in
    ap (drop (end_from (length front) gs)) (sym split) ∙ drop_at (front ++ groups_bytes home (length front) gs) back (end_from (length front) gs) (front_length front home gs)

-- so their instructions stand there
pub instruction_at-front : (front : List ℕ) (gs : List Group) (back : List ℕ) (n : ℕ) (i : Instr) → IsUnmoved i.arg → instruction_at front n ≡ Some i → instruction_at (laid_of front gs back).code n ≡ Some (record i { at = n })
instruction_at-front front gs back n i unmoved e = instruction_at-among [] front (groups_bytes (home_of (homes_of front gs)) (length front) gs ++ back) n n i (omega arith) unmoved e

pub instruction_at-back : (front : List ℕ) (gs : List Group) (back : List ℕ) (n place : ℕ) (i : Instr) → place ≡ end_from (length front) gs + n → IsUnmoved i.arg
    → instruction_at back n ≡ Some i → instruction_at (laid_of front gs back).code place ≡ Some (record i { at = place })
instruction_at-back front gs back n place i is unmoved e =
    let bytes = groups_bytes (home_of (homes_of front gs)) (length front) gs in
    let len = front_length front (home_of (homes_of front gs)) gs in
    let split : front ++ (bytes ++ back) ≡ (front ++ bytes) ++ (back ++ []) = sym (append_assoc front bytes back) ∙ ap (λ (t : List ℕ). (front ++ bytes) ++ t) (sym (append-nil back)) in
    ap (λ (t : List ℕ). instruction_at t place) split ∙ instruction_at-among (front ++ bytes) back [] n place i (omega arith) unmoved e

-- offset 0 has its home behind the front
pub home_in-start : (bytes front : List ℕ) (gs : List Group) → Reads bytes 0 (instrs_of gs) → home_in (homes_of front gs) 0 ≡ Some (length front)
home_in-start bytes front gs reads =
    let begins = first_spot bytes (length front) 0 0 gs reads refl in
    let there = found_beside-at (λ s. s.from) (λ s. s.home) 0 (all_spots front gs) [] begins.spot begins.rest begins.parts (starts_rise bytes (length front) 0 gs reads) in
    ap (home_in (homes_of front gs)) (sym begins.from_is) ∙ there ∙ ap found begins.home_is

end_beside : (bytes front : List ℕ) (gs : List Group) (number : Spot → ℕ) → Reads bytes 0 (instrs_of gs)
    → found_beside (map (λ (s : Spot). s.from) (all_spots front gs)) (map number (all_spots front gs)) (length bytes) ≡ Some (number (end_spot (source_end 0 gs) (end_from (length front) gs)))
end_beside bytes front gs number reads =
    let spot = end_spot (source_end 0 gs) (end_from (length front) gs) in
    let there = found_beside-at (λ s. s.from) number 0 (all_spots front gs) (spots_from (length front) gs) spot [] refl (starts_rise bytes (length front) 0 gs reads) in
    ap (found_beside (map (λ (s : Spot). s.from) (all_spots front gs)) (map number (all_spots front gs))) (sym (source_end-reads bytes 0 0 gs reads refl)) ∙ there

-- the end of the original code has its home and its place where the groups end
pub home_in-end : (bytes front : List ℕ) (gs : List Group) → Reads bytes 0 (instrs_of gs) → home_in (homes_of front gs) (length bytes) ≡ Some (end_from (length front) gs)
home_in-end bytes front gs reads = end_beside bytes front gs (λ s. s.home) reads

pub place_in-end : (bytes front : List ℕ) (gs : List Group) → Reads bytes 0 (instrs_of gs) → place_in (homes_of front gs) (length bytes) ≡ Some (end_from (length front) gs)
place_in-end bytes front gs reads = end_beside bytes front gs (λ s. s.place) reads

-- ---- the three lists

pub homes-increasing : (front : List ℕ) (gs : List Group) → IsStrictlyIncreasing (homes_of front gs).home
homes-increasing front gs = Rises-increasing (length front) _ (homes_rise (length front) 0 gs)

pub places-increasing : (front : List ℕ) (gs : List Group) → IsStrictlyIncreasing (homes_of front gs).place
places-increasing front gs = Rises-increasing (length front) _ (places_rise (length front) 0 gs)

pub starts-increasing : (bytes front : List ℕ) (gs : List Group) → Reads bytes 0 (instrs_of gs) → IsStrictlyIncreasing (homes_of front gs).from
starts-increasing bytes front gs reads = Rises-increasing 0 _ (starts_rise bytes (length front) 0 gs reads)

-- the origin of a place is the offset that has it
pub origin_in-place : (front : List ℕ) (gs : List Group) (at place : ℕ) → place_in (homes_of front gs) at ≡ Some place → origin_in (homes_of front gs) place ≡ Some at
origin_in-place front gs at place e = found_beside-back (λ s. s.from) (λ s. s.place) (length front) (all_spots front gs) at place (places_rise (length front) 0 gs) e

pub place_in-origin : (bytes front : List ℕ) (gs : List Group) (at place : ℕ) → Reads bytes 0 (instrs_of gs) → origin_in (homes_of front gs) place ≡ Some at → place_in (homes_of front gs) at ≡ Some place
place_in-origin bytes front gs at place reads e = found_beside-back (λ s. s.place) (λ s. s.from) 0 (all_spots front gs) place at (starts_rise bytes (length front) 0 gs reads) e

-- so no two offsets have one place
pub place_in-injective : (front : List ℕ) (gs : List Group) (a b place : ℕ) → place_in (homes_of front gs) a ≡ Some place → place_in (homes_of front gs) b ≡ Some place → a ≡ b
place_in-injective front gs a b place p q = same_Some a b (sym (origin_in-place front gs a place p) ∙ origin_in-place front gs b place q)

-- an offset that has a home has a place, there or behind it
pub place_in-home_in : (bytes front : List ℕ) (gs : List Group) (at home : ℕ) → Reads bytes 0 (instrs_of gs) → home_in (homes_of front gs) at ≡ Some home
    → (place : ℕ) × (place_in (homes_of front gs) at ≡ Some place) × (home ≤ place)
place_in-home_in bytes front gs at home reads e =
    let s = spot-found_beside (λ (t : Spot). t.from) (λ (t : Spot). t.home) (all_spots front gs) at home e in
    let there = found_beside-at (λ t. t.from) (λ t. t.place) 0 (all_spots front gs) s.front s.spot s.rest s.parts (starts_rise bytes (length front) 0 gs reads) in
    let le : s.spot.home ≤ s.spot.place = elim (which_spot (length front) 0 gs s.front s.spot s.rest s.parts) [
      | inl g ↦ subst (λ (t : Spot). t.home ≤ t.place) (sym g.is) (omega arith)
      | inr end ↦ subst (λ (t : Spot). t.home ≤ t.place) (sym end) (omega arith)
    ] in
    (s.spot.place, ap (place_in (homes_of front gs)) (sym s.number) ∙ there, omega (arith, s.beside))

-- an offset that has a home is the code's end, or begins an instruction
pub start-home_in : (bytes front : List ℕ) (gs : List Group) (at home : ℕ) → Reads bytes 0 (instrs_of gs) → home_in (homes_of front gs) at ≡ Some home
    → (at ≡ length bytes) ⊎ ((i : Instr) × (instruction_at bytes at ≡ Some i))
start-home_in bytes front gs at home reads e =
    let s = spot-found_beside (λ (t : Spot). t.from) (λ (t : Spot). t.home) (all_spots front gs) at home e in
    elim (which_spot (length front) 0 gs s.front s.spot s.rest s.parts) [
      | inl g ↦ (let middle = reads_middle bytes 0 g.pre g.group g.post (subst (λ (hs : List Group). Reads bytes 0 (instrs_of hs)) g.parts reads) in
          let from : g.group.instr.at ≡ at = ap (λ (t : Spot). t.from) (sym g.is) ∙ s.number in
          inr (g.group.instr, ap (instruction_at bytes) (sym from) ∙ middle.0))
      | inr end ↦ inl (sym s.number ∙ ap (λ (t : Spot). t.from) end ∙ source_end-reads bytes 0 0 gs reads refl)
    ]

-- ---- by the index of a group

spot-at : (at end : ℕ) (gs : List Group) (k : ℕ) (g : Group) → slice_get gs k ≡ Some g → slice_get (spots_and_end at end gs) k ≡ Some (spot_of (end_from at (take k gs)) g)
spot-at at end [] k g e = absurd (none-some g e)
spot-at at end (h ∷ gs) zero g e = ap (λ (j : Group). found (spot_of at j)) (same_Some h g e)
  where
    found : Spot → Option Spot
    found s = Some s
spot-at at end (h ∷ gs) (suc k) g e = spot-at (group_end at h) (h.instr.at + size_at h.instr.at h.instr) gs k g e

number-at : (front : List ℕ) (gs : List Group) (k : ℕ) (g : Group) (number : Spot → ℕ) → slice_get gs k ≡ Some g
    → slice_get (map number (all_spots front gs)) k ≡ Some (number (spot_of (end_from (length front) (take k gs)) g))
number-at front gs k g number e = slice_get-map number (all_spots front gs) k ∙ ap (option_map number) (spot-at (length front) 0 gs k g e)

-- the entries of a group: its offset, its home and its place
pub start-at : (front : List ℕ) (gs : List Group) (k : ℕ) (g : Group) → slice_get gs k ≡ Some g → slice_get (homes_of front gs).from k ≡ Some g.instr.at
start-at front gs k g e = number-at front gs k g (λ s. s.from) e

pub home-at : (front : List ℕ) (gs : List Group) (k : ℕ) (g : Group) → slice_get gs k ≡ Some g → slice_get (homes_of front gs).home k ≡ Some (end_from (length front) (take k gs))
home-at front gs k g e = number-at front gs k g (λ s. s.home) e

pub place-at : (front : List ℕ) (gs : List Group) (k : ℕ) (g : Group) → slice_get gs k ≡ Some g → slice_get (homes_of front gs).place k ≡ Some (place_of (end_from (length front) (take k gs)) g)
place-at front gs k g e = number-at front gs k g (λ s. s.place) e

end_spot-at : (at end : ℕ) (gs : List Group) → slice_get (spots_and_end at end gs) (length gs) ≡ Some (end_spot (source_end end gs) (end_from at gs))
end_spot-at at end [] = refl
end_spot-at at end (g ∷ gs) = end_spot-at (group_end at g) (g.instr.at + size_at g.instr.at g.instr) gs

end_number-at : (front : List ℕ) (gs : List Group) (number : Spot → ℕ) → slice_get (map number (all_spots front gs)) (length gs) ≡ Some (number (end_spot (source_end 0 gs) (end_from (length front) gs)))
end_number-at front gs number = slice_get-map number (all_spots front gs) (length gs) ∙ ap (option_map number) (end_spot-at (length front) 0 gs)

-- and those of the code's end
pub start-at_end : (front : List ℕ) (gs : List Group) → slice_get (homes_of front gs).from (length gs) ≡ Some (source_end 0 gs)
start-at_end front gs = end_number-at front gs (λ s. s.from)

pub home-at_end : (front : List ℕ) (gs : List Group) → slice_get (homes_of front gs).home (length gs) ≡ Some (end_from (length front) gs)
home-at_end front gs = end_number-at front gs (λ s. s.home)

pub place-at_end : (front : List ℕ) (gs : List Group) → slice_get (homes_of front gs).place (length gs) ≡ Some (end_from (length front) gs)
place-at_end front gs = end_number-at front gs (λ s. s.place)

split-at : (gs : List Group) (k : ℕ) (g : Group) → slice_get gs k ≡ Some g → gs ≡ take k gs ++ g ∷ drop (suc k) gs
split-at [] k g e = absurd (none-some g e)
split-at (h ∷ gs) zero g e = ap (λ (j : Group). j ∷ gs) (same_Some h g e)
split-at (h ∷ gs) (suc k) g e = ap (λ (t : List Group). h ∷ t) (split-at gs k g e)

-- what stands at a group's home
pub groups_stand : (bytes front back : List ℕ) (gs : List Group) → Reads bytes 0 (instrs_of gs) → IsBytes bytes → (k : ℕ) (g : Group) → slice_get gs k ≡ Some g
    → Stands (homes_of front gs) (laid_of front gs back).code g (end_from (length front) (take k gs))
groups_stand bytes front back gs reads fits k g e =
    let P : List Group → Type 0 = λ hs. Reads bytes 0 (instrs_of hs) → Stands (homes_of front hs) (laid_of front hs back).code g (end_from (length front) (take k gs)) in
    subst P (sym (split-at gs k g e)) (λ r. group_stands bytes front back (take k gs) g (drop (suc k) gs) r fits) reads
