-- The spots of a layout: their numbers rise, and each is a group's or that of the end.
use Rattle.std.proofs.Common.{◌≡◌, ℕ, ◌+◌, List, [], ◌∷◌, ◌++◌, length, map, Some, refl, ap, ◌∙◌, arith, inl, inr}
use Rattle.std.specs.Prelude.{◌⊎◌}
use Rattle.std.proofs.lemmas.List.{length-append}
use Rattle.code_model.specs.declared.laying.Group.{Group}
use Rattle.code_model.specs.Instructions.{instruction_at, end_of, Reads}
use Rattle.code_model.specs.Layout.{Spot, size_at, place_of, group_end, spots_from, end_from, source_end}
use Rattle.code_model.specs.Groups.{instrs_of}
use Rattle.code_model.proofs.Reading.Readings.{at-instruction_at}
use Rattle.code_model.proofs.Reading.Lengths.{size_at-some}
use Rattle.code_model.proofs.Offsets.Lookups.{Rises, Rises-from_below}

-- ---- the numbers of the spots rise

-- the spots of groups, and that of the end
abbrev pub spots_and_end : ℕ → ℕ → List Group → List Spot
spots_and_end at end gs = spots_from at gs ++ record { from = source_end end gs; home = end_from at gs; place = end_from at gs } ∷ []

-- homes and places rise from where the groups begin
pub homes_rise : (at end : ℕ) (gs : List Group) → Rises at (map (λ (s : Spot). s.home) (spots_and_end at end gs))
homes_rise at end [] = (omega arith, tt)
homes_rise at end (g ∷ gs) =
    let rest = homes_rise (group_end at g) (g.instr.at + size_at g.instr.at g.instr) gs in
    let some = size_at-some (place_of at g) g.instr in
    (omega arith, Rises-from_below (at + 1) (group_end at g) _ (omega arith) rest)

pub places_rise : (at end : ℕ) (gs : List Group) → Rises at (map (λ (s : Spot). s.place) (spots_and_end at end gs))
places_rise at end [] = (omega arith, tt)
places_rise at end (g ∷ gs) =
    let rest = places_rise (group_end at g) (g.instr.at + size_at g.instr.at g.instr) gs in
    let some = size_at-some (place_of at g) g.instr in
    (omega arith, Rises-from_below (place_of at g + 1) (group_end at g) _ (omega arith) rest)

-- and the original offsets from where they are read
pub starts_rise : (bytes : List ℕ) (at start : ℕ) (gs : List Group) → Reads bytes start (instrs_of gs) → Rises start (map (λ (s : Spot). s.from) (spots_and_end at start gs))
starts_rise bytes at start [] reads = (omega arith, tt)
starts_rise bytes at start (g ∷ gs) reads =
    let is_start = at-instruction_at bytes start g.instr reads.0 in
    let some = size_at-some g.instr.at g.instr in
    let rest = starts_rise bytes (group_end at g) (end_of g.instr) gs reads.1 in
    (omega arith, Rises-from_below (g.instr.at + 1) (end_of g.instr) _ (omega arith) rest)

-- ---- a group among others

-- it is read as they are
pub reads_middle : (bytes : List ℕ) (start : ℕ) (pre : List Group) (g : Group) (post : List Group) → Reads bytes start (instrs_of (pre ++ g ∷ post))
    → (instruction_at bytes g.instr.at ≡ Some g.instr) × Reads bytes (end_of g.instr) (instrs_of post)
reads_middle bytes start [] g post reads = (ap (instruction_at bytes) (at-instruction_at bytes start g.instr reads.0) ∙ reads.0, reads.1)
reads_middle bytes start (p ∷ pre) g post reads = reads_middle bytes (end_of p.instr) pre g post reads.1

-- its spot stands between theirs
abbrev pub spot_of : ℕ → Group → Spot
spot_of at g = record { from = g.instr.at; home = at; place = place_of at g }

pub spots_split : (at end : ℕ) (pre : List Group) (g : Group) (post : List Group)
    → spots_and_end at end (pre ++ g ∷ post)
    ≡ spots_from at pre ++ spot_of (end_from at pre) g ∷ spots_and_end (group_end (end_from at pre) g) (g.instr.at + size_at g.instr.at g.instr) post
spots_split at end [] g post = refl
spots_split at end (p ∷ pre) g post = ap (λ (spots : List Spot). spot_of at p ∷ spots) (spots_split (group_end at p) (p.instr.at + size_at p.instr.at p.instr) pre g post)

-- what follows begins with a spot of the offset that follows
pub record Begins (spots : List Spot) (from home : ℕ) : Type 0 where
  pub spot : Spot
  pub rest : List Spot
  pub parts : spots ≡ spot ∷ rest
  pub from_is : spot.from ≡ from
  pub home_is : spot.home ≡ home

pub first_spot : (bytes : List ℕ) (at start end : ℕ) (gs : List Group) → Reads bytes start (instrs_of gs) → end ≡ start → Begins (spots_and_end at end gs) start at
first_spot bytes at start end [] reads is = record { spot = record { from = end; home = at; place = at }; rest = []; parts = refl; from_is = is; home_is = refl }
first_spot bytes at start end (g ∷ gs) reads is = record {
  spot = spot_of at g;
  rest = spots_and_end (group_end at g) (g.instr.at + size_at g.instr.at g.instr) gs;
  parts = refl;
  from_is = at-instruction_at bytes start g.instr reads.0;
  home_is = refl;
}

-- a spot that is a group's
pub record IsGroupSpot (at : ℕ) (gs : List Group) (spot : Spot) : Type 0 where
  pub pre : List Group
  pub group : Group
  pub post : List Group
  pub parts : gs ≡ pre ++ group ∷ post
  pub is : spot ≡ spot_of (end_from at pre) group

abbrev pub end_spot : ℕ → ℕ → Spot
end_spot from home = record { from = from; home = home; place = home }

-- each spot is a group's or the end's
pub which_spot : (at end : ℕ) (gs : List Group) (front : List Spot) (spot : Spot) (rest : List Spot) → spots_and_end at end gs ≡ front ++ spot ∷ rest
    → IsGroupSpot at gs spot ⊎ (spot ≡ end_spot (source_end end gs) (end_from at gs))
which_spot at end [] [] spot rest e = inr cc
which_spot at end [] (f ∷ front) spot rest e = let len = ap length e in absurd (omega (arith, length-append front (spot ∷ rest)))
which_spot at end (g ∷ gs) [] spot rest e = inl (record { pre = []; group = g; post = gs; parts = refl; is = cc })
which_spot at end (g ∷ gs) (f ∷ front) spot rest e =
    let later : spots_and_end (group_end at g) (g.instr.at + size_at g.instr.at g.instr) gs ≡ front ++ spot ∷ rest = cc in
    elim (which_spot (group_end at g) (g.instr.at + size_at g.instr.at g.instr) gs front spot rest later) [
      | inl s ↦ inl (record { pre = g ∷ s.pre; group = s.group; post = s.post; parts = ap (λ (t : List Group). g ∷ t) s.parts; is = s.is })
      | inr s ↦ inr s
    ]

-- the original code ends where its bytes do
pub source_end-reads : (bytes : List ℕ) (start end : ℕ) (gs : List Group) → Reads bytes start (instrs_of gs) → end ≡ start → source_end end gs ≡ length bytes
source_end-reads bytes start end [] reads is = is ∙ reads
source_end-reads bytes start end (g ∷ gs) reads is =
    source_end-reads bytes (end_of g.instr) (end_of g.instr) gs reads.1 refl
