-- Laid code reads as the moved instructions: what stands at the home and at the place of each group.
use Rattle.std.proofs.Common.{◌≡◌, ℕ, ◌≤◌, List, [], ◌∷◌, ◌++◌, length, Option, Some, None, true, refl, sym, ap, subst, ◌∙◌, append_assoc, arith, inl, inr}
use Rattle.std.specs.Prelude.{Bool, ℤ, pos, negsuc, unwrap_or, FitsSigned}
use Rattle.std.specs.Int.{w16, w32}
use Rattle.std.specs.List.{AllByRecursion}
use Rattle.std.proofs.lemmas.Int.{ints}
use Rattle.op_table.specs.declared.Form.{Form}
use Rattle.op_table.specs.declared.Form.TheVariants as form
use Rattle.code_model.specs.declared.instr.Arg.{Arg}
use Rattle.code_model.specs.declared.laying.Group.{Group}
use Rattle.code_model.specs.Operands.{form_of}
use Rattle.code_model.specs.Instructions.{Reads}
use Rattle.code_model.specs.Layout.{Spot, distance, operand_width, width_of, place_of, group_end, end_from, all_spots, homes_of, home_in, home_of, laid_of, is_near, fits_branch, first_far_from, first_far}
use Rattle.code_model.specs.Groups.{IsBytes, CanBranch, EachReached, IsLaidIn, AreLaidIn, instrs_of, AreGroups}
use Rattle.code_model.proofs.Reading.Spelled.{HasShape}
use Rattle.code_model.proofs.CodeLayouts.Walks.{le-end_from, first_end-le, end_from-append, length-laid_of}
use Rattle.code_model.proofs.Offsets.Lookups.{spot-found_beside}
use Rattle.code_model.proofs.CodeLayouts.Among.{reads_middle, IsGroupSpot, which_spot}
use Rattle.code_model.proofs.CodeLayouts.Steps.{near-first}
use Rattle.code_model.proofs.CodeLayouts.Ready.{known, far_fits, groups_read}
use Rattle.code_model.proofs.CodeLayouts.Layouts.{group_stands}

-- ---- homes stand within the code

group_home-le : (start : ℕ) (gs : List Group) (spot : Spot) → IsGroupSpot start gs spot → spot.home ≤ end_from start gs
group_home-le start gs spot s =
    let parts = ap (end_from start) s.parts ∙ end_from-append start s.pre (s.group ∷ s.post) in
    let behind = le-end_from (end_from start s.pre) (s.group ∷ s.post) in
    let is = ap (λ (t : Spot). t.home) s.is in
    omega arith

pub home_of-le : (front : List ℕ) (gs : List Group) (t : ℕ) → home_of (homes_of front gs) t ≤ end_from (length front) gs
home_of-le front gs t = by_found (home_in (homes_of front gs) t) refl
  where
    by_found : (o : Option ℕ) → home_in (homes_of front gs) t ≡ o → unwrap_or o 0 ≤ end_from (length front) gs
    by_found None e = omega arith
    by_found (Some home) e =
        let s = spot-found_beside (λ (p : Spot). p.from) (λ (p : Spot). p.home) (all_spots front gs) t home e in
        let beside = s.beside in
        elim (which_spot (length front) 0 gs s.front s.spot s.rest s.parts) [
          | inl g ↦ let le = group_home-le (length front) gs s.spot g in omega arith
          | inr end ↦ let is = ap (λ (p : Spot). p.home) end in omega arith
        ]

-- ---- a branch that fits is within reach

near_fits : (d : ℤ) → is_near d ≡ true → FitsSigned w16 d
near_fits (pos n) e = record { sfits = grind (arith, ints) }
near_fits (negsuc n) e = record { sfits = grind (arith, ints) }

module _ (home : ℕ → ℕ) (place : ℕ) (le : place ≤ 65535) (within : (t : ℕ) → home t ≤ 65535) where
  each_within : (ts : List ℕ) → EachReached home place ts
  each_within [] = tt
  each_within (t ∷ ts) = ((within t, far_fits (home t) place (within t) le), each_within ts)

  branch_within : (wide : Bool) (f : Form) (arg : Arg) → HasShape f arg → fits_branch home place (operand_width wide f) arg ≡ true → CanBranch home place (operand_width wide f) arg
  branch_within wide form.Jump arg s near =
      let fits = subst (λ (a : Arg). fits_branch home place w16 a ≡ true) s.1 near in
      subst (CanBranch home place w16) (sym s.1) (within s.0, near_fits (distance place (home s.0)) fits)
  branch_within wide form.JumpWide arg s near = subst (CanBranch home place w32) (sym s.1) (within s.0, far_fits (home s.0) place (within s.0) le)
  branch_within wide form.Table arg s near = subst (CanBranch home place w16) (sym s.3) (each_within (s.0 ∷ s.2))
  branch_within wide form.Lookup arg s near = subst (CanBranch home place w16) (sym s.3) (each_within (s.0 ∷ s.2))
  branch_within wide form.Plain arg s near = subst (CanBranch home place w16) (sym s) tt
  branch_within wide form.Byte arg s near = subst (CanBranch home place (operand_width wide form.Byte)) (sym s.1) tt
  branch_within wide form.Short arg s near = subst (CanBranch home place w16) (sym s.1) tt
  branch_within wide form.PoolByte arg s near = subst (CanBranch home place (operand_width wide form.PoolByte)) (sym s.1) tt
  branch_within wide form.Pool arg s near = subst (CanBranch home place w16) (sym s.1) tt
  branch_within wide form.Local arg s near = subst (CanBranch home place (operand_width wide form.Local)) (sym s.1) tt
  branch_within wide form.Inc arg s near = subst (CanBranch home place (operand_width wide form.Inc)) (sym s.2) tt
  branch_within wide form.Interface arg s near = subst (CanBranch home place w16) (sym s.3) tt
  branch_within wide form.Multi arg s near = subst (CanBranch home place w16) (sym s.2) tt
  branch_within wide form.Array arg s near = subst (CanBranch home place w16) (sym s.1) tt
  branch_within wide form.Wide arg s near = absurd s
  branch_within wide form.Unknown arg s near = absurd s

-- none of the groups is too far
near-middle : (home : ℕ → ℕ) (start : ℕ) (pre : List Group) (g : Group) (post : List Group) → first_far_from home start (pre ++ g ∷ post) ≡ None
    → fits_branch home (place_of (end_from start pre) g) (width_of g.instr) g.instr.arg ≡ true
near-middle home start [] g post near = (near-first home start g post near).0
near-middle home start (p ∷ pre) g post near = near-middle home (group_end start p) pre g post (near-first home start p (pre ++ g ∷ post) near).1

-- ---- so each group is laid out

one_laid : (bytes front back : List ℕ) (pre : List Group) (g : Group) (post : List Group) → Reads bytes 0 (instrs_of (pre ++ g ∷ post)) → IsBytes bytes
    → first_far front (pre ++ g ∷ post) ≡ None → end_from (length front) (pre ++ g ∷ post) ≤ 65535 → IsLaidIn (laid_of front (pre ++ g ∷ post) back) g
one_laid bytes front back pre g post reads fits near short =
    let gs = pre ++ g ∷ post in
    let at = end_from (length front) pre in
    let home = home_of (homes_of front gs) in
    let st = group_stands bytes front back pre g post reads fits in
    let k = known bytes g.instr.at g.instr (reads_middle bytes 0 pre g post reads).0 fits in
    let parts = end_from-append (length front) pre (g ∷ post) in
    let ends = first_end-le at g post in
    let leads = branch_within home (place_of at g) (omega arith) (λ t. let le = home_of-le front gs t in omega arith) g.instr.wide (form_of g.instr.wide g.instr.op) g.instr.arg k.shape
    (near-middle home (length front) pre g post near) in
    record { home = at; homed = st.home_is; placed = st.place_is; before = st.before_is; stands = st.instr_is leads; next = st.next_is }

some_laid : (bytes front back : List ℕ) (gs pre post : List Group) → gs ≡ pre ++ post → Reads bytes 0 (instrs_of gs) → IsBytes bytes
    → first_far front gs ≡ None → end_from (length front) gs ≤ 65535 → AllByRecursion (IsLaidIn (laid_of front gs back)) post
some_laid bytes front back gs pre [] parts reads fits near short = tt
some_laid bytes front back gs pre (g ∷ post) parts reads fits near short =
    let P : List Group → Type 0 = λ hs. Reads bytes 0 (instrs_of hs) → first_far front hs ≡ None → end_from (length front) hs ≤ 65535 → IsLaidIn (laid_of front hs back) g in
    let here = subst P (sym parts) (λ r n s. one_laid bytes front back pre g post r fits n s) reads near short in
    (here, some_laid bytes front back gs (pre ++ g ∷ []) post (parts ∙ sym (append_assoc pre (g ∷ []) post)) reads fits near short)

pub all_laid : (front back : List ℕ) (gs : List Group) → AreGroups gs → first_far front gs ≡ None → length (laid_of front gs back).code ≤ 65535 → AreLaidIn (laid_of front gs back) gs
all_laid front back gs a near short =
    let long = length-laid_of front gs back in
    some_laid a.bytes front back gs [] gs refl (groups_read gs a) a.fits near (omega arith)
