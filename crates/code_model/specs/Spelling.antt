-- What the functions that put bytes add. `homes` are behind a reference: a target goes where they have it, or stays
-- where it was if there are none.
use Rattle.std.specs.Prelude.{◌≡◌, ℕ, List, ◌++◌, length, zip, Option, Result, OnOk, ℤ}
use Rattle.std.specs.Borrow.{Bor}
use Rattle.std.specs.Int.{Width, w32}
use Rattle.std.specs.List.{flat_map}
use Rattle.std.specs.Option.{option_copied}
use Rattle.code_model.specs.declared.instr.Arg.{Arg}
use Rattle.code_model.specs.declared.instr.Arg.TheVariants.{Table, Lookup}
use Rattle.code_model.specs.declared.instr.Instr.{Instr}
use Rattle.code_model.specs.declared.laying.Group.{Group}
use Rattle.code_model.specs.declared.laying.Homes.{Homes}
use Rattle.code_model.specs.Layout.{Spot, home_of, home_by, target_bytes, pair_bytes, operand_bytes, instr_bytes, groups_bytes}

-- where it succeeds, these bytes are behind those that were there
abbrev pub Adds : {A E : Type 0} → Result A E → List ℕ → List ℕ → List ℕ → Type 0
Adds result old new bytes = OnOk result (new ≡ old ++ bytes)

-- where a target leads
abbrev pub home_with : Option (Bor Homes) → ℕ → ℕ
home_with homes = home_by (option_copied homes)

-- ---- the bytes of parts of an instruction at this place

abbrev pub target_put : Option (Bor Homes) → ℕ → Width → ℕ → List ℕ
target_put homes place w t = target_bytes (home_with homes) place w t

abbrev pub targets_put : Option (Bor Homes) → ℕ → List ℕ → List ℕ
targets_put homes place ts = flat_map (target_bytes (home_with homes) place w32) ts

abbrev pub table_put : Option (Bor Homes) → ℕ → ℕ → ℤ → List ℕ → List ℕ
table_put homes place default low targets = operand_bytes (home_with homes) place w32 (Table default low targets)

abbrev pub pair_put : Option (Bor Homes) → ℕ → ℤ → ℕ → List ℕ
pair_put homes place key t = pair_bytes (home_with homes) place (key, t)

abbrev pub pairs_put : Option (Bor Homes) → ℕ → List ℤ → List ℕ → List ℕ
pairs_put homes place keys targets = flat_map (pair_bytes (home_with homes) place) (zip keys targets)

abbrev pub lookup_put : Option (Bor Homes) → ℕ → ℕ → List ℤ → List ℕ → List ℕ
lookup_put homes place default keys targets = operand_bytes (home_with homes) place w32 (Lookup default keys targets)

abbrev pub operand_put : Option (Bor Homes) → ℕ → Width → Arg → List ℕ
operand_put homes place w arg = operand_bytes (home_with homes) place w arg

abbrev pub instr_put : Option (Bor Homes) → ℕ → Instr → List ℕ
instr_put homes place i = instr_bytes (home_with homes) place i

-- ---- whole codes

-- the front, the groups and the back
abbrev pub laid_code : Homes → List ℕ → List Group → List ℕ → List ℕ
laid_code homes front groups back = front ++ (groups_bytes (home_of homes) (length front) groups ++ back)

abbrev pub spot : ℕ → ℕ → ℕ → Spot
spot from home place = record { from = from; home = home; place = place }
