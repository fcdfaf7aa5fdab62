-- Instructions in groups, each with what goes before it: without that they are the instructions again.
use Rattle.std.proofs.Common.{◌≡◌, ℕ, List, [], ◌∷◌, refl, ap}
use Rattle.std.specs.Prelude.{map}
use Rattle.code_model.specs.declared.instr.Instr.{Instr}
use Rattle.code_model.specs.Groups.{instrs_of}
use Rattle.jvm_model.specs.Rewriting.Versions.{group_of}

pub instrs-groups : (leave : List ℕ) (is : List Instr) → instrs_of (map (group_of leave) is) ≡ is
instrs-groups leave [] = refl
instrs-groups leave (i ∷ is) = ap (λ (js : List Instr). i ∷ js) (instrs-groups leave is)
