-- The nine stack instructions as forms (JVM Specification 6.5): by which of the topmost operands are long, what is put
-- in their place, by position, the top first.
use Rattle.std.specs.Prelude.{ℕ, Bool, true, false, List, [], ◌∷◌}
use Rattle.jvm_model.specs.Basis.Data.{StackForm, StackInstruction}
use Rattle.jvm_model.specs.declared.family.StackInstruction.TheVariants.{Pop, Pop2, Dup, DupX1, DupX2, Dup2, Dup2X1, Dup2X2, Swap}

abbrev pub form : List Bool → List ℕ → StackForm
form takes puts = record { takes = takes; puts = puts }

abbrev pub forms_of : StackInstruction → List StackForm
forms_of Pop = form (false ∷ []) [] ∷ []
forms_of Pop2 = form (false ∷ false ∷ []) [] ∷ form (true ∷ []) [] ∷ []
forms_of Dup = form (false ∷ []) (0 ∷ 0 ∷ []) ∷ []
forms_of DupX1 = form (false ∷ false ∷ []) (0 ∷ 1 ∷ 0 ∷ []) ∷ []
forms_of DupX2 =
    form (false ∷ false ∷ false ∷ []) (0 ∷ 1 ∷ 2 ∷ 0 ∷ [])
    ∷ form (false ∷ true ∷ []) (0 ∷ 1 ∷ 0 ∷ []) ∷ []
forms_of Dup2 =
    form (false ∷ false ∷ []) (0 ∷ 1 ∷ 0 ∷ 1 ∷ [])
    ∷ form (true ∷ []) (0 ∷ 0 ∷ []) ∷ []
forms_of Dup2X1 =
    form (false ∷ false ∷ false ∷ []) (0 ∷ 1 ∷ 2 ∷ 0 ∷ 1 ∷ [])
    ∷ form (true ∷ false ∷ []) (0 ∷ 1 ∷ 0 ∷ []) ∷ []
forms_of Dup2X2 =
    form (false ∷ false ∷ false ∷ false ∷ []) (0 ∷ 1 ∷ 2 ∷ 3 ∷ 0 ∷ 1 ∷ [])
    ∷ form (true ∷ false ∷ false ∷ []) (0 ∷ 1 ∷ 2 ∷ 0 ∷ [])
    ∷ form (false ∷ false ∷ true ∷ []) (0 ∷ 1 ∷ 2 ∷ 0 ∷ 1 ∷ [])
    ∷ form (true ∷ true ∷ []) (0 ∷ 1 ∷ 0 ∷ []) ∷ []
forms_of Swap = form (false ∷ false ∷ []) (1 ∷ 0 ∷ []) ∷ []
