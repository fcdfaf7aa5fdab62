-- The plan that a word for one root stands for.
use Rattle.std.specs.Prelude.{◌≡◌, ℕ, true, List, [], ◌∷◌, None, Result, Ok, Err}
use Rattle.plan_text.specs.declared.plan.RootName.{RootName}
use Rattle.plan_text.specs.declared.plan.Plan.{Plan}
use Rattle.plan_text.specs.declared.plan.LineCause.TheVariants.{Root}
use Rattle.plan_text.specs.declared.plan.PlanError.{PlanError}
use Rattle.plan_text.specs.declared.plan.PlanError.TheVariants.{TooLong, BadLine, Backwards, AlreadySelected, NotSelected, TooMany, NoMemory}
use Rattle.plan_text.specs.Roots.{IsRoot, IsNoRoot}

-- the root is selected before the first step, and the plan is silent on all else
abbrev pub plan_selecting : RootName → Plan
plan_selecting root = record {
  main = None;
  args = [];
  budget = None;
  heap = None;
  actions = record { moment = 0; select = true; root = root } ∷ [];
}

-- what is answered for a word
abbrev pub IsPlanOf : List ℕ → Result Plan PlanError → Type 0
IsPlanOf word (Ok plan) = (root : RootName) × IsRoot word root × (plan ≡ plan_selecting root)
IsPlanOf word (Err (BadLine line cause)) = (line ≡ 0) × (cause ≡ Root) × IsNoRoot word
IsPlanOf word (Err NoMemory) = Unit {0}
-- the other faults are those of a text
IsPlanOf word (Err TooLong) = ⊥
IsPlanOf word (Err (Backwards line)) = ⊥
IsPlanOf word (Err (AlreadySelected line)) = ⊥
IsPlanOf word (Err (NotSelected line)) = ⊥
IsPlanOf word (Err (TooMany line)) = ⊥
