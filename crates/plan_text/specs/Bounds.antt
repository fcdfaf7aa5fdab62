-- What every plan that a text says keeps to.
use Rattle.std.specs.Prelude.{◌≤◌, List, [], ◌∷◌, length, IfSome}
use Rattle.std.specs.List.{AllByRecursion}
use Rattle.plan_text.specs.declared.plan.Action.{Action}
use Rattle.plan_text.specs.declared.plan.Plan.{Plan}
use Rattle.plan_text.specs.Numbers.{greatest_steps, least_heap, greatest_heap}
use Rattle.plan_text.specs.Lines.{most_said}

-- no moment is below an earlier one
abbrev pub DoNotFall : List Action → Type 0
DoNotFall [] = Unit {0}
DoNotFall (action ∷ rest) = AllByRecursion (λ later. action.moment ≤ later.moment) rest × DoNotFall rest

pub record IsWithin (plan : Plan) : Type 0 where
  pub args : length plan.args ≤ most_said
  pub actions : length plan.actions ≤ most_said
  pub budget : IfSome plan.budget (λ steps. steps ≤ greatest_steps)
  pub heap : IfSome plan.heap (λ slots. (least_heap ≤ slots) × (slots ≤ greatest_heap))
  pub moments : AllByRecursion (λ action. action.moment ≤ greatest_steps) plan.actions
  pub rising : DoNotFall plan.actions
