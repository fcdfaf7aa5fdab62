-- What the words and a plan ask for together.
use Rattle.std.specs.Prelude.{◌≡◌, ◌≤◌, ℕ, List, Result, Ok, Option, Some, None, unwrap_or}
use Rattle.std.specs.Option.{option_map}
use Rattle.plan_text.specs.declared.plan.Action.{Action}
use Rattle.plan_text.specs.declared.plan.Plan.{Plan}
use Rattle.plan_text.specs.declared.plan.PlanError.{PlanError}
use Rattle.plan_text.specs.Lines.{silent_plan}
use Rattle.plan_text.specs.Plans.{IsPlanOf}
use Rattle.plan_text.specs.Numbers.{greatest_steps, least_heap, greatest_heap}
use Rattle.command_line.specs.Words.{Read}
use Rattle.command_line.specs.declared.chosen.Command.{Command}

-- what is answered where no plan's file is named: the plan of the word for a root, or the silent one
abbrev pub IsOwnPlan : Option (List ℕ) → Result Plan PlanError → Type 0
IsOwnPlan (Some root) r = IsPlanOf root r
IsOwnPlan None r = r ≡ Ok silent_plan

-- the first of two, where it is there, else the second
abbrev pub either : {A : Type 0} → Option A → Option A → Option A
either (Some a) other = Some a
either None other = other

-- the most steps, where neither the words nor the plan say it
abbrev pub usual_budget : ℕ
usual_budget = 100000000

-- the heap slots, where the plan doesn't say it
abbrev pub usual_heap : ℕ
usual_heap = 4194304

pub record Chosen : Type 0 where
  pub main : List ℕ
  pub args : List (List ℕ)
  pub budget : ℕ
  pub heap : ℕ
  pub actions : List Action

abbrev pub chosen_for : Read → Plan → List ℕ → Chosen
chosen_for words plan main = record {
  main = main;
  args = plan.args;
  budget = unwrap_or (either words.budget plan.budget) usual_budget;
  heap = unwrap_or plan.heap usual_heap;
  actions = plan.actions;
}

-- none where neither names a main class
abbrev pub run_chosen : Read → Plan → Option Chosen
run_chosen words plan = option_map (chosen_for words plan) (either words.main plan.main)

-- what a run and its heap ask for
pub record IsInBounds (c : Chosen) : Type 0 where
  pub budget : c.budget ≤ greatest_steps
  pub heap : (least_heap ≤ c.heap) × (c.heap ≤ greatest_heap)

-- what the program holds of it
abbrev pub chosen_in : Command → Chosen
chosen_in c = record {
  main = c.main.now;
  args = c.args.now;
  budget = c.budget;
  heap = c.heap;
  actions = c.actions.now;
}
