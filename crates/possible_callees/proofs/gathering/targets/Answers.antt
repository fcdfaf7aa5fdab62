use Rattle.std.proofs.Common.{◌∙◌, subst, sym, ap}
use Rattle.jvm_model.specs.Classes.Load.{is_among}
use Rattle.possible_callees.specs.Tables.{IsRising}
use Rattle.possible_callees.proofs.Numbers.Rising.{among-range, rising-filter}
use Rattle.possible_callees.proofs.gathering.targets.Goals as goal

pub returns-clause-rising : goal.returns-clause-rising
returns-clause-rising c =
    subst IsRising (sym c.in_ok-all.ensures) (rising-filter (λ m. is_among m c.in_ok-found.found) 0 c.bound_of-bound.result)

pub returns-clause-targets : goal.returns-clause-targets
returns-clause-targets c = λ m.
    ap (is_among m) c.in_ok-all.ensures
    ∙ (among-range c.in_ok-found.found c.bound_of-bound.result (λ k h. c.bound_of-bound.ensures.above k (ap (is_among k) c.as_slice.ensures ∙ h)) m
    ∙ c.in_ok-found.ensures m)
