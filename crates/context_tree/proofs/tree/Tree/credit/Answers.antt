use Rattle.std.proofs.Common.{◌≤◌, sym, ap, subst, ◌∙◌, arith}
use Rattle.context_tree.specs.Profiles.{Profile, steps_credited, calls_of, event_taken}
use Rattle.context_tree.specs.TreeViews.{profile_in, IsTree}
use Rattle.context_tree.proofs.Nodes.TreeSteps.{tree-given, profile-given}
use Rattle.context_tree.proofs.Nodes.TreeCalls.{calls_of-given}
use Rattle.context_tree.proofs.Events.Credits.{credits-add, credit-unseen}
use Rattle.context_tree.proofs.tree.Tree.credit.Goals as goal

pub invariant_of-self : goal.invariant_of-self
invariant_of-self c =
    let later : c.self.inside.table.clock ≤ c.args.clock = omega (arith, ap (λ (p : Profile). p.clock) c.self.view_is, c.requires) in
    subst IsTree (sym c.give.ensures) (tree-given c.self.inside.table c.self.invariant c.self.inside.table.open c.args.clock later)

pub returns-clause-credited : goal.returns-clause-credited
returns-clause-credited c =
    ap profile_in c.give.ensures
    ∙ profile-given c.self.inside.table c.self.invariant c.self.inside.table.open c.args.clock c.self.invariant.within
    ∙ ap (steps_credited c.args.clock) c.self.view_is

pub returns-clause-calls : goal.returns-clause-calls
returns-clause-calls c =
    ap (λ t. calls_of (profile_in t)) c.give.ensures ∙ calls_of-given c.self.inside.table.open c.args.clock c.self.inside.table ∙ ap calls_of c.self.view_is

pub returns-clause-adds : goal.returns-clause-adds
returns-clause-adds c = λ later on.
    ap (steps_credited later)
    (ap profile_in c.give.ensures ∙ profile-given c.self.inside.table c.self.invariant c.self.inside.table.open c.args.clock c.self.invariant.within)
    ∙ (credits-add c.args.clock later (profile_in c.self.inside.table) (omega (arith, ap (λ (p : Profile). p.clock) c.self.view_is, c.requires)) on
    ∙ ap (steps_credited later) c.self.view_is)

pub returns-clause-unseen : goal.returns-clause-unseen
returns-clause-unseen c = λ e on.
    ap (λ p. event_taken p e)
    (ap profile_in c.give.ensures ∙ profile-given c.self.inside.table c.self.invariant c.self.inside.table.open c.args.clock c.self.invariant.within)
    ∙ (credit-unseen c.args.clock (profile_in c.self.inside.table) e (omega (arith, ap (λ (p : Profile). p.clock) c.self.view_is, c.requires)) on
    ∙ ap (λ p. event_taken p e) c.self.view_is)
