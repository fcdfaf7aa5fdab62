use Rattle.std.proofs.Common.{◌≤◌, sym, ap, subst, ◌∙◌, arith}
use Rattle.context_tree.specs.Profiles.{Profile, event_taken, calls_of}
use Rattle.context_tree.specs.declared.table.NodeTable.{NodeTable}
use Rattle.context_tree.specs.NodeTables.{own_in, steps_given}
use Rattle.context_tree.specs.TreeViews.{profile_in, IsTree}
use Rattle.context_tree.proofs.Nodes.TreeSteps.{follows_told, Taken, taken_is}
use Rattle.context_tree.proofs.Nodes.TreeCalls.{calls_is, calls_of-taken_in}
use Rattle.context_tree.proofs.tree.Tree.take.Goals as goal

pub tell-requires-clause-countable : goal.tell-requires-clause-countable
tell-requires-clause-countable c =
    omega (arith, calls_is c.self.inside.table, ap calls_of c.self.view_is, c.requires.countable)

pub give-requires-clause-counted : goal.give-requires-clause-counted
give-requires-clause-counted c =
    subst (λ (u : NodeTable). own_in u.nodes ≤ u.clock) (sym c.in_ok-tell.ensures)
    (follows_told c.self.inside.table c.self.invariant c.args.event.now.kind c.args.event.now.method).tree.counted

pub invariant_of-self-2 : goal.invariant_of-self-2
invariant_of-self-2 c =
    let later : c.self.inside.table.clock ≤ c.args.event.now.clock = omega (arith, ap (λ (p : Profile). p.clock) c.self.view_is, c.requires.later) in
    let step : Taken c.self.inside.table c.args.event.now = taken_is c.self.inside.table c.self.invariant c.args.event.now later in
    subst IsTree (sym (c.give.ensures ∙ ap (steps_given c.self.inside.table.open c.args.event.now.clock) c.in_ok-tell.ensures)) step.tree

pub returns-clause-ok : goal.returns-clause-ok
returns-clause-ok c =
    let later : c.self.inside.table.clock ≤ c.args.event.now.clock = omega (arith, ap (λ (p : Profile). p.clock) c.self.view_is, c.requires.later) in
    let step : Taken c.self.inside.table c.args.event.now = taken_is c.self.inside.table c.self.invariant c.args.event.now later in
    ap profile_in (c.give.ensures ∙ ap (steps_given c.self.inside.table.open c.args.event.now.clock) c.in_ok-tell.ensures)
    ∙ step.profile ∙ ap (λ p. event_taken p c.args.event.now) c.self.view_is

pub returns-clause-calls : goal.returns-clause-calls
returns-clause-calls c =
    let e = c.args.event.now in
    omega (
      arith,
      ap (λ t. calls_of (profile_in t)) (c.give.ensures ∙ ap (steps_given c.self.inside.table.open e.clock) c.in_ok-tell.ensures),
      calls_of-taken_in c.self.inside.table e,
      ap calls_of c.self.view_is,
    )
