use Rattle.std.proofs.Common.{◌<◌, length, slice_get, IfSome, sym, ap, subst, ◌∙◌}
use Rattle.context_tree.specs.Profiles.{Profile, children_of, path_of_node}
use Rattle.context_tree.proofs.Nodes.TreeCalls.{child_is, child_within, child_behind}
use Rattle.context_tree.proofs.tree.Tree.child.Goals as goal

pub returns-clause-child : goal.returns-clause-child
returns-clause-child c =
    c.child.ensures
    ∙ child_is c.self.inside.table c.self.invariant c.args.node c.args.place (subst (λ (p : Profile). IfSome c.args.node (λ i. i < length p.contexts)) (sym c.self.view_is) c.requires)
    ∙ ap (λ (p : Profile). slice_get (children_of (path_of_node c.args.node p.contexts) p.contexts) c.args.place) c.self.view_is

pub returns-clause-within : goal.returns-clause-within
returns-clause-within c =
    subst (λ (p : Profile). IfSome c.child.result (λ child. child < length p.contexts)) c.self.view_is
    (child_within c.self.inside.table c.self.invariant c.args.node c.args.place c.child.result c.child.ensures)

pub returns-clause-behind : goal.returns-clause-behind
returns-clause-behind c = child_behind c.self.inside.table c.self.invariant c.args.node c.args.place c.child.result c.child.ensures
