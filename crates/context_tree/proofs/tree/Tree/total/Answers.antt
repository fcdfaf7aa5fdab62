use Rattle.std.proofs.Common.{length, Some, sym, ap, ◌∙◌, arith}
use Rattle.context_tree.specs.Profiles.{Profile, path_of_node, total_of}
use Rattle.context_tree.specs.TreeViews.{contexts_in}
use Rattle.context_tree.proofs.Nodes.TreeCalls.{length-contexts, path_of_node-contexts}
use Rattle.context_tree.proofs.tree.Tree.total.Goals as goal

pub total-requires-clause-within : goal.total-requires-clause-within
total-requires-clause-within c =
    omega (arith, length-contexts c.self.inside.table.nodes, ap (λ (p : Profile). length p.contexts) c.self.view_is, c.requires)

pub returns : goal.returns
returns c =
    c.total.ensures
    ∙ ap (λ P. total_of P (contexts_in c.self.inside.table.nodes)) (sym (path_of_node-contexts (Some c.args.node) c.self.inside.table.nodes))
    ∙ ap (λ (p : Profile). total_of (path_of_node (Some c.args.node) p.contexts) p.contexts) c.self.view_is
