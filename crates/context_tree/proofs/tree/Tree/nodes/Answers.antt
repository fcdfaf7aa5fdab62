use Rattle.std.proofs.Common.{length, sym, ap, ◌∙◌}
use Rattle.context_tree.specs.Profiles.{Profile, nodes_of}
use Rattle.context_tree.proofs.Nodes.TreeCalls.{nodes_is, length-contexts}
use Rattle.context_tree.proofs.tree.Tree.nodes.Goals as goal

pub returns-clause-nodes : goal.returns-clause-nodes
returns-clause-nodes c = c.as_slice.ensures ∙ nodes_is c.self.inside.table c.self.invariant ∙ ap nodes_of c.self.view_is

pub returns-clause-each : goal.returns-clause-each
returns-clause-each c =
    ap length c.as_slice.ensures ∙ sym (length-contexts c.self.inside.table.nodes) ∙ ap (λ (p : Profile). length p.contexts) c.self.view_is
