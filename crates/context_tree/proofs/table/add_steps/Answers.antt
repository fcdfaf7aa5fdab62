use Rattle.std.proofs.Common.{◌≡◌, Some, None, slice_get, sym, ◌∙◌, arith}
use Rattle.std.proofs.lemmas.Option.{slice_get_within}
use Rattle.context_tree.specs.declared.node.Node.{Node}
use Rattle.context_tree.specs.NodeTables.{node_stepped}
use Rattle.context_tree.proofs.Nodes.Changes.{changed_at-found, changed_at-past, sum_by-found}
use Rattle.context_tree.proofs.table.add_steps.Goals as goal

pub returns-in_default : goal.returns-in_default
returns-in_default c =
    let h : slice_get c.args.nodes.now c.args.number ≡ None = cc in
    sym (changed_at-past (node_stepped c.args.steps) c.args.number c.args.nodes.now h)

pub overflow_add-node : goal.overflow_add-node
overflow_add-node c =
    let h : slice_get c.args.nodes.now c.args.number ≡ Some c.in-Some.node = cc in
    omega (arith, sum_by-found (λ (n : Node). n.own) c.args.number c.args.nodes.now c.in-Some.node h)

pub set-requires : goal.set-requires
set-requires c =
    let h : slice_get c.args.nodes.now c.args.number ≡ Some c.in-Some.node = cc in
    slice_get_within c.args.nodes.now c.args.number c.in-Some.node h

pub returns : goal.returns
returns c =
    let h : slice_get c.args.nodes.now c.args.number ≡ Some c.in-Some.node = cc in
    c.set.ensures ∙ changed_at-found (node_stepped c.args.steps) c.args.number c.args.nodes.now c.in-Some.node h
