use Rattle.std.proofs.Common.{◌≡◌, ℕ, ◌+◌, ◌-◌, ◌<◌, ◌≤◌, map, length, sym, ap, subst, ◌∙◌, arith}
use Rattle.std.proofs.lemmas.Option.{IfSome_then}
use Rattle.context_tree.specs.declared.node.Node.{Node}
use Rattle.context_tree.proofs.Sums.PassedTotals.{ArePassed, passed_none, passed_gathered, gathers_within, gathers_fit, parent-read, passed_all}
use Rattle.context_tree.proofs.table.NodeTable.totals.Goals as goal

pub loop-number-init : goal.loop-number-init
loop-number-init c =
    let nodes = c.args.self.now.nodes in
    let own : c.in_ok-totals.totals ≡ map (λ (n : Node). n.own) nodes = c.in_ok-totals.ensures ∙ ap (map (λ (n : Node). n.own)) c.as_slice.ensures in
    subst (λ n. ArePassed nodes n c.in_ok-totals.totals) (sym c.len-number.ensures) (subst (ArePassed nodes (length nodes)) (sym own) (passed_none nodes))

below : (n length : ℕ) → 0 < n → n ≤ length → n - 1 < length
below n length more le = omega arith

pub add_to_parent-requires-clause-within : goal.add_to_parent-requires-clause-within
add_to_parent-requires-clause-within c =
    let t = c.args.self.now in
    let k : ℕ = c.loop-number.number - 1 in
    let lt : k < length t.nodes = below c.loop-number.number (length t.nodes) c.loop-number-test.true c.loop-number.invariant.within in
    let h : ArePassed t.nodes (k + 1) c.loop-number.totals = subst (λ n. ArePassed t.nodes n c.loop-number.totals) (omega (arith, c.loop-number-test.true)) c.loop-number.invariant in
    gathers_within t c.requires k c.loop-number.totals lt h c.parent.result (c.parent.ensures ∙ parent-read t.nodes k lt)

pub add_to_parent-requires-clause-fits : goal.add_to_parent-requires-clause-fits
add_to_parent-requires-clause-fits c =
    let t = c.args.self.now in
    let k : ℕ = c.loop-number.number - 1 in
    let lt : k < length t.nodes = below c.loop-number.number (length t.nodes) c.loop-number-test.true c.loop-number.invariant.within in
    let h : ArePassed t.nodes (k + 1) c.loop-number.totals = subst (λ n. ArePassed t.nodes n c.loop-number.totals) (omega (arith, c.loop-number-test.true)) c.loop-number.invariant in
    IfSome_then c.parent.result (gathers_fit t c.requires k c.loop-number.totals lt h c.parent.result (c.parent.ensures ∙ parent-read t.nodes k lt)) (λ i le. omega (arith, le))

pub loop-number-preserved : goal.loop-number-preserved
loop-number-preserved c =
    let t = c.args.self.now in
    let k : ℕ = c.loop-number.number - 1 in
    let lt : k < length t.nodes = below c.loop-number.number (length t.nodes) c.loop-number-test.true c.loop-number.invariant.within in
    let h : ArePassed t.nodes (k + 1) c.loop-number.totals = subst (λ n. ArePassed t.nodes n c.loop-number.totals) (omega (arith, c.loop-number-test.true)) c.loop-number.invariant in
    subst (ArePassed t.nodes k) (sym c.add_to_parent.ensures) (passed_gathered t c.requires k c.loop-number.totals lt h c.parent.result (c.parent.ensures ∙ parent-read t.nodes k lt))

pub returns : goal.returns
returns c =
    passed_all c.args.self.now c.requires c.loop-number.totals
    (subst (λ n. ArePassed c.args.self.now.nodes n c.loop-number.totals) (omega (arith, c.loop-number-test.false)) c.loop-number.invariant)
