use Rattle.std.proofs.Common.{ℕ, ◌<◌, sym, ◌∙◌, subst}
use Rattle.admit_check.specs.Shapes.{is_probe_entry}
use Rattle.admit_check.proofs.Entries.{any-stop, any-go_on}
use Rattle.admit_check.proofs.shapes.has_probe_entry.Goals as goal

pub returns-then-names_probe : goal.returns-then-names_probe
returns-then-names_probe c =
    any-stop (is_probe_entry c.args.pool.now) c.args.pool.now c.loop-index.index _ (subst (λ (n : ℕ). c.loop-index.index < n) c.count-index-end.ensures.count c.loop-index-test.true)
    (sym c.names_probe.ensures ∙ c.if-names_probe.true) c.loop-index.invariant

pub loop-index-preserved : goal.loop-index-preserved
loop-index-preserved c =
    any-go_on (is_probe_entry c.args.pool.now) c.args.pool.now c.loop-index.index _ (subst (λ (n : ℕ). c.loop-index.index < n) c.count-index-end.ensures.count c.loop-index-test.true)
    (sym c.names_probe.ensures ∙ c.if-names_probe.false) c.loop-index.invariant
