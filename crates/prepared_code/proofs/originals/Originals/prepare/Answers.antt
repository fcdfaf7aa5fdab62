use Rattle.std.proofs.Common.{subst, sym, ◌∙◌}
use Rattle.prepared_code.specs.Originals.{OriginalsView, IsReady}
use Rattle.prepared_code.proofs.Tables.Made.{lines-made}
use Rattle.prepared_code.proofs.originals.Originals.prepare.Goals as goal

pub returns-then-has_lines-clause-ready : goal.returns-then-has_lines-clause-ready
returns-then-has_lines-clause-ready c =
    subst (λ (o : OriginalsView). IsReady o c.args.version) c.self.view_is
    (lines-made c.self.inside.index.value c.self.inside.versions c.args.version (sym c.has_lines.ensures ∙ c.if-has_lines.true))
