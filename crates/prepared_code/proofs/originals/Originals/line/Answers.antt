use Rattle.std.proofs.Common.{◌≡◌, ◌≢◌, Some, subst, ◌∙◌}
use Rattle.std.specs.Option.{IfSome, option_copied}
use Rattle.jvm_model.specs.declared.event.Mark.TheVariants.{Off}
use Rattle.prepared_code.specs.Originals.{OriginalsView}
use Rattle.prepared_code.specs.Versions.{line_at, mark_of}
use Rattle.prepared_code.proofs.Tables.Made.{marked-lines, seen-family, seen-line}
use Rattle.prepared_code.proofs.originals.Originals.line.Goals as goal

pub returns-clause-line : goal.returns-clause-line
returns-clause-line c =
    subst (λ (o : OriginalsView). IfSome c.line_at.result (λ l. line_at o.versions c.args.version c.args.place ≡ Some l.now)) c.self.view_is
    (seen-line c.self.inside.index.value c.self.inside.versions c.self.invariant.bare c.args.version c.args.place c.line_at.result c.line_at.ensures)

pub returns-clause-marked : goal.returns-clause-marked
returns-clause-marked c =
    subst (λ (o : OriginalsView). mark_of o.versions c.args.version ≢ Off → option_copied c.line_at.result ≡ line_at o.versions c.args.version c.args.place) c.self.view_is
    (λ marked. c.line_at.ensures ∙ marked-lines c.self.inside.index.value c.self.inside.versions c.self.invariant.bare c.args.version marked c.args.place)

pub returns-clause-family : goal.returns-clause-family
returns-clause-family c =
    seen-family c.self.inside.index.value c.self.inside.versions c.self.invariant.bare c.self.invariant.prepared.lines c.args.version c.args.place c.line_at.result c.line_at.ensures
