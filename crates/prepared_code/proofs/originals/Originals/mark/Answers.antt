use Rattle.std.proofs.Common.{ap, ◌∙◌}
use Rattle.prepared_code.specs.Originals.{OriginalsView}
use Rattle.prepared_code.specs.Versions.{mark_of}
use Rattle.prepared_code.proofs.Tables.Made.{mark-made}
use Rattle.prepared_code.proofs.originals.Originals.mark.Goals as goal

pub returns : goal.returns
returns c =
    c.mark_of.ensures
    ∙ (mark-made c.self.inside.index.value c.self.inside.versions c.self.invariant.bare c.args.version ∙ ap (λ (o : OriginalsView). mark_of o.versions c.args.version) c.self.view_is)
