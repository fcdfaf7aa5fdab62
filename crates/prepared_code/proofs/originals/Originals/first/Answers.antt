use Rattle.std.proofs.Common.{ap, ◌∙◌}
use Rattle.prepared_code.specs.Originals.{OriginalsView}
use Rattle.prepared_code.specs.Versions.{first_of}
use Rattle.prepared_code.proofs.Tables.Made.{first-made}
use Rattle.prepared_code.proofs.originals.Originals.first.Goals as goal

pub returns : goal.returns
returns c =
    c.first_of.ensures
    ∙ (first-made c.self.inside.index.value c.self.inside.versions c.self.invariant.bare c.args.version ∙ ap (λ (o : OriginalsView). first_of o.versions c.args.version) c.self.view_is)
