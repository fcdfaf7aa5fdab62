use Rattle.std.proofs.Common.{◌≡◌, false, subst, ◌∙◌}
use Rattle.method_versions.specs.Tables.{is_superseded_in}
use Rattle.prepared_code.specs.Originals.{OriginalsView}
use Rattle.prepared_code.proofs.Tables.Made.{superseded-made}
use Rattle.prepared_code.proofs.originals.Originals.is_current.Goals as goal

pub returns : goal.returns
returns c = λ current.
    subst (λ (o : OriginalsView). is_superseded_in o.versions.slots o.versions.current c.args.version ≡ false) c.self.view_is
    (superseded-made c.self.inside.index.value c.self.inside.versions c.args.version ∙ c.is_current.ensures current)
