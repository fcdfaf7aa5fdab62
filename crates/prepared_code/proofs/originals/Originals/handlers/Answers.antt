use Rattle.std.proofs.Common.{sym, ap, ◌∙◌}
use Rattle.std.specs.Option.{option_copied, option_map}
use Rattle.prepared_code.specs.Originals.{OriginalsView}
use Rattle.prepared_code.specs.Tables.{Version, version_at}
use Rattle.prepared_code.proofs.Tables.Made.{handlers-made}
use Rattle.prepared_code.proofs.originals.Originals.handlers.Goals as goal

pub returns-in-Some : goal.returns-in-Some
returns-in-Some c =
    ap (option_map (λ (x : Version). x.prepared.handlers)) (sym (ap option_copied c.in-Some.is) ∙ c.version_at.ensures)
    ∙ (handlers-made c.self.inside.index.value c.self.inside.versions c.self.invariant.bare c.args.version
    ∙ ap (λ (o : OriginalsView). option_map (λ (x : Version). x.prepared.handlers) (version_at o.versions c.args.version)) c.self.view_is)

pub returns-in-None : goal.returns-in-None
returns-in-None c =
    ap (option_map (λ (x : Version). x.prepared.handlers)) (sym (ap option_copied c.in-None.is) ∙ c.version_at.ensures)
    ∙ (handlers-made c.self.inside.index.value c.self.inside.versions c.self.invariant.bare c.args.version
    ∙ ap (λ (o : OriginalsView). option_map (λ (x : Version). x.prepared.handlers) (version_at o.versions c.args.version)) c.self.view_is)
