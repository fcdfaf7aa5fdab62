use Rattle.std.proofs.Common.{◌≡◌, Some, sym, subst, ap, ◌∙◌}
use Rattle.std.specs.Option.{option_copied}
use Rattle.prepared_code.specs.Originals.{OriginalsView}
use Rattle.prepared_code.specs.Tables.{Version, version_at}
use Rattle.prepared_code.proofs.Tables.Made.{are-prepared, version-made}
use Rattle.prepared_code.proofs.originals.Originals.version.Goals as goal

pub returns-clause-version : goal.returns-clause-version
returns-clause-version c =
    let x : Version = c.in_ok-held.held.now in
    subst (λ (o : OriginalsView). version_at o.versions c.args.version ≡ Some x) c.self.view_is
    (version-made c.self.inside.index.value c.self.inside.versions c.args.version x (sym c.version_at.ensures ∙ ap option_copied c.in_ok-held.was) c.if-not-held.false)

pub returns-clause-prepared : goal.returns-clause-prepared
returns-clause-prepared c =
    let x : Version = c.in_ok-held.held.now in
    are-prepared c.self.inside.index.value c.self.inside.versions c.self.invariant.prepared.lines c.args.version x
    (version-made c.self.inside.index.value c.self.inside.versions c.args.version x (sym c.version_at.ensures ∙ ap option_copied c.in_ok-held.was) c.if-not-held.false)
