use Rattle.std.proofs.Common.{◌≡◌, Some, sym, ap, ◌∙◌}
use Rattle.std.specs.Option.{option_copied}
use Rattle.jvm_model.specs.declared.program.Program.{Program}
use Rattle.prepared_code.specs.Entries.{original_version}
use Rattle.prepared_code.specs.Tables.{Version, version_at}
use Rattle.prepared_code.proofs.Tables.Made.{are-prepared, original-made, version-made}
use Rattle.prepared_code.proofs.originals.Originals.passage.Goals as goal

pub passage_in-requires : goal.passage_in-requires
passage_in-requires c =
    let x : Version = c.in-Some.held.now in
    are-prepared c.self.inside.index.value c.self.inside.versions c.self.invariant.prepared.lines c.args.version x
    (version-made c.self.inside.index.value c.self.inside.versions c.args.version x (sym c.version_at.ensures ∙ ap option_copied c.in-Some.is) c.if-held.true)

pub passage_in-requires-2 : goal.passage_in-requires-2
passage_in-requires-2 c =
    let p : Program = c.self.inside.index.value in
    let x : Version = c.in-Some.held.now in
    let is : c.in_ok-made.made ≡ original_version p x.method = c.in_ok-made.ensures ∙ ap (λ (q : Program). original_version q x.method) (c.program.ensures.all ∙ c.as_ref.ensures) in
    are-prepared p c.self.inside.versions c.self.invariant.prepared.lines c.args.version c.in_ok-made.made
    (original-made p c.self.inside.versions c.args.version x (sym c.version_at.ensures ∙ ap option_copied c.in-Some.is) c.if-held.false ∙ ap Some (sym is))
