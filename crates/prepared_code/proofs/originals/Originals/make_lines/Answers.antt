use Rattle.std.proofs.Common.{◌≡◌, Some, sym, subst, ap, ◌∙◌}
use Rattle.std.specs.Option.{option_copied}
use Rattle.jvm_model.specs.declared.program.Program.{Program}
use Rattle.symbolic_references.specs.Runtimes.{linker_in}
use Rattle.prepared_code.specs.Entries.{original_version}
use Rattle.prepared_code.specs.Kept.{AreKnown}
use Rattle.prepared_code.specs.Originals.{AreNamesKnown, OriginalsView}
use Rattle.prepared_code.specs.Making.{with_lines}
use Rattle.prepared_code.specs.Prepared.{IsPrepared}
use Rattle.prepared_code.specs.Tables.{Version, Versions, version_at}
use Rattle.prepared_code.proofs.Tables.Made.{lines-made, replaced-bare, replaced-lines, replaced-same}
use Rattle.prepared_code.proofs.originals.Originals.make_lines.Goals as goal

pub invariant_of-self : goal.invariant_of-self
invariant_of-self c =
    let p : Program = c.self.inside.index.value in
    let x : Version = c.in-Some.held.now in
    let old = c.self.inside.versions in
    let new = c.replace.new.self in
    let y = c.in_ok-made.made in
    let there : version_at old c.args.version ≡ Some x = sym c.version_at.ensures ∙ ap option_copied c.in-Some.is in
    let is : y ≡ original_version p x.method = c.in_ok-made.ensures ∙ ap (λ (q : Program). original_version q x.method) (c.program.ensures.all ∙ c.as_ref.ensures) in
    let same : with_lines p new ≡ with_lines p old = replaced-same p c.args.version x y old new there c.if-held.false is c.replace.ensures in
    record {
      prepared = subst (λ (v : Versions). IsPrepared p v) (sym same) c.self.invariant.prepared;
      bare = replaced-bare p c.args.version x y old new there c.if-held.false is c.replace.ensures c.self.invariant.bare;
    }

pub returns-clause-ready : goal.returns-clause-ready
returns-clause-ready c =
    let p : Program = c.self.inside.index.value in
    let x : Version = c.in-Some.held.now in
    let old = c.self.inside.versions in
    let new = c.replace.new.self in
    let y = c.in_ok-made.made in
    let there : version_at old c.args.version ≡ Some x = sym c.version_at.ensures ∙ ap option_copied c.in-Some.is in
    let is : y ≡ original_version p x.method = c.in_ok-made.ensures ∙ ap (λ (q : Program). original_version q x.method) (c.program.ensures.all ∙ c.as_ref.ensures) in
    lines-made p new c.args.version (replaced-lines p c.args.version x y old new there c.if-held.false is c.replace.ensures)

pub returns-clause-versions : goal.returns-clause-versions
returns-clause-versions c =
    let p : Program = c.self.inside.index.value in
    let x : Version = c.in-Some.held.now in
    let old = c.self.inside.versions in
    let new = c.replace.new.self in
    let y = c.in_ok-made.made in
    let there : version_at old c.args.version ≡ Some x = sym c.version_at.ensures ∙ ap option_copied c.in-Some.is in
    let is : y ≡ original_version p x.method = c.in_ok-made.ensures ∙ ap (λ (q : Program). original_version q x.method) (c.program.ensures.all ∙ c.as_ref.ensures) in
    replaced-same p c.args.version x y old new there c.if-held.false is c.replace.ensures ∙ ap (λ (o : OriginalsView). o.versions) c.self.view_is

pub returns-clause-known : goal.returns-clause-known
returns-clause-known c r known =
    let p : Program = c.self.inside.index.value in
    let x : Version = c.in-Some.held.now in
    let old = c.self.inside.versions in
    let new = c.replace.new.self in
    let y = c.in_ok-made.made in
    let there : version_at old c.args.version ≡ Some x = sym c.version_at.ensures ∙ ap option_copied c.in-Some.is in
    let made : y ≡ original_version p x.method = c.in_ok-made.ensures ∙ ap (λ (q : Program). original_version q x.method) (c.program.ensures.all ∙ c.as_ref.ensures) in
    subst (λ (v : Versions). AreKnown (linker_in r) v c.self.inside.cells) (sym (replaced-same p c.args.version x y old new there c.if-held.false made c.replace.ensures))
    (subst (λ (o : OriginalsView). AreNamesKnown o r) (sym c.self.view_is) known)
