use Rattle.std.proofs.Common.{◌≡◌, ◌<◌, ◌≤◌, ◌^◌, length, subst, sym, ap, ◌∙◌, arith}
use Rattle.jvm_model.specs.declared.program.Program.{Program}
use Rattle.prepared_code.specs.Making.{AreBare, bare_versions, with_lines}
use Rattle.prepared_code.specs.Versions.{Setup}
use Rattle.prepared_code.proofs.Tables.Made.{first-bare, first-versions}
use Rattle.prepared_code.proofs.Lines.Entries.{IsPrepared-entries}
use Rattle.prepared_code.proofs.Tables.StandingSteps.{made-set_up}
use Rattle.prepared_code.proofs.originals.Originals.new.Goals as goal

pub invariant_of-result : goal.invariant_of-result
invariant_of-result c =
    let p : Program = c.args.index.value in
    let few : length p.classes < 2 ^ 24 = omega (arith, c.requires.linkable.count) in
    let made : c.in_ok-versions.versions ≡ bare_versions p = c.in_ok-versions.ensures ∙ ap (λ (q : Program). bare_versions q) (c.program.ensures.all ∙ c.as_ref.ensures) in
    record {
      prepared = IsPrepared-entries p (with_lines p c.in_ok-versions.versions) c.requires few c.requires.methods (ap (with_lines p) made ∙ first-versions p);
      bare = subst (AreBare p) (sym made) (first-bare p);
    }

pub returns-clause-versions : goal.returns-clause-versions
returns-clause-versions c =
    let p : Program = c.args.index.value in
    let made : c.in_ok-versions.versions ≡ bare_versions p = c.in_ok-versions.ensures ∙ ap (λ (q : Program). bare_versions q) (c.program.ensures.all ∙ c.as_ref.ensures) in
    ap (with_lines p) made ∙ first-versions p

pub returns-clause-set_up : goal.returns-clause-set_up
returns-clause-set_up c = λ w same fit closed.
    let p : Program = c.args.index.value in
    let few : length p.methods ≤ 4294967296 = omega (arith, c.requires.methods) in
    let first : c.in_ok-versions.versions ≡ bare_versions p = c.in_ok-versions.ensures ∙ ap (λ (q : Program). bare_versions q) (c.program.ensures.all ∙ c.as_ref.ensures) in
    let made : Setup = record { world = w; versions = with_lines p c.in_ok-versions.versions } in
    made-set_up made p same (ap (with_lines p) first ∙ first-versions p) few fit closed
