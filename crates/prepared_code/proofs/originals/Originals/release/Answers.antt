use Rattle.std.proofs.Common.{length, sym, ap, subst, ◌∙◌}
use Rattle.jvm_model.specs.declared.program.Program.{Program}
use Rattle.symbolic_references.specs.Runtimes.{linker_in}
use Rattle.prepared_code.specs.Originals.{AreNamesKnown, OriginalsView}
use Rattle.prepared_code.specs.Making.{with_lines}
use Rattle.prepared_code.specs.Tables.{AreAllCurrent, Releases}
use Rattle.prepared_code.proofs.Tables.Added.{has-lines-left}
use Rattle.prepared_code.proofs.Lines.CellLemmas.{known-left}
use Rattle.prepared_code.proofs.Tables.Made.{bare-released, releases-made, superseded-made}
use Rattle.prepared_code.proofs.originals.Originals.release.Goals as goal

pub invariant_of-self : goal.invariant_of-self
invariant_of-self c =
    let was = c.self.invariant.prepared in
    let p : Program = c.self.inside.index.value in
    let old = c.self.inside.versions in
    let new = c.release.new.self in
    let fs = c.args.frames.now.frames in
    let released = releases-made p fs old new c.release.ensures.released in
    record {
      prepared = record {
        fits = was.fits;
        few = was.few;
        numbered = was.numbered;
        lines = has-lines-left fs (with_lines p old) (with_lines p new) released was.lines;
        count = ap length c.release.ensures.released.current ∙ was.count;
      };
      bare = bare-released p fs old new c.release.ensures.released c.self.invariant.bare;
    }

pub returns-clause-released : goal.returns-clause-released
returns-clause-released c =
    let p : Program = c.self.inside.index.value in
    let fs = c.args.frames.now.frames in
    subst (λ (o : OriginalsView). Releases fs o.versions (with_lines p c.release.new.self)) c.self.view_is
    (releases-made p fs c.self.inside.versions c.release.new.self c.release.ensures.released)

pub returns-clause-known : goal.returns-clause-known
returns-clause-known c r known =
    let p : Program = c.self.inside.index.value in
    let old = c.self.inside.versions in
    let new = c.release.new.self in
    let fs = c.args.frames.now.frames in
    known-left (linker_in r) fs (with_lines p old) (with_lines p new) c.self.inside.cells (releases-made p fs old new c.release.ensures.released)
    (subst (λ (o : OriginalsView). AreNamesKnown o r) (sym c.self.view_is) known)

pub returns-clause-same : goal.returns-clause-same
returns-clause-same c = λ all.
    let p : Program = c.self.inside.index.value in
    let old = c.self.inside.versions in
    let seen : AreAllCurrent (with_lines p old) = subst (λ (o : OriginalsView). AreAllCurrent o.versions) (sym c.self.view_is) all in
    let current : AreAllCurrent old = λ k. sym (superseded-made p old k) ∙ seen k in
    ap (with_lines p) (c.release.ensures.same current) ∙ ap (λ (o : OriginalsView). o.versions) c.self.view_is
