use Rattle.std.proofs.Common.{◌≡◌, Some, sym, subst, ap, ◌∙◌, rules}
use Rattle.std.specs.Option.{option_copied}
use Rattle.symbolic_references.specs.Runtimes.{RuntimeView, linker_in}
use Rattle.prepared_code.specs.Cells.{cell_at}
use Rattle.prepared_code.specs.Originals.{AreNamesKnown, IsReady, OriginalsView}
use Rattle.prepared_code.specs.Making.{with_lines}
use Rattle.prepared_code.proofs.Lines.CellLemmas.{known-at, learnt-kept}
use Rattle.prepared_code.proofs.Lines.Dimensions.{line-fits}
use Rattle.prepared_code.proofs.Lines.KnownNames.{names-renewed}
use Rattle.prepared_code.proofs.originals.Originals.attempt_named.Goals as goal

pub line_there-requires : goal.line_there-requires
line_there-requires c = subst (λ o. IsReady o c.args.version) (sym c.self.view_is) c.requires.ready

pub attempt_line-requires-clause-dimensions : goal.attempt_line-requires-clause-dimensions
attempt_line-requires-clause-dimensions c =
    line-fits (with_lines c.self.inside.index.value c.self.inside.versions) c.self.invariant.prepared.lines c.args.version c.args.place c.in-Some.line (sym (ap option_copied c.in-Some.is) ∙ c.line_there.ensures)

pub attempt_line_known-requires-clause-dimensions : goal.attempt_line_known-requires-clause-dimensions
attempt_line_known-requires-clause-dimensions c =
    line-fits (with_lines c.self.inside.index.value c.self.inside.versions) c.self.invariant.prepared.lines c.args.version c.args.place c.in-Some.line (sym (ap option_copied c.in-Some.is) ∙ c.line_there.ensures)

pub attempt_line_known-requires-clause-known : goal.attempt_line_known-requires-clause-known
attempt_line_known-requires-clause-known c =
    let there : cell_at c.self.inside.cells c.args.version c.args.place ≡ Some c.in-Some-get.before = search rules in
    known-at (linker_in c.args.runtime.now) (with_lines c.self.inside.index.value c.self.inside.versions) c.self.inside.cells c.args.version c.args.place c.in-Some-get.before c.in-Some.line.now
    (subst (λ (o : OriginalsView). AreNamesKnown o c.args.runtime.now) (sym c.self.view_is) c.requires.known)
    there (sym (sym (ap option_copied c.in-Some.is) ∙ c.line_there.ensures))

pub returns-in-Some-get-clause-known : goal.returns-in-Some-get-clause-known
returns-in-Some-get-clause-known c =
    let r = c.args.runtime.now in
    let p = c.self.inside.index.value in
    let v = c.self.inside.versions in
    let o : OriginalsView = record { program = p; versions = with_lines p v; kept = v; rows = c.self.inside.cells } in
    names-renewed o r c.keep_selected.new.runtime c.renew.new.self c.args.version c.args.place c.attempt_line_known.new.known c.in-Some.line.now
    (sym (sym (ap option_copied c.in-Some.is) ∙ c.line_there.ensures))
    (ap (λ (x : RuntimeView). x.world) c.keep_selected.ensures ∙ c.attempt_line_known.ensures.world)
    (ap (λ (x : RuntimeView). x.shared.loaded) c.keep_selected.ensures ∙ c.attempt_line_known.ensures.same_loaded)
    c.renew.ensures c.attempt_line_known.ensures.known (subst (λ (x : OriginalsView). AreNamesKnown x r) (sym c.self.view_is) c.requires.known)

pub returns-clause-known : goal.returns-clause-known
returns-clause-known c =
    let r = c.args.runtime.now in
    let v = with_lines c.self.inside.index.value c.self.inside.versions in
    learnt-kept (linker_in r) (linker_in c.attempt_line.new.runtime) v c.self.inside.cells c.learn.new.self c.args.version c.args.place c.attempt_line.new.learnt c.in-Some.line.now
    (sym (sym (ap option_copied c.in-Some.is) ∙ c.line_there.ensures)) c.in_ok-outcome.ensures.later
    (subst (λ (x : OriginalsView). AreNamesKnown x r) (sym c.self.view_is) c.requires.known) c.learn.ensures c.in_ok-outcome.ensures.learnt
