use Rattle.std.proofs.Common.{sym, subst, ◌∙◌}
use Rattle.prepared_code.specs.Tables.{AreAllCurrent, Releases, table_seen}
use Rattle.prepared_code.proofs.Tables.Added.{none-released}
use Rattle.prepared_code.proofs.versions.Versions.release.Goals as goal

pub returns-clause-same : goal.returns-clause-same
returns-clause-same c = λ all.
    let is : Releases c.args.frames.now.frames (table_seen c.self.inside.table) (table_seen c.release.new.self) =
    record { held = c.release.ensures.held; current = c.release.ensures.current; count = c.release.ensures.count } in
    none-released c.args.frames.now.frames (table_seen c.self.inside.table) (table_seen c.release.new.self) is (subst (λ v. AreAllCurrent v) (sym c.self.view_is) all) ∙ c.self.view_is
