use Rattle.std.proofs.lemmas.Result.{on_ok_weaker}
use Rattle.std.specs.Prelude.{drop, length}
use Rattle.symbolic_references.specs.Runtimes.{linker_in}
use Rattle.prepared_code.proofs.Lines.CellLemmas.{known-later, later_more}
use Rattle.prepared_code.proofs.originals.Originals.load_main.Goals as goal

pub returns-clause-known : goal.returns-clause-known
returns-clause-known c =
    let o = c.args.self.now in
    let r = c.args.runtime.now in
    let new = c.resolve.new.self in
    on_ok_weaker c.resolve.result
    (λ left. known-later (linker_in r) (linker_in new) o.versions o.rows
    (later_more (linker_in r) (linker_in new) (drop (length r.shared.loaded) new.shared.loaded) c.resolve.ensures.more) c.requires.known)
    c.resolve.ensures.runtime
