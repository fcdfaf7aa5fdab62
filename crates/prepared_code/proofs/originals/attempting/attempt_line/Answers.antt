use Rattle.std.proofs.lemmas.Result.{on_ok_weaker}
use Rattle.std.specs.Prelude.{drop, length}
use Rattle.symbolic_references.specs.Runtimes.{linker_in}
use Rattle.prepared_code.proofs.Lines.CellLemmas.{later_more}
use Rattle.prepared_code.proofs.originals.attempting.attempt_line.Goals as goal

pub returns-in-Named-clause-later : goal.returns-in-Named-clause-later
returns-in-Named-clause-later c =
    let r = c.args.runtime.now in
    let new = c.attempt.new.self in
    on_ok_weaker c.attempt.result (λ left. later_more (linker_in r) (linker_in new) (drop (length r.shared.loaded) new.shared.loaded) c.attempt.ensures.more)
    c.attempt.ensures.runtime
