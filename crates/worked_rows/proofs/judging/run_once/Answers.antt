use Rattle.std.proofs.Common.{◌≡◌, None, Ok, ap}
use Rattle.worked_rows.proofs.Told.{has_passed}
use Rattle.worked_rows.proofs.judging.run_once.Goals as goal

pub returns-clause-passed : goal.returns-clause-passed
returns-clause-passed g c = λ e.
    let none : c.in_ok-compare.field-0 ≡ None = cc in
    has_passed (g.F.Files.contents c.args.files.now) (g.F.Files.contents c.read_expected.new.files) c.args.row.now c.in_ok-expected.expected c.in_ok-given.given.words c.in_ok-answer.answer
    c.in_ok-expected.ensures.found c.in_ok-expected.ensures.stay c.in_ok-given.ensures.words c.in_ok-answer.ensures (c.in_ok-compare.ensures.same (ap Ok none))
