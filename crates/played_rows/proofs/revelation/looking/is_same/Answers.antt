use Rattle.std.proofs.Common.{refl}
use Rattle.played_rows.proofs.RevelationLemmas.LookLemmas.{facts-decided, marks-decided, not-same}
use Rattle.played_rows.proofs.revelation.looking.is_same.Goals as goal

pub returns-in-Marks-Marks-clause-same : goal.returns-in-Marks-Marks-clause-same
returns-in-Marks-Marks-clause-same c = λ e.
    let xs = c.as_slice.result.now in
    let ys = c.as_slice-in-Marks-Marks.result.now in
    (facts-decided c.args.wanted.now c.args.came.now c.in-Marks-Marks.a c.in-Marks-Marks.b xs ys c.eq.result c.in-Marks-Marks.is-0 c.in-Marks-Marks.is-1
    c.as_slice.ensures c.as_slice-in-Marks-Marks.ensures (marks-decided _ xs ys c.eq.result c.eq.ensures refl refl refl refl refl refl refl refl refl)).0 e

pub returns-in-Marks-Marks-clause-other : goal.returns-in-Marks-Marks-clause-other
returns-in-Marks-Marks-clause-other c = λ e same.
    let xs = c.as_slice.result.now in
    let ys = c.as_slice-in-Marks-Marks.result.now in
    not-same c.args.wanted.now c.args.came.now c.eq.result
    (facts-decided c.args.wanted.now c.args.came.now c.in-Marks-Marks.a c.in-Marks-Marks.b xs ys c.eq.result c.in-Marks-Marks.is-0 c.in-Marks-Marks.is-1
    c.as_slice.ensures c.as_slice-in-Marks-Marks.ensures (marks-decided _ xs ys c.eq.result c.eq.ensures refl refl refl refl refl refl refl refl refl)) e same
