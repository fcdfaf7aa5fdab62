use Rattle.prepared_code.specs.Entries.{code_line}
use Rattle.prepared_code.proofs.Tables.Tabled.{tabled-more}
use Rattle.prepared_code.proofs.preparing.lines_of.Goals as goal

pub loop-at-preserved : goal.loop-at-preserved
loop-at-preserved c =
    rw c.in_ok-push.ensures.items (tabled-more (code_line c.args.class.now c.args.code.now) c.loop-at.at c.loop-at.lines c.in_ok-line.line c.loop-at.invariant c.in_ok-line.ensures)
