use Rattle.prepared_code.specs.Rewritten.{homed_line}
use Rattle.prepared_code.proofs.Tables.Tabled.{tabled-more}
use Rattle.prepared_code.proofs.rewritten.homed_lines.Goals as goal

pub loop-home-preserved : goal.loop-home-preserved
loop-home-preserved c =
    rw c.in_ok-push.ensures.items (tabled-more (homed_line c.args.image.now c.args.code.now c.args.homes.now c.args.len) c.loop-home.home c.loop-home.lines c.in_ok-line.line c.loop-home.invariant c.in_ok-line.ensures)
