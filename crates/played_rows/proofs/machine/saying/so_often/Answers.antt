use Rattle.std.proofs.Common.{None, sym, ◌∙◌}
use Rattle.played_rows.specs.Machine.Reading.{turn_taken}
use Rattle.played_rows.proofs.MachineLemmas.SayingLemmas.{once-more}
use Rattle.played_rows.proofs.machine.saying.so_often.Goals as goal

pub loop-left-preserved : goal.loop-left-preserved
loop-left-preserved c =
    once-more (turn_taken c.args.program.now None c.args.words.now) c.loop-left.left c.loop-left.next c.loop-left.lines.items _ c.in-Some.said _
    c.loop-left-test.true (sym c.in_ok-said.ensures ∙ c.in-Some.is) c.in_ok-put_behind-in-Some.ensures c.loop-left.invariant
