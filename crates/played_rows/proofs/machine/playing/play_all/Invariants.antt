use Rattle.std.proofs.Common.{map, take}
use Rattle.played_rows.specs.Machine.Played.{Plays}
use Rattle.played_rows.specs.Machine.Ready.{IsReady}
use Rattle.played_rows.proofs.machine.playing.play_all.Given as goal

abbrev pub invariant-loop-placed : goal.invariant-loop-placed
invariant-loop-placed l = record {
  ready : IsReady l.vm;
  plays : Plays (map (λ x. x.line) (take l.placed-index l.lines)) l.fn.vm l.vm;
}
