-- what comes of the items that are left comes of all
use Rattle.std.proofs.Common.{drop}
use Rattle.played_rows.specs.Revelation.Rows.{first}
use Rattle.played_rows.proofs.RevelationLemmas.RowLemmas.{IsGoing}
use Rattle.played_rows.proofs.revelation.playing.play_all.Given as goal

abbrev pub invariant-loop-item : goal.invariant-loop-item
invariant-loop-item g l =
    IsGoing l.fn.scene.linker.program l.items (first l.fn.scene.linker.loaded) l.scene.linker l.scene.reveal (drop l.item-index l.items)
