-- no method so far is marked
use Rattle.std.proofs.Common.{◌≡◌, map, take}
use Rattle.jvm_model.specs.declared.event.Mark.TheVariants.{Off}
use Rattle.played_rows.proofs.revelation.reading.no_marks.Given as goal

abbrev pub invariant-loop-place : goal.invariant-loop-place
invariant-loop-place l = l.marks.items ≡ map (λ place. Off) (take l._place-index l.program.methods)
