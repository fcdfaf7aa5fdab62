-- the words that are left mark behind those before them
use Rattle.std.proofs.Common.{◌≡◌, drop, map}
use Rattle.played_rows.specs.Revelation.Reading.{marks_with, no_marks}
use Rattle.played_rows.proofs.revelation.reading.marks_of.Given as goal

abbrev pub invariant-loop-word : goal.invariant-loop-word
invariant-loop-word l =
    marks_with l.program l.marks.items (map (λ w. w.now) (drop l.word-index l.words))
    ≡ marks_with l.program (no_marks l.program) (map (λ w. w.now) l.words)
