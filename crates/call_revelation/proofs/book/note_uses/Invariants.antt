-- what is left is noted in what there is
use Rattle.std.proofs.Common.{◌≡◌, drop}
use Rattle.call_revelation.specs.Books.{HasMore, with_uses}
use Rattle.call_revelation.proofs.book.note_uses.Given as goal

abbrev pub invariant-loop-at : goal.invariant-loop-at
invariant-loop-at l =
    (with_uses l.linker.program l.calls l.caller l.at (drop l.at l.references) l.lists
    ≡ with_uses l.linker.program l.calls l.caller 0 l.references l.initial.lists)
    × HasMore l.initial.lists l.lists
