-- what is left is shown
use Rattle.std.proofs.Common.{◌≡◌, drop}
use Rattle.call_revelation.specs.Reveals.{with_marks}
use Rattle.call_revelation.proofs.reveal.Reveal.show_stale.Given as goal

abbrev pub invariant-loop-at : goal.invariant-loop-at
invariant-loop-at l =
    (l.self ≡ (record l.initial.self { shown = l.self.shown }))
    × (with_marks l.program l.initial.self (drop l.at l.initial.self.stale) l.self.shown
    ≡ with_marks l.program l.initial.self l.initial.self.stale l.initial.self.shown)
