-- so far they are loaded, and the rest is to come
use Rattle.std.proofs.Common.{drop}
use Rattle.call_revelation.specs.Reveals.{AreLoading}
use Rattle.call_revelation.proofs.reveal.Reveal.load_all.Given as goal

abbrev pub invariant-loop-class : goal.invariant-loop-class
invariant-loop-class l = AreLoading l.linker l.initial.self l.self l.classes (drop l.class-index l.classes)
