-- the marks so far, and those of the methods that are left
use Rattle.std.proofs.Common.{◌≡◌, ◌++◌, ℕ, drop, map}
use Rattle.std.specs.List.{enumerate_from}
use Rattle.jvm_model.specs.declared.program.MethodPlace.{MethodPlace}
use Rattle.jvm_model.specs.Profiling.Revealed.{mark_of, marks_of}
use Rattle.call_revelation.specs.Reveals.{now_of}
use Rattle.played_rows.proofs.revelation.looking.marks.Given as goal

abbrev pub invariant-loop-method : goal.invariant-loop-method
invariant-loop-method l =
    l.marks ++ map (λ (e : ℕ × MethodPlace). mark_of l.linker.program (now_of l.reveal) e.0) (enumerate_from l.method (drop l.method l.places)) ≡ marks_of l.linker.program (now_of l.reveal)
