use Rattle.std.proofs.Common.{arith}
use Rattle.symbolic_references.proofs.NativeLemmas.{throws-named, throws-past}
use Rattle.symbolic_references.proofs.runtime.natives.thrown_by.Goals as goal

pub returns-then-place-lt-BUILT_IN_CLASSES : goal.returns-then-place-lt-BUILT_IN_CLASSES
returns-then-place-lt-BUILT_IN_CLASSES c = throws-named c.args.place c.if-place-eq-OUT_OF_MEMORY_ERROR.false c.if-place-lt-BUILT_IN_CLASSES.true

pub returns-else-place-lt-BUILT_IN_CLASSES : goal.returns-else-place-lt-BUILT_IN_CLASSES
returns-else-place-lt-BUILT_IN_CLASSES c = throws-past c.args.place c.if-place-eq-OUT_OF_MEMORY_ERROR.false (omega (arith, c.if-place-lt-BUILT_IN_CLASSES.false))
