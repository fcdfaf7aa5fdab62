use Rattle.symbolic_references.proofs.Attempted.{runtime_later}
use Rattle.symbolic_references.proofs.runtime.Runtime.resolve.Goals as goal

pub invariant_of-self : goal.invariant_of-self
invariant_of-self c =
    runtime_later c.self.inside.linker c.resolve.new.linker _ c.resolve.ensures.more c.self.inside.tables c.self.inside.selections c.self.inside.heap c.self.invariant
