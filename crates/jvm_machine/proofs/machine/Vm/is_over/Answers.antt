use Rattle.std.proofs.Common.{sym, ◌∙◌}
use Rattle.prepared_code.specs.Initializations.{state_of}
use Rattle.prepared_code.specs.Originals.{setup_in}
use Rattle.jvm_machine.proofs.States.Shown.{over-is}
use Rattle.jvm_machine.proofs.Versions.HeldVersions.{seen-is}
use Rattle.jvm_machine.proofs.machine.Vm.is_over.Goals as goal

pub returns-then-is_resting : goal.returns-then-is_resting
returns-then-is_resting c = λ whole.
    c.is_some.ensures
    ∙ over-is (setup_in c.self.inside.parts.runtime c.self.inside.originals) c.self.inside.hand c.self.inside.started c.self.inside.broken c.self.inside.clock
    (state_of c.self.inside.initializing c.self.inside.parts) c.self.invariant.machine c.args.self.now (seen-is c.self.invariant c.self.view_is) whole (sym c.is_resting.ensures ∙ c.if-is_resting.true)
