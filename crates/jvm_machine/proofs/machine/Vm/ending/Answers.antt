use Rattle.prepared_code.specs.Initializations.{state_of}
use Rattle.prepared_code.specs.Originals.{setup_in}
use Rattle.jvm_machine.proofs.States.Shown.{rest-shows}
use Rattle.jvm_machine.proofs.Versions.HeldVersions.{seen-is}
use Rattle.jvm_machine.proofs.machine.Vm.ending.Goals as goal

pub returns : goal.returns
returns c = λ whole resting.
    (rest-shows (setup_in c.self.inside.parts.runtime c.self.inside.originals) c.self.inside.hand c.self.inside.started c.self.inside.broken c.self.inside.clock
    (state_of c.self.inside.initializing c.self.inside.parts) c.self.invariant.machine c.args.self.now (seen-is c.self.invariant c.self.view_is) whole resting).ending
