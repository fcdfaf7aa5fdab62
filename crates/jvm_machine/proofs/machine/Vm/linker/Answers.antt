use Rattle.std.proofs.Common.{ap, ◌∙◌}
use Rattle.class_linker.specs.Linkers.{LinkerView}
use Rattle.prepared_code.specs.Initializations.{state_of}
use Rattle.prepared_code.specs.Originals.{setup_in}
use Rattle.jvm_machine.proofs.States.Loaded.{run-loaded}
use Rattle.jvm_machine.proofs.Versions.HeldVersions.{seen-is}
use Rattle.jvm_machine.proofs.machine.Vm.linker.Goals as goal

pub returns-clause-loaded : goal.returns-clause-loaded
returns-clause-loaded c = λ whole.
    ap (λ (l : LinkerView). l.loaded) c.linker.ensures
    ∙ run-loaded (setup_in c.self.inside.parts.runtime c.self.inside.originals) c.self.inside.hand c.self.inside.started c.self.inside.broken c.self.inside.clock
    (state_of c.self.inside.initializing c.self.inside.parts) c.self.invariant.machine c.args.self.now (seen-is c.self.invariant c.self.view_is) whole
