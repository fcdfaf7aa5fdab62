use Rattle.std.proofs.Common.{length, sym, ap, ◌∙◌}
use Rattle.prepared_code.specs.Initializations.{state_of}
use Rattle.prepared_code.specs.Versions.{mark_of}
use Rattle.prepared_code.specs.Originals.{setup_in}
use Rattle.jvm_machine.specs.View.{View}
use Rattle.jvm_machine.proofs.States.Shown.{rest-live}
use Rattle.jvm_machine.proofs.Probes.ToldFrames.{live-frames}
use Rattle.jvm_machine.proofs.Versions.HeldVersions.{seen-is}
use Rattle.jvm_machine.proofs.machine.Vm.live.Goals as goal

pub returns-clause-live : goal.returns-clause-live
returns-clause-live c =
    c.depth.ensures
    ∙ (sym (live-frames (mark_of c.self.inside.originals.versions) c.self.inside.initializing c.self.inside.parts) ∙ ap (λ (v : View). length v.live) (seen-is c.self.invariant c.self.view_is))

pub returns-clause-rests : goal.returns-clause-rests
returns-clause-rests c = λ whole resting.
    c.depth.ensures
    ∙ (sym (live-frames (mark_of c.self.inside.originals.versions) c.self.inside.initializing c.self.inside.parts)
    ∙ (ap (λ (v : View). length v.live) (seen-is c.self.invariant c.self.view_is) ∙ rest-live (setup_in c.self.inside.parts.runtime c.self.inside.originals) c.self.inside.hand c.self.inside.started c.self.inside.broken c.self.inside.clock
    (state_of c.self.inside.initializing c.self.inside.parts) c.self.invariant.machine c.args.self.now (seen-is c.self.invariant c.self.view_is) whole resting))
