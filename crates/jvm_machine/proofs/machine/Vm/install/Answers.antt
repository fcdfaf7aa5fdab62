use Rattle.std.proofs.Common.{◌≡◌, refl, sym, ap, subst, ◌∙◌}
use Rattle.std.specs.Prelude.{OnOk}
use Rattle.jvm_model.specs.declared.program.Program.{Program}
use Rattle.member_selection.specs.Numbers.{AreNumbers}
use Rattle.prepared_code.specs.ClassVersions.{class_versions}
use Rattle.prepared_code.specs.Initializations.{state_of}
use Rattle.prepared_code.specs.Originals.{setup_in}
use Rattle.prepared_code.specs.Tables.{Adds, AreOfMethods, Versions}
use Rattle.prepared_code.specs.Versions.{Setup}
use Rattle.prepared_code.proofs.Images.ClassVersionLaws.{versions-below}
use Rattle.prepared_code.proofs.Tables.StandingSteps.{parts-pinned}
use Rattle.jvm_machine.specs.Installs.{IsFormed, IsImageOf, with_class}
use Rattle.jvm_machine.specs.Machine.{IsMachine, IsTidy, state_seen, state_viewed}
use Rattle.jvm_machine.specs.View.{View}
use Rattle.jvm_machine.proofs.Versions.ImagedMethods.{class-fits}
use Rattle.jvm_machine.proofs.Versions.Installed.{either-way, installed-machine, installed-seen, on-err-then, on-ok-then}
use Rattle.jvm_machine.proofs.Versions.HeldVersions.{pinned-runs, plain-view, seen-is, tidy-added}
use Rattle.jvm_machine.proofs.machine.Vm.install.Goals as goal

pub install-requires-clause-image : goal.install-requires-clause-image
install-requires-clause-image c =
    class-fits c.self.inside.parts.runtime.world.program (subst (λ (v : View). IsFormed v.program) (sym (seen-is c.self.invariant c.self.view_is)) c.requires.formed) c.self.invariant.machine.has.closed
    c.args.class c.args.marks.now c.args.image c.args.homes.now (subst (λ (v : View). IsImageOf v.program c.args.class c.args.marks.now c.args.image c.args.homes.now) (sym (seen-is c.self.invariant c.self.view_is)) c.requires.image)

-- the code is of the runtime's program
pub install-requires-clause-numbers : goal.install-requires-clause-numbers
install-requires-clause-numbers c = subst (λ (p : Program). AreNumbers p c.numbers-numbers.result.now) c.self.invariant.program c.numbers-numbers.ensures

pub invariant_of-self : goal.invariant_of-self
invariant_of-self c = record {
  machine = either-way (IsMachine (setup_in c.self.inside.parts.runtime c.install.new.self) c.self.inside.hand (state_seen (setup_in c.self.inside.parts.runtime c.install.new.self) (state_of c.self.inside.initializing c.self.inside.parts) c.self.inside.started c.self.inside.broken c.self.inside.clock c.self.inside.hand) (state_of c.self.inside.initializing c.self.inside.parts)) c.install.result
      (on-ok-then (Adds c.self.inside.parts.frames.frames (class_versions c.self.inside.parts.runtime.world.program c.args.class c.args.image c.args.homes.now) c.self.inside.originals.versions c.install.new.self.versions) (IsMachine (setup_in c.self.inside.parts.runtime c.install.new.self) c.self.inside.hand (state_seen (setup_in c.self.inside.parts.runtime c.install.new.self) (state_of c.self.inside.initializing c.self.inside.parts) c.self.inside.started c.self.inside.broken c.self.inside.clock c.self.inside.hand) (state_of c.self.inside.initializing c.self.inside.parts)) c.install.result
      (installed-machine c.self.inside.started c.self.inside.broken c.self.inside.clock c.self.inside.hand (state_of c.self.inside.initializing c.self.inside.parts)
      (ap (λ (v : View). v.broken) (seen-is c.self.invariant c.self.view_is) ∙ c.requires.whole) (setup_in c.self.inside.parts.runtime c.self.inside.originals) c.self.inside.parts.frames.frames
      (parts-pinned c.self.inside.initializing c.self.inside.parts) c.self.invariant.machine (subst (λ (v : View). IsFormed v.program) (sym (seen-is c.self.invariant c.self.view_is)) c.requires.formed)
      c.args.class c.args.marks.now c.args.image c.args.homes.now (subst (λ (v : View). IsImageOf v.program c.args.class c.args.marks.now c.args.image c.args.homes.now) (sym (seen-is c.self.invariant c.self.view_is)) c.requires.image)
      c.requires.pool (setup_in c.self.inside.parts.runtime c.install.new.self) refl)
      (subst (λ (p : Program). OnOk c.install.result (Adds c.self.inside.parts.frames.frames (class_versions p c.args.class c.args.image c.args.homes.now) c.self.inside.originals.versions c.install.new.self.versions)) (sym c.self.invariant.program) c.install.ensures.ok))
      (on-err-then (c.install.new.self.versions ≡ c.self.inside.originals.versions) (IsMachine (setup_in c.self.inside.parts.runtime c.install.new.self) c.self.inside.hand (state_seen (setup_in c.self.inside.parts.runtime c.install.new.self) (state_of c.self.inside.initializing c.self.inside.parts) c.self.inside.started c.self.inside.broken c.self.inside.clock c.self.inside.hand) (state_of c.self.inside.initializing c.self.inside.parts)) c.install.result
      (λ versions. subst (λ (v : Versions). let w : Setup = record { world = c.self.inside.parts.runtime.world; versions = v } in IsMachine w c.self.inside.hand (state_seen w (state_of c.self.inside.initializing c.self.inside.parts) c.self.inside.started c.self.inside.broken c.self.inside.clock c.self.inside.hand) (state_of c.self.inside.initializing c.self.inside.parts))
      (sym versions) c.self.invariant.machine) c.install.ensures.err);
  program = c.self.invariant.program ∙ sym c.install.ensures.program;
  known = λ whole. c.install.ensures.known c.self.inside.parts.runtime (c.self.invariant.known whole);
  tidy = λ whole. either-way (IsTidy c.install.new.self.versions (state_of c.self.inside.initializing c.self.inside.parts).stack) c.install.result
      (on-ok-then (Adds c.self.inside.parts.frames.frames (class_versions c.self.inside.parts.runtime.world.program c.args.class c.args.image c.args.homes.now) c.self.inside.originals.versions c.install.new.self.versions) (IsTidy c.install.new.self.versions (state_of c.self.inside.initializing c.self.inside.parts).stack) c.install.result
      (λ adds.
      tidy-added (state_of c.self.inside.initializing c.self.inside.parts).stack c.self.inside.parts.frames.frames (λ k. pinned-runs k c.self.inside.parts.frames.frames c.self.inside.initializing)
      (class_versions c.self.inside.parts.runtime.world.program c.args.class c.args.image c.args.homes.now)
      c.self.inside.originals.versions c.install.new.self.versions
      (subst (λ n. AreOfMethods n (class_versions c.self.inside.parts.runtime.world.program c.args.class c.args.image c.args.homes.now)) (sym c.self.invariant.machine.has.are.count)
      (versions-below c.self.inside.parts.runtime.world.program c.args.class c.args.image c.args.homes.now))
      adds (c.self.invariant.tidy whole))
      (subst (λ (p : Program). OnOk c.install.result (Adds c.self.inside.parts.frames.frames (class_versions p c.args.class c.args.image c.args.homes.now) c.self.inside.originals.versions c.install.new.self.versions)) (sym c.self.invariant.program) c.install.ensures.ok))
      (on-err-then (c.install.new.self.versions ≡ c.self.inside.originals.versions) (IsTidy c.install.new.self.versions (state_of c.self.inside.initializing c.self.inside.parts).stack) c.install.result
      (λ versions. subst (λ (v : Versions). IsTidy v (state_of c.self.inside.initializing c.self.inside.parts).stack) (sym versions) (c.self.invariant.tidy whole)) c.install.ensures.err);
}

pub returns-clause-ok : goal.returns-clause-ok
returns-clause-ok c =
    on-ok-then (Adds c.self.inside.parts.frames.frames (class_versions c.self.inside.parts.runtime.world.program c.args.class c.args.image c.args.homes.now) c.self.inside.originals.versions c.install.new.self.versions) (state_viewed (setup_in c.self.inside.parts.runtime c.install.new.self) (state_of c.self.inside.initializing c.self.inside.parts) c.self.inside.started c.self.inside.broken c.self.inside.clock c.self.inside.hand ≡ with_class c.args.class c.args.marks.now c.args.self.now) c.install.result
    (λ adds. plain-view (setup_in c.self.inside.parts.runtime c.install.new.self) c.self.inside.hand c.self.inside.started c.self.inside.broken c.self.inside.clock
    (state_of c.self.inside.initializing c.self.inside.parts) (λ whole.
    tidy-added (state_of c.self.inside.initializing c.self.inside.parts).stack c.self.inside.parts.frames.frames (λ k. pinned-runs k c.self.inside.parts.frames.frames c.self.inside.initializing)
    (class_versions c.self.inside.parts.runtime.world.program c.args.class c.args.image c.args.homes.now)
    c.self.inside.originals.versions c.install.new.self.versions
    (subst (λ n. AreOfMethods n (class_versions c.self.inside.parts.runtime.world.program c.args.class c.args.image c.args.homes.now)) (sym c.self.invariant.machine.has.are.count)
    (versions-below c.self.inside.parts.runtime.world.program c.args.class c.args.image c.args.homes.now))
    adds (c.self.invariant.tidy whole))
    ∙ (installed-seen c.self.inside.started c.self.inside.broken c.self.inside.clock c.self.inside.hand (state_of c.self.inside.initializing c.self.inside.parts)
    (ap (λ (v : View). v.broken) (seen-is c.self.invariant c.self.view_is) ∙ c.requires.whole) (setup_in c.self.inside.parts.runtime c.self.inside.originals) c.self.inside.parts.frames.frames
    (parts-pinned c.self.inside.initializing c.self.inside.parts) c.self.invariant.machine (subst (λ (v : View). IsFormed v.program) (sym (seen-is c.self.invariant c.self.view_is)) c.requires.formed)
    c.args.class c.args.marks.now c.args.image c.args.homes.now (subst (λ (v : View). IsImageOf v.program c.args.class c.args.marks.now c.args.image c.args.homes.now) (sym (seen-is c.self.invariant c.self.view_is)) c.requires.image)
    c.requires.pool (setup_in c.self.inside.parts.runtime c.install.new.self) refl adds
    ∙ ap (with_class c.args.class c.args.marks.now) (seen-is c.self.invariant c.self.view_is)))
    (subst (λ (p : Program). OnOk c.install.result (Adds c.self.inside.parts.frames.frames (class_versions p c.args.class c.args.image c.args.homes.now) c.self.inside.originals.versions c.install.new.self.versions)) (sym c.self.invariant.program) c.install.ensures.ok)

pub returns-clause-err : goal.returns-clause-err
returns-clause-err c =
    on-err-then (c.install.new.self.versions ≡ c.self.inside.originals.versions) (state_viewed (setup_in c.self.inside.parts.runtime c.install.new.self) (state_of c.self.inside.initializing c.self.inside.parts) c.self.inside.started c.self.inside.broken c.self.inside.clock c.self.inside.hand ≡ c.args.self.now) c.install.result
    (λ versions. ap (λ (v : Versions). let w : Setup = record { world = c.self.inside.parts.runtime.world; versions = v } in state_viewed w (state_of c.self.inside.initializing c.self.inside.parts) c.self.inside.started c.self.inside.broken c.self.inside.clock c.self.inside.hand) versions
    ∙ c.self.view_is) c.install.ensures.err
