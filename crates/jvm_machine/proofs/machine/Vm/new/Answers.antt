use Rattle.std.proofs.Common.{◌≤◌, false, sym, ap, subst, ◌∙◌}
use Rattle.jvm_model.specs.declared.program.Program.{Program}
use Rattle.jvm_model.specs.Basis.Data.{World}
use Rattle.jvm_model.specs.Codes.ProgramPlaces.{HasClosedCodes}
use Rattle.jvm_model.specs.Running.Run.{before}
use Rattle.jvm_model.specs.Soundness.Sound.{IsFit}
use Rattle.prepared_code.specs.Entries.{original_versions}
use Rattle.prepared_code.specs.Initializations.{state_of}
use Rattle.prepared_code.specs.Originals.{setup_in}
use Rattle.prepared_code.specs.Prepared.{FitsOriginals}
use Rattle.prepared_code.specs.Tables.{AreAllCurrent}
use Rattle.prepared_code.proofs.Initializing.InitializingParts.{plain-state}
use Rattle.prepared_code.proofs.Tables.OriginalsRun.{original-current}
use Rattle.jvm_machine.proofs.Versions.HeldVersions.{plain-view, tidy-current}
use Rattle.jvm_machine.proofs.States.Fresh.{fresh-machine, fresh-seen}
use Rattle.jvm_machine.proofs.machine.Vm.new.Goals as goal

pub new-requires-3 : goal.new-requires-3
new-requires-3 c = subst FitsOriginals (sym (c.in_ok-shared.ensures.ok ∙ c.in_ok-index.ensures)) c.requires.fits

pub parts_before-requires-clause-fit : goal.parts_before-requires-clause-fit
parts_before-requires-clause-fit c = subst IsFit (sym (c.in_ok-originals.ensures.program ∙ (c.in_ok-shared.ensures.ok ∙ c.in_ok-index.ensures))) c.requires.fit

pub parts_before-requires-clause-room : goal.parts_before-requires-clause-room
parts_before-requires-clause-room c = subst (λ (p : Program). 1024 ≤ p.heap) (sym (c.in_ok-originals.ensures.program ∙ (c.in_ok-shared.ensures.ok ∙ c.in_ok-index.ensures))) c.requires.starts.room

pub invariant_of-result : goal.invariant_of-result
invariant_of-result c = record {
  machine = fresh-machine (setup_in c.in_ok-parts.parts.runtime c.in_ok-originals.originals) (state_of c.new-4.result c.in_ok-parts.parts)
      (c.in_ok-originals.ensures.set_up c.in_ok-parts.parts.runtime.world (ap (λ (w : World). w.program) c.in_ok-parts.ensures.world ∙ c.in_ok-originals.ensures.program)
      (subst IsFit (sym (c.in_ok-shared.ensures.ok ∙ c.in_ok-index.ensures)) c.requires.fit) (subst HasClosedCodes (sym (c.in_ok-shared.ensures.ok ∙ c.in_ok-index.ensures)) c.requires.closed))
      (record {
        before = plain-state c.new-4.result c.in_ok-parts.parts c.new-4.ensures ∙ (c.in_ok-parts.ensures.state ∙ ap before (sym c.in_ok-parts.ensures.world));
        room = subst (λ (w : World). 1024 ≤ w.program.heap) (sym c.in_ok-parts.ensures.world) (subst (λ (p : Program). 1024 ≤ p.heap) (sym (c.in_ok-originals.ensures.program ∙ (c.in_ok-shared.ensures.ok ∙ c.in_ok-index.ensures))) c.requires.starts.room);
      });
  program = ap (λ (w : World). w.program) c.in_ok-parts.ensures.world;
  known = λ whole. c.in_ok-parts.ensures.known;
  tidy = λ whole. tidy-current c.in_ok-originals.originals.versions (state_of c.new-4.result c.in_ok-parts.parts).stack
      (subst AreAllCurrent (sym (c.in_ok-originals.ensures.versions ∙ ap original_versions (c.in_ok-shared.ensures.ok ∙ c.in_ok-index.ensures))) (original-current c.args.program));
}

pub returns : goal.returns
returns c =
    plain-view (setup_in c.in_ok-parts.parts.runtime c.in_ok-originals.originals) (record { moves = false; delivered = false; passed = 0 }) false false 0 (state_of c.new-4.result c.in_ok-parts.parts)
    (λ whole. tidy-current c.in_ok-originals.originals.versions (state_of c.new-4.result c.in_ok-parts.parts).stack
    (subst AreAllCurrent (sym (c.in_ok-originals.ensures.versions ∙ ap original_versions (c.in_ok-shared.ensures.ok ∙ c.in_ok-index.ensures))) (original-current c.args.program)))
    ∙ fresh-seen (setup_in c.in_ok-parts.parts.runtime c.in_ok-originals.originals) (state_of c.new-4.result c.in_ok-parts.parts)
    (c.in_ok-originals.ensures.set_up c.in_ok-parts.parts.runtime.world (ap (λ (w : World). w.program) c.in_ok-parts.ensures.world ∙ c.in_ok-originals.ensures.program)
    (subst IsFit (sym (c.in_ok-shared.ensures.ok ∙ c.in_ok-index.ensures)) c.requires.fit) (subst HasClosedCodes (sym (c.in_ok-shared.ensures.ok ∙ c.in_ok-index.ensures)) c.requires.closed))
    (record {
      before = plain-state c.new-4.result c.in_ok-parts.parts c.new-4.ensures ∙ (c.in_ok-parts.ensures.state ∙ ap before (sym c.in_ok-parts.ensures.world));
      room = subst (λ (w : World). 1024 ≤ w.program.heap) (sym c.in_ok-parts.ensures.world) (subst (λ (p : Program). 1024 ≤ p.heap) (sym (c.in_ok-originals.ensures.program ∙ (c.in_ok-shared.ensures.ok ∙ c.in_ok-index.ensures))) c.requires.starts.room);
    })
    c.args.program c.args.input.items (ap (λ (w : World). w.program) c.in_ok-parts.ensures.world ∙ (c.in_ok-originals.ensures.program ∙ (c.in_ok-shared.ensures.ok ∙ c.in_ok-index.ensures)))
    (ap (λ (w : World). w.input) c.in_ok-parts.ensures.world ∙ c.from_vec.ensures) (c.in_ok-originals.ensures.versions ∙ ap original_versions (c.in_ok-shared.ensures.ok ∙ c.in_ok-index.ensures))
