use Rattle.std.proofs.Common.{◌≡◌, true, false, drop, length, refl, sym, ap, ap₂, subst, ◌∙◌}
use Rattle.class_linker.specs.Linkers.{LinkerView}
use Rattle.jvm_model.specs.declared.state.State.{State}
use Rattle.prepared_code.specs.Initializations.{state_of}
use Rattle.activations.specs.Turning.{loads_in}
use Rattle.prepared_code.specs.Versions.{Setup}
use Rattle.prepared_code.specs.Tables.{Releases, Versions}
use Rattle.prepared_code.proofs.Tables.StandingSteps.{parts-pinned}
use Rattle.prepared_code.specs.Originals.{setup_in}
use Rattle.jvm_machine.proofs.States.KeptOn.{same-program, same-setup}
use Rattle.jvm_machine.specs.declared.advancing.Telling.TheVariants as telling
use Rattle.jvm_machine.specs.Advances.{Stops, TellsClasses}
use Rattle.jvm_machine.specs.Machine.{IsMachine, state_seen}
use Rattle.jvm_machine.specs.Probes.{IfLeaves}
use Rattle.jvm_machine.specs.View.{View}
use Rattle.jvm_machine.proofs.Probes.BeforeReturns.{leaves-by, some-left}
use Rattle.jvm_machine.proofs.Steps.Exits.{broken-machine, broken-seen, can-run, goes-there, is-attempted, on-err, one_passed, tells-start, tells-step}
use Rattle.jvm_machine.proofs.Versions.HeldVersions.{as-viewed, seen-is, tidy-loaded, tidy-released, tidy-seen, tidy-taken, unless-some}
use Rattle.jvm_machine.proofs.machine.Vm.advance.Goals as goal

pub take_up-requires-clause-at_start : goal.take_up-requires-clause-at_start
take_up-requires-clause-at_start c = λ before_the_run resting. (c.self.invariant.machine.whole (ap (λ (v : View). v.broken) (seen-is c.self.invariant c.self.view_is) ∙ c.requires.whole)).first before_the_run

pub take_up-requires-clause-known : goal.take_up-requires-clause-known
take_up-requires-clause-known c = c.self.invariant.known (ap (λ (v : View). v.broken) (seen-is c.self.invariant c.self.view_is) ∙ c.requires.whole)

pub take_up-requires-clause-fit : goal.take_up-requires-clause-fit
take_up-requires-clause-fit c = c.self.invariant.machine.has.fit

pub invariant_of-self : goal.invariant_of-self
invariant_of-self c = record {
  machine = broken-machine (setup_in c.self.inside.parts.runtime c.self.inside.originals) c.self.inside.hand c.self.inside.started c.self.inside.broken c.self.inside.clock (state_of c.self.inside.initializing c.self.inside.parts)
      (ap (λ (v : View). v.broken) (seen-is c.self.invariant c.self.view_is) ∙ c.requires.whole) c.self.invariant.machine c.args.self.now (seen-is c.self.invariant c.self.view_is) c.is_resting-resting.result c.is_resting-resting.ensures
      c.clock_in-self-inside.result c.clock_in-self-inside.ensures (setup_in c.take_up.new.parts.runtime c.take_up.new.originals) (same-setup c.self.inside.parts.runtime c.take_up.new.parts.runtime c.self.inside.originals c.take_up.new.originals c.take_up.ensures.world c.take_up.ensures.versions) c.self.inside.hand (state_of c.take_up.new.initializing c.take_up.new.parts);
  program = same-program c.self.inside.parts.runtime c.take_up.new.parts.runtime c.self.inside.originals c.take_up.new.originals c.take_up.ensures.world c.take_up.ensures.program c.self.invariant.program;
  known = λ whole. absurd (let e : true ≡ false = whole in cc);
  tidy = λ whole. absurd (let e : true ≡ false = whole in cc);
}

pub returns-in_err-taken-clause-err : goal.returns-in_err-taken-clause-err
returns-in_err-taken-clause-err c =
    on-err _ c.from_residual.result
    (broken-seen (setup_in c.self.inside.parts.runtime c.self.inside.originals) c.self.inside.hand c.self.inside.started c.self.inside.broken c.self.inside.clock (state_of c.self.inside.initializing c.self.inside.parts)
    (ap (λ (v : View). v.broken) (seen-is c.self.invariant c.self.view_is) ∙ c.requires.whole) c.self.invariant.machine c.args.self.now (seen-is c.self.invariant c.self.view_is) c.is_resting-resting.result c.is_resting-resting.ensures
    c.clock_in-self-inside.result c.clock_in-self-inside.ensures (setup_in c.take_up.new.parts.runtime c.take_up.new.originals) (same-setup c.self.inside.parts.runtime c.take_up.new.parts.runtime c.self.inside.originals c.take_up.new.originals c.take_up.ensures.world c.take_up.ensures.versions) c.self.inside.hand (state_of c.take_up.new.initializing c.take_up.new.parts))

pub invariant_of-self-then-not-is_empty : goal.invariant_of-self-then-not-is_empty
invariant_of-self-then-not-is_empty c = record {
  machine = (tells-start (setup_in c.self.inside.parts.runtime c.self.inside.originals) c.self.inside.hand c.self.inside.started c.self.inside.broken c.self.inside.clock (state_of c.self.inside.initializing c.self.inside.parts)
      (ap (λ (v : View). v.broken) (seen-is c.self.invariant c.self.view_is) ∙ c.requires.whole) c.self.invariant.machine c.args.self.now (seen-is c.self.invariant c.self.view_is) c.is_resting-resting.result c.is_resting-resting.ensures
      c.clock_in-self-inside.result c.clock_in-self-inside.ensures
      (setup_in c.take_up.new.parts.runtime c.take_up.new.originals) (same-setup c.self.inside.parts.runtime c.take_up.new.parts.runtime c.self.inside.originals c.take_up.new.originals c.take_up.ensures.world c.take_up.ensures.versions) c.in_ok-taken.taken.loads c.in_ok-taken.ensures.loads c.in_ok-taken.taken.hand c.in_ok-taken.ensures.hand
      (state_of c.take_up.new.initializing c.take_up.new.parts) c.in_ok-taken.ensures.state (sym c.if-not-is_empty.ensures)).1;
  program = same-program c.self.inside.parts.runtime c.take_up.new.parts.runtime c.self.inside.originals c.take_up.new.originals c.take_up.ensures.world c.take_up.ensures.program c.self.invariant.program;
  known = λ whole. c.in_ok-taken.ensures.known;
  tidy = λ whole. tidy-taken (setup_in c.self.inside.parts.runtime c.self.inside.originals) (setup_in c.take_up.new.parts.runtime c.take_up.new.originals) c.is_resting-resting.result c.self.inside.started
      (state_of c.self.inside.initializing c.self.inside.parts) (state_of c.take_up.new.initializing c.take_up.new.parts) (same-setup c.self.inside.parts.runtime c.take_up.new.parts.runtime c.self.inside.originals c.take_up.new.originals c.take_up.ensures.world c.take_up.ensures.versions) c.in_ok-taken.ensures.state
      (λ before_the_run. ap (λ (z : State). z.stack) ((c.self.invariant.machine.whole (ap (λ (v : View). v.broken) c.self.view_is ∙ c.requires.whole)).first before_the_run).before) (c.self.invariant.tidy (ap (λ (v : View). v.broken) c.self.view_is ∙ c.requires.whole));
}

pub returns-then-not-is_empty-clause-ok : goal.returns-then-not-is_empty-clause-ok
returns-then-not-is_empty-clause-ok c =
    as-viewed (setup_in c.take_up.new.parts.runtime c.take_up.new.originals) c.in_ok-taken.taken.hand c.clock_in-self-inside.result (state_of c.take_up.new.initializing c.take_up.new.parts)
    (TellsClasses c.args.self.now c.in_ok-taken.taken.loads)
    (tidy-taken (setup_in c.self.inside.parts.runtime c.self.inside.originals) (setup_in c.take_up.new.parts.runtime c.take_up.new.originals) c.is_resting-resting.result c.self.inside.started
    (state_of c.self.inside.initializing c.self.inside.parts) (state_of c.take_up.new.initializing c.take_up.new.parts) (same-setup c.self.inside.parts.runtime c.take_up.new.parts.runtime c.self.inside.originals c.take_up.new.originals c.take_up.ensures.world c.take_up.ensures.versions) c.in_ok-taken.ensures.state
    (λ before_the_run. ap (λ (z : State). z.stack) ((c.self.invariant.machine.whole (ap (λ (v : View). v.broken) c.self.view_is ∙ c.requires.whole)).first before_the_run).before) (c.self.invariant.tidy (ap (λ (v : View). v.broken) c.self.view_is ∙ c.requires.whole)))
    ((tells-start (setup_in c.self.inside.parts.runtime c.self.inside.originals) c.self.inside.hand c.self.inside.started c.self.inside.broken c.self.inside.clock (state_of c.self.inside.initializing c.self.inside.parts)
    (ap (λ (v : View). v.broken) (seen-is c.self.invariant c.self.view_is) ∙ c.requires.whole) c.self.invariant.machine c.args.self.now (seen-is c.self.invariant c.self.view_is) c.is_resting-resting.result c.is_resting-resting.ensures
    c.clock_in-self-inside.result c.clock_in-self-inside.ensures
    (setup_in c.take_up.new.parts.runtime c.take_up.new.originals) (same-setup c.self.inside.parts.runtime c.take_up.new.parts.runtime c.self.inside.originals c.take_up.new.originals c.take_up.ensures.world c.take_up.ensures.versions) c.in_ok-taken.taken.loads c.in_ok-taken.ensures.loads c.in_ok-taken.taken.hand c.in_ok-taken.ensures.hand
    (state_of c.take_up.new.initializing c.take_up.new.parts) c.in_ok-taken.ensures.state (sym c.if-not-is_empty.ensures)).0)

pub go-requires-clause-fit : goal.go-requires-clause-fit
go-requires-clause-fit c = can-run (setup_in c.self.inside.parts.runtime c.self.inside.originals) c.self.inside.hand c.self.inside.started c.self.inside.broken c.self.inside.clock (state_of c.self.inside.initializing c.self.inside.parts)
    (ap (λ (v : View). v.broken) (seen-is c.self.invariant c.self.view_is) ∙ c.requires.whole) c.self.invariant.machine c.args.self.now (seen-is c.self.invariant c.self.view_is) c.is_resting-resting.result c.is_resting-resting.ensures
    c.clock_in-self-inside.result c.clock_in-self-inside.ensures
    (setup_in c.take_up.new.parts.runtime c.take_up.new.originals) (same-setup c.self.inside.parts.runtime c.take_up.new.parts.runtime c.self.inside.originals c.take_up.new.originals c.take_up.ensures.world c.take_up.ensures.versions) c.in_ok-taken.taken.loads c.in_ok-taken.ensures.loads c.in_ok-taken.taken.hand c.in_ok-taken.ensures.hand
    (state_of c.take_up.new.initializing c.take_up.new.parts) c.in_ok-taken.ensures.state

pub go-requires-clause-sound : goal.go-requires-clause-sound
go-requires-clause-sound c = is-attempted (setup_in c.self.inside.parts.runtime c.self.inside.originals) c.self.inside.hand c.self.inside.started c.self.inside.broken c.self.inside.clock (state_of c.self.inside.initializing c.self.inside.parts)
    (ap (λ (v : View). v.broken) (seen-is c.self.invariant c.self.view_is) ∙ c.requires.whole) c.self.invariant.machine c.args.self.now (seen-is c.self.invariant c.self.view_is) c.is_resting-resting.result c.is_resting-resting.ensures
    c.clock_in-self-inside.result c.clock_in-self-inside.ensures
    (setup_in c.take_up.new.parts.runtime c.take_up.new.originals) (same-setup c.self.inside.parts.runtime c.take_up.new.parts.runtime c.self.inside.originals c.take_up.new.originals c.take_up.ensures.world c.take_up.ensures.versions) c.in_ok-taken.taken.loads c.in_ok-taken.ensures.loads c.in_ok-taken.taken.hand c.in_ok-taken.ensures.hand
    (state_of c.take_up.new.initializing c.take_up.new.parts) c.in_ok-taken.ensures.state

pub invariant_of-self-in_err-gone : goal.invariant_of-self-in_err-gone
invariant_of-self-in_err-gone c = record {
  machine = broken-machine (setup_in c.self.inside.parts.runtime c.self.inside.originals) c.self.inside.hand c.self.inside.started c.self.inside.broken c.self.inside.clock (state_of c.self.inside.initializing c.self.inside.parts)
      (ap (λ (v : View). v.broken) (seen-is c.self.invariant c.self.view_is) ∙ c.requires.whole) c.self.invariant.machine c.args.self.now (seen-is c.self.invariant c.self.view_is) c.is_resting-resting.result c.is_resting-resting.ensures
      c.clock_in-self-inside.result c.clock_in-self-inside.ensures (setup_in c.go.new.parts.runtime c.go.new.originals) ((same-setup c.take_up.new.parts.runtime c.go.new.parts.runtime c.take_up.new.originals c.go.new.originals c.go.ensures.world c.go.ensures.versions) ∙ (same-setup c.self.inside.parts.runtime c.take_up.new.parts.runtime c.self.inside.originals c.take_up.new.originals c.take_up.ensures.world c.take_up.ensures.versions)) c.in_ok-taken.taken.hand (state_of c.go.new.initializing c.go.new.parts);
  program = same-program c.take_up.new.parts.runtime c.go.new.parts.runtime c.take_up.new.originals c.go.new.originals c.go.ensures.world c.go.ensures.program
      (same-program c.self.inside.parts.runtime c.take_up.new.parts.runtime c.self.inside.originals c.take_up.new.originals c.take_up.ensures.world c.take_up.ensures.program c.self.invariant.program);
  known = λ whole. absurd (let e : true ≡ false = whole in cc);
  tidy = λ whole. absurd (let e : true ≡ false = whole in cc);
}

pub returns-in_err-gone-clause-err : goal.returns-in_err-gone-clause-err
returns-in_err-gone-clause-err c =
    on-err _ c.from_residual-in_err-gone.result
    (broken-seen (setup_in c.self.inside.parts.runtime c.self.inside.originals) c.self.inside.hand c.self.inside.started c.self.inside.broken c.self.inside.clock (state_of c.self.inside.initializing c.self.inside.parts)
    (ap (λ (v : View). v.broken) (seen-is c.self.invariant c.self.view_is) ∙ c.requires.whole) c.self.invariant.machine c.args.self.now (seen-is c.self.invariant c.self.view_is) c.is_resting-resting.result c.is_resting-resting.ensures
    c.clock_in-self-inside.result c.clock_in-self-inside.ensures (setup_in c.go.new.parts.runtime c.go.new.originals) ((same-setup c.take_up.new.parts.runtime c.go.new.parts.runtime c.take_up.new.originals c.go.new.originals c.go.ensures.world c.go.ensures.versions) ∙ (same-setup c.self.inside.parts.runtime c.take_up.new.parts.runtime c.self.inside.originals c.take_up.new.originals c.take_up.ensures.world c.take_up.ensures.versions)) c.in_ok-taken.taken.hand (state_of c.go.new.initializing c.go.new.parts))

pub invariant_of-self-in_err-classes : goal.invariant_of-self-in_err-classes
invariant_of-self-in_err-classes c = record {
  machine = broken-machine (setup_in c.self.inside.parts.runtime c.self.inside.originals) c.self.inside.hand c.self.inside.started c.self.inside.broken c.self.inside.clock (state_of c.self.inside.initializing c.self.inside.parts)
      (ap (λ (v : View). v.broken) (seen-is c.self.invariant c.self.view_is) ∙ c.requires.whole) c.self.invariant.machine c.args.self.now (seen-is c.self.invariant c.self.view_is) c.is_resting-resting.result c.is_resting-resting.ensures
      c.clock_in-self-inside.result c.clock_in-self-inside.ensures (setup_in c.go.new.parts.runtime c.go.new.originals) ((same-setup c.take_up.new.parts.runtime c.go.new.parts.runtime c.take_up.new.originals c.go.new.originals c.go.ensures.world c.go.ensures.versions) ∙ (same-setup c.self.inside.parts.runtime c.take_up.new.parts.runtime c.self.inside.originals c.take_up.new.originals c.take_up.ensures.world c.take_up.ensures.versions)) c.in_ok-taken.taken.hand (state_of c.go.new.initializing c.go.new.parts);
  program = same-program c.take_up.new.parts.runtime c.go.new.parts.runtime c.take_up.new.originals c.go.new.originals c.go.ensures.world c.go.ensures.program
      (same-program c.self.inside.parts.runtime c.take_up.new.parts.runtime c.self.inside.originals c.take_up.new.originals c.take_up.ensures.world c.take_up.ensures.program c.self.invariant.program);
  known = λ whole. absurd (let e : true ≡ false = whole in cc);
  tidy = λ whole. absurd (let e : true ≡ false = whole in cc);
}

pub returns-in_err-classes-clause-err : goal.returns-in_err-classes-clause-err
returns-in_err-classes-clause-err c =
    on-err _ c.from_residual-in_err-classes.result
    (broken-seen (setup_in c.self.inside.parts.runtime c.self.inside.originals) c.self.inside.hand c.self.inside.started c.self.inside.broken c.self.inside.clock (state_of c.self.inside.initializing c.self.inside.parts)
    (ap (λ (v : View). v.broken) (seen-is c.self.invariant c.self.view_is) ∙ c.requires.whole) c.self.invariant.machine c.args.self.now (seen-is c.self.invariant c.self.view_is) c.is_resting-resting.result c.is_resting-resting.ensures
    c.clock_in-self-inside.result c.clock_in-self-inside.ensures (setup_in c.go.new.parts.runtime c.go.new.originals) ((same-setup c.take_up.new.parts.runtime c.go.new.parts.runtime c.take_up.new.originals c.go.new.originals c.go.ensures.world c.go.ensures.versions) ∙ (same-setup c.self.inside.parts.runtime c.take_up.new.parts.runtime c.self.inside.originals c.take_up.new.originals c.take_up.ensures.world c.take_up.ensures.versions)) c.in_ok-taken.taken.hand (state_of c.go.new.initializing c.go.new.parts))

pub invariant_of-self-in_default : goal.invariant_of-self-in_default
invariant_of-self-in_default c = record {
  machine = subst (λ (x : Setup). IsMachine x (one_passed c.in_ok-taken.taken.hand)
      (state_seen x (state_of c.go.new.initializing c.go.new.parts) true false c.clock_in-self-inside.result (one_passed c.in_ok-taken.taken.hand)) (state_of c.go.new.initializing c.go.new.parts))
      (sym (same-setup c.take_up.new.parts.runtime c.go.new.parts.runtime c.take_up.new.originals c.go.new.originals c.go.ensures.world c.go.ensures.versions))
      (tells-step (setup_in c.self.inside.parts.runtime c.self.inside.originals) c.self.inside.hand c.self.inside.started c.self.inside.broken c.self.inside.clock (state_of c.self.inside.initializing c.self.inside.parts)
      (ap (λ (v : View). v.broken) (seen-is c.self.invariant c.self.view_is) ∙ c.requires.whole) c.self.invariant.machine c.args.self.now (seen-is c.self.invariant c.self.view_is) c.is_resting-resting.result c.is_resting-resting.ensures
      c.clock_in-self-inside.result c.clock_in-self-inside.ensures
      (setup_in c.take_up.new.parts.runtime c.take_up.new.originals) (same-setup c.self.inside.parts.runtime c.take_up.new.parts.runtime c.self.inside.originals c.take_up.new.originals c.take_up.ensures.world c.take_up.ensures.versions) c.in_ok-taken.taken.loads c.in_ok-taken.ensures.loads c.in_ok-taken.taken.hand c.in_ok-taken.ensures.hand
      (state_of c.take_up.new.initializing c.take_up.new.parts) c.in_ok-taken.ensures.state
      c.in_ok-gone.gone c.in_default.not-Some c.in_ok-gone.ensures.some (state_of c.go.new.initializing c.go.new.parts) c.in_ok-gone.ensures.loads c.in_ok-gone.ensures.sound).1;
  program = same-program c.take_up.new.parts.runtime c.go.new.parts.runtime c.take_up.new.originals c.go.new.originals c.go.ensures.world c.go.ensures.program
      (same-program c.self.inside.parts.runtime c.take_up.new.parts.runtime c.self.inside.originals c.take_up.new.originals c.take_up.ensures.world c.take_up.ensures.program c.self.invariant.program);
  known = λ whole. c.in_ok-gone.ensures.known;
  tidy = λ whole. tidy-loaded (setup_in c.take_up.new.parts.runtime c.take_up.new.originals) (setup_in c.go.new.parts.runtime c.go.new.originals) (loads_in (setup_in c.take_up.new.parts.runtime c.take_up.new.originals) (state_of c.take_up.new.initializing c.take_up.new.parts)) (state_of c.take_up.new.initializing c.take_up.new.parts) (state_of c.go.new.initializing c.go.new.parts) (same-setup c.take_up.new.parts.runtime c.go.new.parts.runtime c.take_up.new.originals c.go.new.originals c.go.ensures.world c.go.ensures.versions)
      (unless-some c.in_ok-gone.gone c.in_default.not-Some _ c.in_ok-gone.ensures.loads)
      (tidy-taken (setup_in c.self.inside.parts.runtime c.self.inside.originals) (setup_in c.take_up.new.parts.runtime c.take_up.new.originals) c.is_resting-resting.result c.self.inside.started
      (state_of c.self.inside.initializing c.self.inside.parts) (state_of c.take_up.new.initializing c.take_up.new.parts) (same-setup c.self.inside.parts.runtime c.take_up.new.parts.runtime c.self.inside.originals c.take_up.new.originals c.take_up.ensures.world c.take_up.ensures.versions) c.in_ok-taken.ensures.state
      (λ before_the_run. ap (λ (z : State). z.stack) ((c.self.invariant.machine.whole (ap (λ (v : View). v.broken) c.self.view_is ∙ c.requires.whole)).first before_the_run).before) (c.self.invariant.tidy (ap (λ (v : View). v.broken) c.self.view_is ∙ c.requires.whole)));
}

pub returns-in_default-clause-ok : goal.returns-in_default-clause-ok
returns-in_default-clause-ok c =
    as-viewed (setup_in c.go.new.parts.runtime c.go.new.originals) (one_passed c.in_ok-taken.taken.hand) c.clock_in-self-inside.result (state_of c.go.new.initializing c.go.new.parts)
    (TellsClasses c.args.self.now c.in_ok-classes.classes)
    (tidy-loaded (setup_in c.take_up.new.parts.runtime c.take_up.new.originals) (setup_in c.go.new.parts.runtime c.go.new.originals) (loads_in (setup_in c.take_up.new.parts.runtime c.take_up.new.originals) (state_of c.take_up.new.initializing c.take_up.new.parts)) (state_of c.take_up.new.initializing c.take_up.new.parts) (state_of c.go.new.initializing c.go.new.parts) (same-setup c.take_up.new.parts.runtime c.go.new.parts.runtime c.take_up.new.originals c.go.new.originals c.go.ensures.world c.go.ensures.versions)
    (unless-some c.in_ok-gone.gone c.in_default.not-Some _ c.in_ok-gone.ensures.loads)
    (tidy-taken (setup_in c.self.inside.parts.runtime c.self.inside.originals) (setup_in c.take_up.new.parts.runtime c.take_up.new.originals) c.is_resting-resting.result c.self.inside.started
    (state_of c.self.inside.initializing c.self.inside.parts) (state_of c.take_up.new.initializing c.take_up.new.parts) (same-setup c.self.inside.parts.runtime c.take_up.new.parts.runtime c.self.inside.originals c.take_up.new.originals c.take_up.ensures.world c.take_up.ensures.versions) c.in_ok-taken.ensures.state
    (λ before_the_run. ap (λ (z : State). z.stack) ((c.self.invariant.machine.whole (ap (λ (v : View). v.broken) c.self.view_is ∙ c.requires.whole)).first before_the_run).before) (c.self.invariant.tidy (ap (λ (v : View). v.broken) c.self.view_is ∙ c.requires.whole))))
    (subst (λ (x : Setup). TellsClasses c.args.self.now c.in_ok-classes.classes (state_seen x (state_of c.go.new.initializing c.go.new.parts) true false c.clock_in-self-inside.result (one_passed c.in_ok-taken.taken.hand)))
    (sym (same-setup c.take_up.new.parts.runtime c.go.new.parts.runtime c.take_up.new.originals c.go.new.originals c.go.ensures.world c.go.ensures.versions))
    (subst (λ l. TellsClasses c.args.self.now l
    (state_seen (setup_in c.take_up.new.parts.runtime c.take_up.new.originals) (state_of c.go.new.initializing c.go.new.parts) true false c.clock_in-self-inside.result (one_passed c.in_ok-taken.taken.hand)))
    (sym (c.in_ok-classes.ensures ∙ ap₂ drop (ap length (c.loaded-count.ensures ∙ ap (λ (l : LinkerView). l.loaded) c.linker.ensures)) (ap (λ (l : LinkerView). l.loaded) c.linker-in_default.ensures)))
    (tells-step (setup_in c.self.inside.parts.runtime c.self.inside.originals) c.self.inside.hand c.self.inside.started c.self.inside.broken c.self.inside.clock (state_of c.self.inside.initializing c.self.inside.parts)
    (ap (λ (v : View). v.broken) (seen-is c.self.invariant c.self.view_is) ∙ c.requires.whole) c.self.invariant.machine c.args.self.now (seen-is c.self.invariant c.self.view_is) c.is_resting-resting.result c.is_resting-resting.ensures
    c.clock_in-self-inside.result c.clock_in-self-inside.ensures
    (setup_in c.take_up.new.parts.runtime c.take_up.new.originals) (same-setup c.self.inside.parts.runtime c.take_up.new.parts.runtime c.self.inside.originals c.take_up.new.originals c.take_up.ensures.world c.take_up.ensures.versions) c.in_ok-taken.taken.loads c.in_ok-taken.ensures.loads c.in_ok-taken.taken.hand c.in_ok-taken.ensures.hand
    (state_of c.take_up.new.initializing c.take_up.new.parts) c.in_ok-taken.ensures.state
    c.in_ok-gone.gone c.in_default.not-Some c.in_ok-gone.ensures.some (state_of c.go.new.initializing c.go.new.parts) c.in_ok-gone.ensures.loads c.in_ok-gone.ensures.sound).0))

pub invariant_of-self-2 : goal.invariant_of-self-2
invariant_of-self-2 c = record {
  machine = (goes-there (setup_in c.self.inside.parts.runtime c.self.inside.originals) c.self.inside.hand c.self.inside.started c.self.inside.broken c.self.inside.clock (state_of c.self.inside.initializing c.self.inside.parts)
      (ap (λ (v : View). v.broken) (seen-is c.self.invariant c.self.view_is) ∙ c.requires.whole) c.self.invariant.machine c.args.self.now (seen-is c.self.invariant c.self.view_is) c.is_resting-resting.result c.is_resting-resting.ensures
      c.clock_in-self-inside.result c.clock_in-self-inside.ensures
      (setup_in c.take_up.new.parts.runtime c.take_up.new.originals) (same-setup c.self.inside.parts.runtime c.take_up.new.parts.runtime c.self.inside.originals c.take_up.new.originals c.take_up.ensures.world c.take_up.ensures.versions) c.in_ok-taken.taken.loads c.in_ok-taken.ensures.loads c.in_ok-taken.taken.hand c.in_ok-taken.ensures.hand
      (state_of c.take_up.new.initializing c.take_up.new.parts) c.in_ok-taken.ensures.state
      (sym c.if-not-is_empty.ensures) c.in_ok-gone.gone c.in-Some.gone c.in-Some.is c.in_ok-gone.ensures.some (state_of c.go.new.initializing c.go.new.parts)
      c.in_ok-gone.ensures.left c.in_ok-gone.ensures.sound c.in_ok-gone.ensures.starts c.in_ok-gone.ensures.hands
      c.go.new.parts.frames.frames (parts-pinned c.go.new.initializing c.go.new.parts) (setup_in c.go.new.parts.runtime c.release.new.self) c.go.ensures.world
      (subst (λ (x : Versions). Releases c.go.new.parts.frames.frames x c.release.new.self.versions) c.go.ensures.versions c.release.ensures.released) c.hand_left-self-inside.result c.hand_left-self-inside.ensures).1;
  program = same-program c.go.new.parts.runtime c.go.new.parts.runtime c.go.new.originals c.release.new.self refl c.release.ensures.program
      (same-program c.take_up.new.parts.runtime c.go.new.parts.runtime c.take_up.new.originals c.go.new.originals c.go.ensures.world c.go.ensures.program
      (same-program c.self.inside.parts.runtime c.take_up.new.parts.runtime c.self.inside.originals c.take_up.new.originals c.take_up.ensures.world c.take_up.ensures.program c.self.invariant.program));
  known = λ whole. c.release.ensures.known c.go.new.parts.runtime c.in_ok-gone.ensures.known;
  tidy = λ whole. tidy-released c.go.new.initializing c.go.new.parts c.go.new.originals.versions c.release.new.self.versions c.release.ensures.released;
}

pub returns-clause-ok : goal.returns-clause-ok
returns-clause-ok c =
    as-viewed (setup_in c.go.new.parts.runtime c.release.new.self) c.hand_left-self-inside.result c.clock_in-self-inside.result (state_of c.go.new.initializing c.go.new.parts)
    (Stops c.args.self.now c.in-Some.gone.due)
    (tidy-released c.go.new.initializing c.go.new.parts c.go.new.originals.versions c.release.new.self.versions c.release.ensures.released)
    ((goes-there (setup_in c.self.inside.parts.runtime c.self.inside.originals) c.self.inside.hand c.self.inside.started c.self.inside.broken c.self.inside.clock (state_of c.self.inside.initializing c.self.inside.parts)
    (ap (λ (v : View). v.broken) (seen-is c.self.invariant c.self.view_is) ∙ c.requires.whole) c.self.invariant.machine c.args.self.now (seen-is c.self.invariant c.self.view_is) c.is_resting-resting.result c.is_resting-resting.ensures
    c.clock_in-self-inside.result c.clock_in-self-inside.ensures
    (setup_in c.take_up.new.parts.runtime c.take_up.new.originals) (same-setup c.self.inside.parts.runtime c.take_up.new.parts.runtime c.self.inside.originals c.take_up.new.originals c.take_up.ensures.world c.take_up.ensures.versions) c.in_ok-taken.taken.loads c.in_ok-taken.ensures.loads c.in_ok-taken.taken.hand c.in_ok-taken.ensures.hand
    (state_of c.take_up.new.initializing c.take_up.new.parts) c.in_ok-taken.ensures.state
    (sym c.if-not-is_empty.ensures) c.in_ok-gone.gone c.in-Some.gone c.in-Some.is c.in_ok-gone.ensures.some (state_of c.go.new.initializing c.go.new.parts)
    c.in_ok-gone.ensures.left c.in_ok-gone.ensures.sound c.in_ok-gone.ensures.starts c.in_ok-gone.ensures.hands
    c.go.new.parts.frames.frames (parts-pinned c.go.new.initializing c.go.new.parts) (setup_in c.go.new.parts.runtime c.release.new.self) c.go.ensures.world
    (subst (λ (x : Versions). Releases c.go.new.parts.frames.frames x c.release.new.self.versions) c.go.ensures.versions c.release.ensures.released) c.hand_left-self-inside.result c.hand_left-self-inside.ensures).0)

pub returns-clause-leaves : goal.returns-clause-leaves
returns-clause-leaves c =
    as-viewed (setup_in c.go.new.parts.runtime c.release.new.self) c.hand_left-self-inside.result c.clock_in-self-inside.result (state_of c.go.new.initializing c.go.new.parts)
    (IfLeaves (telling.Due c.in-Some.gone.due))
    (tidy-released c.go.new.initializing c.go.new.parts c.go.new.originals.versions c.release.new.self.versions c.release.ensures.released)
    (leaves-by (setup_in c.go.new.parts.runtime c.release.new.self) c.hand_left-self-inside.result c.clock_in-self-inside.result (state_of c.go.new.initializing c.go.new.parts) c.in-Some.gone c.hand_left-self-inside.ensures
    (some-left c.in_ok-gone.gone c.in-Some.gone c.in-Some.is c.in_ok-gone.ensures.left)
    (goes-there (setup_in c.self.inside.parts.runtime c.self.inside.originals) c.self.inside.hand c.self.inside.started c.self.inside.broken c.self.inside.clock (state_of c.self.inside.initializing c.self.inside.parts)
    (ap (λ (v : View). v.broken) (seen-is c.self.invariant c.self.view_is) ∙ c.requires.whole) c.self.invariant.machine c.args.self.now (seen-is c.self.invariant c.self.view_is) c.is_resting-resting.result c.is_resting-resting.ensures
    c.clock_in-self-inside.result c.clock_in-self-inside.ensures
    (setup_in c.take_up.new.parts.runtime c.take_up.new.originals) (same-setup c.self.inside.parts.runtime c.take_up.new.parts.runtime c.self.inside.originals c.take_up.new.originals c.take_up.ensures.world c.take_up.ensures.versions) c.in_ok-taken.taken.loads c.in_ok-taken.ensures.loads c.in_ok-taken.taken.hand c.in_ok-taken.ensures.hand
    (state_of c.take_up.new.initializing c.take_up.new.parts) c.in_ok-taken.ensures.state
    (sym c.if-not-is_empty.ensures) c.in_ok-gone.gone c.in-Some.gone c.in-Some.is c.in_ok-gone.ensures.some (state_of c.go.new.initializing c.go.new.parts)
    c.in_ok-gone.ensures.left c.in_ok-gone.ensures.sound c.in_ok-gone.ensures.starts c.in_ok-gone.ensures.hands
    c.go.new.parts.frames.frames (parts-pinned c.go.new.initializing c.go.new.parts) (setup_in c.go.new.parts.runtime c.release.new.self) c.go.ensures.world
    (subst (λ (x : Versions). Releases c.go.new.parts.frames.frames x c.release.new.self.versions) c.go.ensures.versions c.release.ensures.released) c.hand_left-self-inside.result c.hand_left-self-inside.ensures).1)

pub returns-then-not-is_empty-clause-held : goal.returns-then-not-is_empty-clause-held
returns-then-not-is_empty-clause-held c =
    tidy-seen c.take_up.new.originals.versions (state_of c.take_up.new.initializing c.take_up.new.parts).stack
    (tidy-taken (setup_in c.self.inside.parts.runtime c.self.inside.originals) (setup_in c.take_up.new.parts.runtime c.take_up.new.originals) c.is_resting-resting.result c.self.inside.started
    (state_of c.self.inside.initializing c.self.inside.parts) (state_of c.take_up.new.initializing c.take_up.new.parts) (same-setup c.self.inside.parts.runtime c.take_up.new.parts.runtime c.self.inside.originals c.take_up.new.originals c.take_up.ensures.world c.take_up.ensures.versions) c.in_ok-taken.ensures.state
    (λ before_the_run. ap (λ (z : State). z.stack) ((c.self.invariant.machine.whole (ap (λ (v : View). v.broken) c.self.view_is ∙ c.requires.whole)).first before_the_run).before) (c.self.invariant.tidy (ap (λ (v : View). v.broken) c.self.view_is ∙ c.requires.whole)))

pub returns-in_default-clause-held : goal.returns-in_default-clause-held
returns-in_default-clause-held c =
    tidy-seen c.go.new.originals.versions (state_of c.go.new.initializing c.go.new.parts).stack
    (tidy-loaded (setup_in c.take_up.new.parts.runtime c.take_up.new.originals) (setup_in c.go.new.parts.runtime c.go.new.originals) (loads_in (setup_in c.take_up.new.parts.runtime c.take_up.new.originals) (state_of c.take_up.new.initializing c.take_up.new.parts)) (state_of c.take_up.new.initializing c.take_up.new.parts) (state_of c.go.new.initializing c.go.new.parts) (same-setup c.take_up.new.parts.runtime c.go.new.parts.runtime c.take_up.new.originals c.go.new.originals c.go.ensures.world c.go.ensures.versions)
    (unless-some c.in_ok-gone.gone c.in_default.not-Some _ c.in_ok-gone.ensures.loads)
    (tidy-taken (setup_in c.self.inside.parts.runtime c.self.inside.originals) (setup_in c.take_up.new.parts.runtime c.take_up.new.originals) c.is_resting-resting.result c.self.inside.started
    (state_of c.self.inside.initializing c.self.inside.parts) (state_of c.take_up.new.initializing c.take_up.new.parts) (same-setup c.self.inside.parts.runtime c.take_up.new.parts.runtime c.self.inside.originals c.take_up.new.originals c.take_up.ensures.world c.take_up.ensures.versions) c.in_ok-taken.ensures.state
    (λ before_the_run. ap (λ (z : State). z.stack) ((c.self.invariant.machine.whole (ap (λ (v : View). v.broken) c.self.view_is ∙ c.requires.whole)).first before_the_run).before) (c.self.invariant.tidy (ap (λ (v : View). v.broken) c.self.view_is ∙ c.requires.whole))))

pub returns-clause-held : goal.returns-clause-held
returns-clause-held c =
    tidy-seen c.release.new.self.versions (state_of c.go.new.initializing c.go.new.parts).stack
    (tidy-released c.go.new.initializing c.go.new.parts c.go.new.originals.versions c.release.new.self.versions c.release.ensures.released)
