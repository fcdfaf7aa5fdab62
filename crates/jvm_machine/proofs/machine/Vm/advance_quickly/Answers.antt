use Rattle.std.proofs.Common.{◌≡◌, true, false, refl, sym, ap, subst, ◌∙◌}
use Rattle.std.specs.Prelude.{IfNone}
use Rattle.std.specs.Option.{IfSome}
use Rattle.jvm_model.specs.Running.Run.{starts_with}
use Rattle.prepared_code.specs.Initializations.{state_of}
use Rattle.prepared_code.specs.Ready.{IsSoundIn}
use Rattle.interpreter.specs.Moves.Quickly.{GoesQuickly}
use Rattle.prepared_code.proofs.Tables.StandingSteps.{set-up-runs}
use Rattle.prepared_code.specs.Originals.{setup_in}
use Rattle.symbolic_references.specs.Runtimes.{RuntimeView}
use Rattle.jvm_model.specs.declared.state.State.{State}
use Rattle.jvm_machine.proofs.States.KeptOn.{keeps-on}
use Rattle.jvm_machine.specs.Advances.{Stops}
use Rattle.jvm_machine.specs.declared.advancing.Telling.TheVariants as telling
use Rattle.jvm_machine.specs.Machine.{Keeps, state_viewed}
use Rattle.jvm_machine.specs.Probes.{IfLeaves}
use Rattle.jvm_machine.proofs.Steps.Quickly.{quick-going, quick-leaves, quick-machine, quick-stops, quick-tidy}
use Rattle.jvm_machine.proofs.Steps.Exits.{GoesOnFrom}
use Rattle.jvm_machine.proofs.Versions.HeldVersions.{never-stale, plain-view, seen-is}
use Rattle.jvm_machine.proofs.machine.Vm.advance_quickly.Goals as goal

pub returns-then-self-clause-held : goal.returns-then-self-clause-held
returns-then-self-clause-held c = never-stale c.self.invariant c.self.view_is

pub go_quickly-gone-requires-clause-fit : goal.go_quickly-gone-requires-clause-fit
go_quickly-gone-requires-clause-fit c = set-up-runs (setup_in c.self.inside.parts.runtime c.self.inside.originals) c.self.invariant.machine.homes c.self.invariant.machine.has

pub go_quickly-gone-requires-clause-at_instruction : goal.go_quickly-gone-requires-clause-at_instruction
go_quickly-gone-requires-clause-at_instruction c = c.is_at_instruction.ensures c.if-not-is_at_instruction.false

-- nothing was done
pub invariant_of-self : goal.invariant_of-self
invariant_of-self c =
    subst (λ (r : RuntimeView). Keeps c.self.inside.originals r c.self.inside.hand c.self.inside.started c.self.inside.broken c.self.inside.clock (state_of c.self.inside.initializing c.go_quickly-gone.new.parts)) (sym c.go_quickly-gone.ensures.runtime)
    (subst (λ s. Keeps c.self.inside.originals c.self.inside.parts.runtime c.self.inside.hand c.self.inside.started c.self.inside.broken c.self.inside.clock s)
    (sym (subst (λ o. IfNone o (state_of c.self.inside.initializing c.go_quickly-gone.new.parts ≡ state_of c.self.inside.initializing c.self.inside.parts)) c.in_default.is c.go_quickly-gone.ensures.none))
    c.self.invariant)

pub returns-in_default-clause-held : goal.returns-in_default-clause-held
returns-in_default-clause-held c = never-stale (invariant_of-self c) refl

pub returns-in_default-clause-none : goal.returns-in_default-clause-none
returns-in_default-clause-none c =
    subst (λ (r : RuntimeView). state_viewed (setup_in r c.self.inside.originals) (state_of c.self.inside.initializing c.go_quickly-gone.new.parts) c.self.inside.started c.self.inside.broken c.self.inside.clock c.self.inside.hand ≡ c.args.self.now) (sym c.go_quickly-gone.ensures.runtime)
    (ap (λ (s : State). state_viewed (setup_in c.self.inside.parts.runtime c.self.inside.originals) s c.self.inside.started c.self.inside.broken c.self.inside.clock c.self.inside.hand)
    (subst (λ o. IfNone o (state_of c.self.inside.initializing c.go_quickly-gone.new.parts ≡ state_of c.self.inside.initializing c.self.inside.parts)) c.in_default.is c.go_quickly-gone.ensures.none)
    ∙ c.self.view_is)

-- it has gone on
pub invariant_of-self-2 : goal.invariant_of-self-2
invariant_of-self-2 c =
    keeps-on c.self.inside.originals c.self.inside.parts.runtime c.go_quickly-gone.new.parts.runtime (ap (λ (r : RuntimeView). r.world) c.go_quickly-gone.ensures.runtime) (ap (λ (r : RuntimeView). r.shared.loaded) c.go_quickly-gone.ensures.runtime) c.self.invariant.program c.self.invariant.known
    (quick-machine (setup_in c.self.inside.parts.runtime c.self.inside.originals) c.self.inside.hand c.self.inside.started c.self.inside.broken c.self.inside.clock
    c.self.inside.initializing c.self.inside.parts c.self.invariant.machine c.args.self.now (seen-is c.self.invariant c.self.view_is) c.if-not-self.false c.if-self.false
    c.is_resting-resting.result c.is_resting-resting.ensures
    c.hand_now-hand.result (c.hand_now-hand.ensures c.self.inside.parts.runtime.world) c.go_quickly-gone.new.parts c.in-Some.gone
    (subst (λ o. IfSome o (λ gone. GoesQuickly (setup_in c.self.inside.parts.runtime c.self.inside.originals) c.self.inside.initializing c.hand_now-hand.result c.self.inside.parts gone c.go_quickly-gone.new.parts)) c.in-Some.is c.go_quickly-gone.ensures.goes)
    (subst (λ o. IfSome o (λ gone. GoesOnFrom (setup_in c.self.inside.parts.runtime c.self.inside.originals) c.hand_now-hand.result (state_of c.self.inside.initializing c.self.inside.parts) gone (state_of c.self.inside.initializing c.go_quickly-gone.new.parts))) c.in-Some.is c.go_quickly-gone.ensures.hands)
    (subst (λ o. IfSome o (λ gone. IsSoundIn (setup_in c.self.inside.parts.runtime c.self.inside.originals) (state_of c.self.inside.initializing c.self.inside.parts) → IsSoundIn (setup_in c.self.inside.parts.runtime c.self.inside.originals) (state_of c.self.inside.initializing c.go_quickly-gone.new.parts))) c.in-Some.is c.go_quickly-gone.ensures.sound)
    (subst (λ o. IfSome o (λ gone. c.hand_now-hand.result.moves ≡ true → c.hand_now-hand.result.delivered ≡ false → state_of c.self.inside.initializing c.self.inside.parts ≡ starts_with c.self.inside.parts.runtime.world → IsSoundIn (setup_in c.self.inside.parts.runtime c.self.inside.originals) (state_of c.self.inside.initializing c.go_quickly-gone.new.parts))) c.in-Some.is c.go_quickly-gone.ensures.starts)
    c.clock_in-self-inside.result c.clock_in-self-inside.ensures c.hand_left-self-inside.result c.hand_left-self-inside.ensures)
    (λ whole. quick-tidy (setup_in c.self.inside.parts.runtime c.self.inside.originals) c.self.inside.hand c.self.inside.started c.self.inside.broken c.self.inside.clock
    c.self.inside.initializing c.self.inside.parts c.self.invariant.machine c.args.self.now (seen-is c.self.invariant c.self.view_is) c.if-not-self.false c.if-self.false
    c.is_resting-resting.result c.is_resting-resting.ensures
    c.hand_now-hand.result (c.hand_now-hand.ensures c.self.inside.parts.runtime.world) c.go_quickly-gone.new.parts c.in-Some.gone
    (subst (λ o. IfSome o (λ gone. GoesQuickly (setup_in c.self.inside.parts.runtime c.self.inside.originals) c.self.inside.initializing c.hand_now-hand.result c.self.inside.parts gone c.go_quickly-gone.new.parts)) c.in-Some.is c.go_quickly-gone.ensures.goes)
    (subst (λ o. IfSome o (λ gone. GoesOnFrom (setup_in c.self.inside.parts.runtime c.self.inside.originals) c.hand_now-hand.result (state_of c.self.inside.initializing c.self.inside.parts) gone (state_of c.self.inside.initializing c.go_quickly-gone.new.parts))) c.in-Some.is c.go_quickly-gone.ensures.hands)
    (subst (λ o. IfSome o (λ gone. IsSoundIn (setup_in c.self.inside.parts.runtime c.self.inside.originals) (state_of c.self.inside.initializing c.self.inside.parts) → IsSoundIn (setup_in c.self.inside.parts.runtime c.self.inside.originals) (state_of c.self.inside.initializing c.go_quickly-gone.new.parts))) c.in-Some.is c.go_quickly-gone.ensures.sound)
    (subst (λ o. IfSome o (λ gone. c.hand_now-hand.result.moves ≡ true → c.hand_now-hand.result.delivered ≡ false → state_of c.self.inside.initializing c.self.inside.parts ≡ starts_with c.self.inside.parts.runtime.world → IsSoundIn (setup_in c.self.inside.parts.runtime c.self.inside.originals) (state_of c.self.inside.initializing c.go_quickly-gone.new.parts))) c.in-Some.is c.go_quickly-gone.ensures.starts)
    c.clock_in-self-inside.result c.clock_in-self-inside.ensures c.hand_left-self-inside.result c.hand_left-self-inside.ensures (c.self.invariant.tidy whole))

pub returns-clause-stops : goal.returns-clause-stops
returns-clause-stops c =
    subst (λ (r : RuntimeView). Stops c.args.self.now c.in-Some.gone.due (state_viewed (setup_in r c.self.inside.originals) (state_of c.self.inside.initializing c.go_quickly-gone.new.parts) c.self.inside.started c.self.inside.broken c.clock_in-self-inside.result c.hand_left-self-inside.result)) (sym c.go_quickly-gone.ensures.runtime)
    (subst (Stops c.args.self.now c.in-Some.gone.due)
    (sym (plain-view (setup_in c.self.inside.parts.runtime c.self.inside.originals) c.hand_left-self-inside.result c.self.inside.started c.self.inside.broken c.clock_in-self-inside.result
    (state_of c.self.inside.initializing c.go_quickly-gone.new.parts) (λ whole. quick-tidy (setup_in c.self.inside.parts.runtime c.self.inside.originals) c.self.inside.hand c.self.inside.started c.self.inside.broken c.self.inside.clock
    c.self.inside.initializing c.self.inside.parts c.self.invariant.machine c.args.self.now (seen-is c.self.invariant c.self.view_is) c.if-not-self.false c.if-self.false
    c.is_resting-resting.result c.is_resting-resting.ensures
    c.hand_now-hand.result (c.hand_now-hand.ensures c.self.inside.parts.runtime.world) c.go_quickly-gone.new.parts c.in-Some.gone
    (subst (λ o. IfSome o (λ gone. GoesQuickly (setup_in c.self.inside.parts.runtime c.self.inside.originals) c.self.inside.initializing c.hand_now-hand.result c.self.inside.parts gone c.go_quickly-gone.new.parts)) c.in-Some.is c.go_quickly-gone.ensures.goes)
    (subst (λ o. IfSome o (λ gone. GoesOnFrom (setup_in c.self.inside.parts.runtime c.self.inside.originals) c.hand_now-hand.result (state_of c.self.inside.initializing c.self.inside.parts) gone (state_of c.self.inside.initializing c.go_quickly-gone.new.parts))) c.in-Some.is c.go_quickly-gone.ensures.hands)
    (subst (λ o. IfSome o (λ gone. IsSoundIn (setup_in c.self.inside.parts.runtime c.self.inside.originals) (state_of c.self.inside.initializing c.self.inside.parts) → IsSoundIn (setup_in c.self.inside.parts.runtime c.self.inside.originals) (state_of c.self.inside.initializing c.go_quickly-gone.new.parts))) c.in-Some.is c.go_quickly-gone.ensures.sound)
    (subst (λ o. IfSome o (λ gone. c.hand_now-hand.result.moves ≡ true → c.hand_now-hand.result.delivered ≡ false → state_of c.self.inside.initializing c.self.inside.parts ≡ starts_with c.self.inside.parts.runtime.world → IsSoundIn (setup_in c.self.inside.parts.runtime c.self.inside.originals) (state_of c.self.inside.initializing c.go_quickly-gone.new.parts))) c.in-Some.is c.go_quickly-gone.ensures.starts)
    c.clock_in-self-inside.result c.clock_in-self-inside.ensures c.hand_left-self-inside.result c.hand_left-self-inside.ensures (c.self.invariant.tidy whole))))
    (quick-stops (setup_in c.self.inside.parts.runtime c.self.inside.originals) c.self.inside.hand c.self.inside.started c.self.inside.broken c.self.inside.clock
    c.self.inside.initializing c.self.inside.parts c.self.invariant.machine c.args.self.now (seen-is c.self.invariant c.self.view_is) c.if-not-self.false c.if-self.false
    c.is_resting-resting.result c.is_resting-resting.ensures
    c.hand_now-hand.result (c.hand_now-hand.ensures c.self.inside.parts.runtime.world) c.go_quickly-gone.new.parts c.in-Some.gone
    (subst (λ o. IfSome o (λ gone. GoesQuickly (setup_in c.self.inside.parts.runtime c.self.inside.originals) c.self.inside.initializing c.hand_now-hand.result c.self.inside.parts gone c.go_quickly-gone.new.parts)) c.in-Some.is c.go_quickly-gone.ensures.goes)
    (subst (λ o. IfSome o (λ gone. GoesOnFrom (setup_in c.self.inside.parts.runtime c.self.inside.originals) c.hand_now-hand.result (state_of c.self.inside.initializing c.self.inside.parts) gone (state_of c.self.inside.initializing c.go_quickly-gone.new.parts))) c.in-Some.is c.go_quickly-gone.ensures.hands)
    (subst (λ o. IfSome o (λ gone. IsSoundIn (setup_in c.self.inside.parts.runtime c.self.inside.originals) (state_of c.self.inside.initializing c.self.inside.parts) → IsSoundIn (setup_in c.self.inside.parts.runtime c.self.inside.originals) (state_of c.self.inside.initializing c.go_quickly-gone.new.parts))) c.in-Some.is c.go_quickly-gone.ensures.sound)
    (subst (λ o. IfSome o (λ gone. c.hand_now-hand.result.moves ≡ true → c.hand_now-hand.result.delivered ≡ false → state_of c.self.inside.initializing c.self.inside.parts ≡ starts_with c.self.inside.parts.runtime.world → IsSoundIn (setup_in c.self.inside.parts.runtime c.self.inside.originals) (state_of c.self.inside.initializing c.go_quickly-gone.new.parts))) c.in-Some.is c.go_quickly-gone.ensures.starts)
    c.clock_in-self-inside.result c.clock_in-self-inside.ensures c.hand_left-self-inside.result c.hand_left-self-inside.ensures))

pub returns-clause-leaves : goal.returns-clause-leaves
returns-clause-leaves c =
    subst (λ (r : RuntimeView). IfLeaves (telling.Due c.in-Some.gone.due) (state_viewed (setup_in r c.self.inside.originals) (state_of c.self.inside.initializing c.go_quickly-gone.new.parts) c.self.inside.started c.self.inside.broken c.clock_in-self-inside.result c.hand_left-self-inside.result)) (sym c.go_quickly-gone.ensures.runtime)
    (subst (IfLeaves (telling.Due c.in-Some.gone.due))
    (sym (plain-view (setup_in c.self.inside.parts.runtime c.self.inside.originals) c.hand_left-self-inside.result c.self.inside.started c.self.inside.broken c.clock_in-self-inside.result
    (state_of c.self.inside.initializing c.go_quickly-gone.new.parts) (λ whole. quick-tidy (setup_in c.self.inside.parts.runtime c.self.inside.originals) c.self.inside.hand c.self.inside.started c.self.inside.broken c.self.inside.clock
    c.self.inside.initializing c.self.inside.parts c.self.invariant.machine c.args.self.now (seen-is c.self.invariant c.self.view_is) c.if-not-self.false c.if-self.false
    c.is_resting-resting.result c.is_resting-resting.ensures
    c.hand_now-hand.result (c.hand_now-hand.ensures c.self.inside.parts.runtime.world) c.go_quickly-gone.new.parts c.in-Some.gone
    (subst (λ o. IfSome o (λ gone. GoesQuickly (setup_in c.self.inside.parts.runtime c.self.inside.originals) c.self.inside.initializing c.hand_now-hand.result c.self.inside.parts gone c.go_quickly-gone.new.parts)) c.in-Some.is c.go_quickly-gone.ensures.goes)
    (subst (λ o. IfSome o (λ gone. GoesOnFrom (setup_in c.self.inside.parts.runtime c.self.inside.originals) c.hand_now-hand.result (state_of c.self.inside.initializing c.self.inside.parts) gone (state_of c.self.inside.initializing c.go_quickly-gone.new.parts))) c.in-Some.is c.go_quickly-gone.ensures.hands)
    (subst (λ o. IfSome o (λ gone. IsSoundIn (setup_in c.self.inside.parts.runtime c.self.inside.originals) (state_of c.self.inside.initializing c.self.inside.parts) → IsSoundIn (setup_in c.self.inside.parts.runtime c.self.inside.originals) (state_of c.self.inside.initializing c.go_quickly-gone.new.parts))) c.in-Some.is c.go_quickly-gone.ensures.sound)
    (subst (λ o. IfSome o (λ gone. c.hand_now-hand.result.moves ≡ true → c.hand_now-hand.result.delivered ≡ false → state_of c.self.inside.initializing c.self.inside.parts ≡ starts_with c.self.inside.parts.runtime.world → IsSoundIn (setup_in c.self.inside.parts.runtime c.self.inside.originals) (state_of c.self.inside.initializing c.go_quickly-gone.new.parts))) c.in-Some.is c.go_quickly-gone.ensures.starts)
    c.clock_in-self-inside.result c.clock_in-self-inside.ensures c.hand_left-self-inside.result c.hand_left-self-inside.ensures (c.self.invariant.tidy whole))))
    (quick-leaves (setup_in c.self.inside.parts.runtime c.self.inside.originals) c.self.inside.hand c.self.inside.started c.self.inside.broken c.self.inside.clock
    c.self.inside.initializing c.self.inside.parts c.self.invariant.machine c.args.self.now (seen-is c.self.invariant c.self.view_is) c.if-not-self.false c.if-self.false
    c.is_resting-resting.result c.is_resting-resting.ensures
    c.hand_now-hand.result (c.hand_now-hand.ensures c.self.inside.parts.runtime.world) c.go_quickly-gone.new.parts c.in-Some.gone
    (subst (λ o. IfSome o (λ gone. GoesQuickly (setup_in c.self.inside.parts.runtime c.self.inside.originals) c.self.inside.initializing c.hand_now-hand.result c.self.inside.parts gone c.go_quickly-gone.new.parts)) c.in-Some.is c.go_quickly-gone.ensures.goes)
    (subst (λ o. IfSome o (λ gone. GoesOnFrom (setup_in c.self.inside.parts.runtime c.self.inside.originals) c.hand_now-hand.result (state_of c.self.inside.initializing c.self.inside.parts) gone (state_of c.self.inside.initializing c.go_quickly-gone.new.parts))) c.in-Some.is c.go_quickly-gone.ensures.hands)
    (subst (λ o. IfSome o (λ gone. IsSoundIn (setup_in c.self.inside.parts.runtime c.self.inside.originals) (state_of c.self.inside.initializing c.self.inside.parts) → IsSoundIn (setup_in c.self.inside.parts.runtime c.self.inside.originals) (state_of c.self.inside.initializing c.go_quickly-gone.new.parts))) c.in-Some.is c.go_quickly-gone.ensures.sound)
    (subst (λ o. IfSome o (λ gone. c.hand_now-hand.result.moves ≡ true → c.hand_now-hand.result.delivered ≡ false → state_of c.self.inside.initializing c.self.inside.parts ≡ starts_with c.self.inside.parts.runtime.world → IsSoundIn (setup_in c.self.inside.parts.runtime c.self.inside.originals) (state_of c.self.inside.initializing c.go_quickly-gone.new.parts))) c.in-Some.is c.go_quickly-gone.ensures.starts)
    c.clock_in-self-inside.result c.clock_in-self-inside.ensures c.hand_left-self-inside.result c.hand_left-self-inside.ensures))

pub returns-clause-going : goal.returns-clause-going
returns-clause-going c =
    quick-going (setup_in c.self.inside.parts.runtime c.self.inside.originals) c.self.inside.hand c.self.inside.started c.self.inside.broken c.self.inside.clock
    c.self.inside.initializing c.self.inside.parts c.self.invariant.machine c.args.self.now (seen-is c.self.invariant c.self.view_is) c.if-not-self.false c.if-self.false
    c.is_resting-resting.result c.is_resting-resting.ensures
    (c.is_at_instruction.ensures c.if-not-is_at_instruction.false).ending

pub returns-clause-held : goal.returns-clause-held
returns-clause-held c = never-stale (invariant_of-self-2 c) refl
