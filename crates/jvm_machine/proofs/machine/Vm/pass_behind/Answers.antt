use Rattle.std.proofs.Common.{◌≡◌, ◌+◌, ◌<◌, ◌-◌, length, true, false, ap, sym, subst, refl, arith, ◌∙◌}
use Rattle.std.specs.Prelude.{IfNone}
use Rattle.std.specs.Option.{IfSome}
use Rattle.interpreter.specs.declared.turns.hands.Gone.{Gone}
use Rattle.interpreter.specs.Moves.Quickly.{GoesQuickly}
use Rattle.jvm_model.specs.declared.due.Due.TheVariants.{Nothing}
use Rattle.jvm_model.specs.Running.Run.{starts_with}
use Rattle.prepared_code.specs.Initializations.{state_of}
use Rattle.prepared_code.specs.Ready.{IsSoundIn}
use Rattle.prepared_code.specs.Runs.{IsAtInstruction}
use Rattle.prepared_code.proofs.Tables.StandingSteps.{set-up-runs}
use Rattle.prepared_code.specs.Originals.{setup_in}
use Rattle.symbolic_references.specs.Runtimes.{RuntimeView}
use Rattle.jvm_model.specs.declared.state.State.{State}
use Rattle.jvm_machine.specs.Machine.{Keeps, state_viewed}
use Rattle.jvm_machine.specs.View.{View}
use Rattle.jvm_machine.proofs.Steps.Exits.{GoesOnFrom}
use Rattle.jvm_machine.proofs.Steps.InHand.{ends-none, ends-some, known-behind, run-behind, sound-behind}
use Rattle.jvm_machine.proofs.machine.Vm.pass_behind.Goals as goal

pub go_quickly-gone-requires-clause-fit : goal.go_quickly-gone-requires-clause-fit
go_quickly-gone-requires-clause-fit c = set-up-runs (setup_in c.self.inside.parts.runtime c.self.inside.originals) c.self.invariant.machine.homes c.self.invariant.machine.has

pub go_quickly-gone-requires-clause-at_instruction : goal.go_quickly-gone-requires-clause-at_instruction
go_quickly-gone-requires-clause-at_instruction c = c.is_at_instruction.ensures c.if-not-is_at_instruction.false

-- nothing was done
pub invariant_of-self : goal.invariant_of-self
invariant_of-self c =
    subst (λ (r : RuntimeView). Keeps c.self.inside.originals r c.self.inside.hand c.self.inside.started c.self.inside.broken c.self.inside.clock (state_of c.self.inside.initializing c.go_quickly-gone.new.parts)) (sym c.go_quickly-gone.ensures.runtime)
    (subst (λ s. Keeps c.self.inside.originals c.self.inside.parts.runtime c.self.inside.hand c.self.inside.started c.self.inside.broken c.self.inside.clock s)
    (sym (subst (λ o. IfNone o (state_of c.self.inside.initializing c.go_quickly-gone.new.parts ≡ state_of c.self.inside.initializing c.self.inside.parts)) c.in_default.is c.go_quickly-gone.ensures.none))
    c.self.invariant)

pub returns-in_default-clause-none : goal.returns-in_default-clause-none
returns-in_default-clause-none c =
    subst (λ (r : RuntimeView). state_viewed (setup_in r c.self.inside.originals) (state_of c.self.inside.initializing c.go_quickly-gone.new.parts) c.self.inside.started c.self.inside.broken c.self.inside.clock c.self.inside.hand ≡ c.args.self.now) (sym c.go_quickly-gone.ensures.runtime)
    (ap (λ (s : State). state_viewed (setup_in c.self.inside.parts.runtime c.self.inside.originals) s c.self.inside.started c.self.inside.broken c.self.inside.clock c.self.inside.hand)
    (subst (λ o. IfNone o (state_of c.self.inside.initializing c.go_quickly-gone.new.parts ≡ state_of c.self.inside.initializing c.self.inside.parts)) c.in_default.is c.go_quickly-gone.ensures.none)
    ∙ c.self.view_is)

-- steps behind the one in hand
pub pass_steps-behind-requires-clause-run : goal.pass_steps-behind-requires-clause-run
pass_steps-behind-requires-clause-run c =
    run-behind c.self.inside.originals c.self.inside.hand c.self.inside.started c.self.inside.broken c.self.inside.clock c.self.inside.initializing c.self.inside.parts
    c.args.self.now c.self.invariant c.self.view_is c.if-not-self.false c.if-self.false c.requires.in_hand c.go_quickly-gone.new.parts c.in-Some.gone
    (subst (λ o. IfSome o (λ gone. GoesQuickly (setup_in c.self.inside.parts.runtime c.self.inside.originals) c.self.inside.initializing c.self.inside.hand c.self.inside.parts gone c.go_quickly-gone.new.parts)) c.in-Some.is c.go_quickly-gone.ensures.goes)
    (subst (λ o. IfSome o (λ gone. GoesOnFrom (setup_in c.self.inside.parts.runtime c.self.inside.originals) c.self.inside.hand (state_of c.self.inside.initializing c.self.inside.parts) gone (state_of c.self.inside.initializing c.go_quickly-gone.new.parts))) c.in-Some.is c.go_quickly-gone.ensures.hands)
    (subst (λ o. IfSome o (λ gone. IsSoundIn (setup_in c.self.inside.parts.runtime c.self.inside.originals) (state_of c.self.inside.initializing c.self.inside.parts) → IsSoundIn (setup_in c.self.inside.parts.runtime c.self.inside.originals) (state_of c.self.inside.initializing c.go_quickly-gone.new.parts))) c.in-Some.is c.go_quickly-gone.ensures.sound)
    (subst (λ o. IfSome o (λ gone. c.self.inside.hand.moves ≡ true → c.self.inside.hand.delivered ≡ false → state_of c.self.inside.initializing c.self.inside.parts ≡ starts_with c.self.inside.parts.runtime.world → IsSoundIn (setup_in c.self.inside.parts.runtime c.self.inside.originals) (state_of c.self.inside.initializing c.go_quickly-gone.new.parts))) c.in-Some.is c.go_quickly-gone.ensures.starts)
    (subst (λ o. IfSome o (λ (gone : Gone). gone.due ≡ Nothing)) c.in-Some.is c.go_quickly-gone.ensures.done)
    (subst (λ o. IfSome o (λ (gone : Gone). IsAtInstruction (length c.go_quickly-gone.new.parts.frames.frames) c.self.inside.initializing c.go_quickly-gone.new.parts)) c.in-Some.is c.go_quickly-gone.ensures.at_instruction)

pub pass_steps-behind-requires-clause-known : goal.pass_steps-behind-requires-clause-known
pass_steps-behind-requires-clause-known c =
    known-behind c.self.inside.originals c.self.inside.hand c.self.inside.started c.self.inside.broken c.self.inside.clock c.self.inside.initializing c.self.inside.parts
    c.args.self.now c.self.invariant c.self.view_is c.if-not-self.false c.if-self.false c.requires.in_hand c.go_quickly-gone.new.parts c.in-Some.gone
    (subst (λ o. IfSome o (λ gone. GoesQuickly (setup_in c.self.inside.parts.runtime c.self.inside.originals) c.self.inside.initializing c.self.inside.hand c.self.inside.parts gone c.go_quickly-gone.new.parts)) c.in-Some.is c.go_quickly-gone.ensures.goes)
    (subst (λ o. IfSome o (λ gone. GoesOnFrom (setup_in c.self.inside.parts.runtime c.self.inside.originals) c.self.inside.hand (state_of c.self.inside.initializing c.self.inside.parts) gone (state_of c.self.inside.initializing c.go_quickly-gone.new.parts))) c.in-Some.is c.go_quickly-gone.ensures.hands)
    (subst (λ o. IfSome o (λ gone. IsSoundIn (setup_in c.self.inside.parts.runtime c.self.inside.originals) (state_of c.self.inside.initializing c.self.inside.parts) → IsSoundIn (setup_in c.self.inside.parts.runtime c.self.inside.originals) (state_of c.self.inside.initializing c.go_quickly-gone.new.parts))) c.in-Some.is c.go_quickly-gone.ensures.sound)
    (subst (λ o. IfSome o (λ gone. c.self.inside.hand.moves ≡ true → c.self.inside.hand.delivered ≡ false → state_of c.self.inside.initializing c.self.inside.parts ≡ starts_with c.self.inside.parts.runtime.world → IsSoundIn (setup_in c.self.inside.parts.runtime c.self.inside.originals) (state_of c.self.inside.initializing c.go_quickly-gone.new.parts))) c.in-Some.is c.go_quickly-gone.ensures.starts)
    (subst (λ o. IfSome o (λ (gone : Gone). gone.due ≡ Nothing)) c.in-Some.is c.go_quickly-gone.ensures.done)
    (subst (λ o. IfSome o (λ (gone : Gone). IsAtInstruction (length c.go_quickly-gone.new.parts.frames.frames) c.self.inside.initializing c.go_quickly-gone.new.parts)) c.in-Some.is c.go_quickly-gone.ensures.at_instruction)

pub pass_steps-behind-requires-clause-sound : goal.pass_steps-behind-requires-clause-sound
pass_steps-behind-requires-clause-sound c =
    sound-behind c.self.inside.originals c.self.inside.hand c.self.inside.started c.self.inside.broken c.self.inside.clock c.self.inside.initializing c.self.inside.parts
    c.args.self.now c.self.invariant c.self.view_is c.if-not-self.false c.if-self.false c.requires.in_hand c.go_quickly-gone.new.parts c.in-Some.gone
    (subst (λ o. IfSome o (λ gone. GoesQuickly (setup_in c.self.inside.parts.runtime c.self.inside.originals) c.self.inside.initializing c.self.inside.hand c.self.inside.parts gone c.go_quickly-gone.new.parts)) c.in-Some.is c.go_quickly-gone.ensures.goes)
    (subst (λ o. IfSome o (λ gone. GoesOnFrom (setup_in c.self.inside.parts.runtime c.self.inside.originals) c.self.inside.hand (state_of c.self.inside.initializing c.self.inside.parts) gone (state_of c.self.inside.initializing c.go_quickly-gone.new.parts))) c.in-Some.is c.go_quickly-gone.ensures.hands)
    (subst (λ o. IfSome o (λ gone. IsSoundIn (setup_in c.self.inside.parts.runtime c.self.inside.originals) (state_of c.self.inside.initializing c.self.inside.parts) → IsSoundIn (setup_in c.self.inside.parts.runtime c.self.inside.originals) (state_of c.self.inside.initializing c.go_quickly-gone.new.parts))) c.in-Some.is c.go_quickly-gone.ensures.sound)
    (subst (λ o. IfSome o (λ gone. c.self.inside.hand.moves ≡ true → c.self.inside.hand.delivered ≡ false → state_of c.self.inside.initializing c.self.inside.parts ≡ starts_with c.self.inside.parts.runtime.world → IsSoundIn (setup_in c.self.inside.parts.runtime c.self.inside.originals) (state_of c.self.inside.initializing c.go_quickly-gone.new.parts))) c.in-Some.is c.go_quickly-gone.ensures.starts)
    (subst (λ o. IfSome o (λ (gone : Gone). gone.due ≡ Nothing)) c.in-Some.is c.go_quickly-gone.ensures.done)
    (subst (λ o. IfSome o (λ (gone : Gone). IsAtInstruction (length c.go_quickly-gone.new.parts.frames.frames) c.self.inside.initializing c.go_quickly-gone.new.parts)) c.in-Some.is c.go_quickly-gone.ensures.at_instruction)

pub pass_steps-behind-requires-clause-at_instruction : goal.pass_steps-behind-requires-clause-at_instruction
pass_steps-behind-requires-clause-at_instruction c = (subst (λ o. IfSome o (λ (gone : Gone). IsAtInstruction (length c.go_quickly-gone.new.parts.frames.frames) c.self.inside.initializing c.go_quickly-gone.new.parts)) c.in-Some.is c.go_quickly-gone.ensures.at_instruction)

-- nothing is told of the next one
pub invariant_of-self-in_default-gone : goal.invariant_of-self-in_default-gone
invariant_of-self-in_default-gone c = (ends-none c.self.inside.originals c.self.inside.hand c.self.inside.started c.self.inside.broken c.self.inside.clock c.self.inside.initializing c.self.inside.parts
    c.args.self.now c.self.invariant c.self.view_is c.if-not-self.false c.if-self.false c.requires.in_hand c.go_quickly-gone.new.parts c.in-Some.gone
    (subst (λ o. IfSome o (λ gone. GoesQuickly (setup_in c.self.inside.parts.runtime c.self.inside.originals) c.self.inside.initializing c.self.inside.hand c.self.inside.parts gone c.go_quickly-gone.new.parts)) c.in-Some.is c.go_quickly-gone.ensures.goes)
    (subst (λ o. IfSome o (λ gone. GoesOnFrom (setup_in c.self.inside.parts.runtime c.self.inside.originals) c.self.inside.hand (state_of c.self.inside.initializing c.self.inside.parts) gone (state_of c.self.inside.initializing c.go_quickly-gone.new.parts))) c.in-Some.is c.go_quickly-gone.ensures.hands)
    (subst (λ o. IfSome o (λ gone. IsSoundIn (setup_in c.self.inside.parts.runtime c.self.inside.originals) (state_of c.self.inside.initializing c.self.inside.parts) → IsSoundIn (setup_in c.self.inside.parts.runtime c.self.inside.originals) (state_of c.self.inside.initializing c.go_quickly-gone.new.parts))) c.in-Some.is c.go_quickly-gone.ensures.sound)
    (subst (λ o. IfSome o (λ gone. c.self.inside.hand.moves ≡ true → c.self.inside.hand.delivered ≡ false → state_of c.self.inside.initializing c.self.inside.parts ≡ starts_with c.self.inside.parts.runtime.world → IsSoundIn (setup_in c.self.inside.parts.runtime c.self.inside.originals) (state_of c.self.inside.initializing c.go_quickly-gone.new.parts))) c.in-Some.is c.go_quickly-gone.ensures.starts)
    (subst (λ o. IfSome o (λ (gone : Gone). gone.due ≡ Nothing)) c.in-Some.is c.go_quickly-gone.ensures.done)
    (subst (λ o. IfSome o (λ (gone : Gone). IsAtInstruction (length c.go_quickly-gone.new.parts.frames.frames) c.self.inside.initializing c.go_quickly-gone.new.parts)) c.in-Some.is c.go_quickly-gone.ensures.at_instruction)
    c.pass_steps-behind.result.made c.pass_steps-behind.ensures.made.between c.pass_steps-behind.ensures.made.passes c.pass_steps-behind.result.gone c.pass_steps-behind.new.parts (sym c.in_default-gone.is)
    c.pass_steps-behind.ensures.made.stops c.hand_left-self-inside.result c.hand_left-self-inside.ensures).kept

pub returns-in_default-gone-clause-passes : goal.returns-in_default-gone-clause-passes
returns-in_default-gone-clause-passes c = (ends-none c.self.inside.originals c.self.inside.hand c.self.inside.started c.self.inside.broken c.self.inside.clock c.self.inside.initializing c.self.inside.parts
    c.args.self.now c.self.invariant c.self.view_is c.if-not-self.false c.if-self.false c.requires.in_hand c.go_quickly-gone.new.parts c.in-Some.gone
    (subst (λ o. IfSome o (λ gone. GoesQuickly (setup_in c.self.inside.parts.runtime c.self.inside.originals) c.self.inside.initializing c.self.inside.hand c.self.inside.parts gone c.go_quickly-gone.new.parts)) c.in-Some.is c.go_quickly-gone.ensures.goes)
    (subst (λ o. IfSome o (λ gone. GoesOnFrom (setup_in c.self.inside.parts.runtime c.self.inside.originals) c.self.inside.hand (state_of c.self.inside.initializing c.self.inside.parts) gone (state_of c.self.inside.initializing c.go_quickly-gone.new.parts))) c.in-Some.is c.go_quickly-gone.ensures.hands)
    (subst (λ o. IfSome o (λ gone. IsSoundIn (setup_in c.self.inside.parts.runtime c.self.inside.originals) (state_of c.self.inside.initializing c.self.inside.parts) → IsSoundIn (setup_in c.self.inside.parts.runtime c.self.inside.originals) (state_of c.self.inside.initializing c.go_quickly-gone.new.parts))) c.in-Some.is c.go_quickly-gone.ensures.sound)
    (subst (λ o. IfSome o (λ gone. c.self.inside.hand.moves ≡ true → c.self.inside.hand.delivered ≡ false → state_of c.self.inside.initializing c.self.inside.parts ≡ starts_with c.self.inside.parts.runtime.world → IsSoundIn (setup_in c.self.inside.parts.runtime c.self.inside.originals) (state_of c.self.inside.initializing c.go_quickly-gone.new.parts))) c.in-Some.is c.go_quickly-gone.ensures.starts)
    (subst (λ o. IfSome o (λ (gone : Gone). gone.due ≡ Nothing)) c.in-Some.is c.go_quickly-gone.ensures.done)
    (subst (λ o. IfSome o (λ (gone : Gone). IsAtInstruction (length c.go_quickly-gone.new.parts.frames.frames) c.self.inside.initializing c.go_quickly-gone.new.parts)) c.in-Some.is c.go_quickly-gone.ensures.at_instruction)
    c.pass_steps-behind.result.made c.pass_steps-behind.ensures.made.between c.pass_steps-behind.ensures.made.passes c.pass_steps-behind.result.gone c.pass_steps-behind.new.parts (sym c.in_default-gone.is)
    c.pass_steps-behind.ensures.made.stops c.hand_left-self-inside.result c.hand_left-self-inside.ensures).passes

-- a probe tells of it
pub overflow_add-self-2 : goal.overflow_add-self-2
overflow_add-self-2 c =
    let less = subst (λ o. IfSome o (λ (gone : Gone). c.pass_steps-behind.result.made < c.args.most - 2)) c.in-Some-gone.is c.pass_steps-behind.ensures.below in
    let clock = ap (λ (x : View). x.clock) c.self.view_is in
    omega (arith, less, clock, c.requires.below)

pub invariant_of-self-2 : goal.invariant_of-self-2
invariant_of-self-2 c = (ends-some c.self.inside.originals c.self.inside.hand c.self.inside.started c.self.inside.broken c.self.inside.clock c.self.inside.initializing c.self.inside.parts
    c.args.self.now c.self.invariant c.self.view_is c.if-not-self.false c.if-self.false c.requires.in_hand c.go_quickly-gone.new.parts c.in-Some.gone
    (subst (λ o. IfSome o (λ gone. GoesQuickly (setup_in c.self.inside.parts.runtime c.self.inside.originals) c.self.inside.initializing c.self.inside.hand c.self.inside.parts gone c.go_quickly-gone.new.parts)) c.in-Some.is c.go_quickly-gone.ensures.goes)
    (subst (λ o. IfSome o (λ gone. GoesOnFrom (setup_in c.self.inside.parts.runtime c.self.inside.originals) c.self.inside.hand (state_of c.self.inside.initializing c.self.inside.parts) gone (state_of c.self.inside.initializing c.go_quickly-gone.new.parts))) c.in-Some.is c.go_quickly-gone.ensures.hands)
    (subst (λ o. IfSome o (λ gone. IsSoundIn (setup_in c.self.inside.parts.runtime c.self.inside.originals) (state_of c.self.inside.initializing c.self.inside.parts) → IsSoundIn (setup_in c.self.inside.parts.runtime c.self.inside.originals) (state_of c.self.inside.initializing c.go_quickly-gone.new.parts))) c.in-Some.is c.go_quickly-gone.ensures.sound)
    (subst (λ o. IfSome o (λ gone. c.self.inside.hand.moves ≡ true → c.self.inside.hand.delivered ≡ false → state_of c.self.inside.initializing c.self.inside.parts ≡ starts_with c.self.inside.parts.runtime.world → IsSoundIn (setup_in c.self.inside.parts.runtime c.self.inside.originals) (state_of c.self.inside.initializing c.go_quickly-gone.new.parts))) c.in-Some.is c.go_quickly-gone.ensures.starts)
    (subst (λ o. IfSome o (λ (gone : Gone). gone.due ≡ Nothing)) c.in-Some.is c.go_quickly-gone.ensures.done)
    (subst (λ o. IfSome o (λ (gone : Gone). IsAtInstruction (length c.go_quickly-gone.new.parts.frames.frames) c.self.inside.initializing c.go_quickly-gone.new.parts)) c.in-Some.is c.go_quickly-gone.ensures.at_instruction)
    c.pass_steps-behind.result.made c.pass_steps-behind.ensures.made.between c.pass_steps-behind.ensures.made.passes c.pass_steps-behind.result.gone c.in-Some-gone.next c.pass_steps-behind.new.parts (sym c.in-Some-gone.is)
    c.pass_steps-behind.ensures.made.stops (c.self.inside.clock + c.pass_steps-behind.result.made + 1) refl c.hand_left-self-inside-2.result c.hand_left-self-inside-2.ensures).kept

pub returns-clause-passes : goal.returns-clause-passes
returns-clause-passes c = (ends-some c.self.inside.originals c.self.inside.hand c.self.inside.started c.self.inside.broken c.self.inside.clock c.self.inside.initializing c.self.inside.parts
    c.args.self.now c.self.invariant c.self.view_is c.if-not-self.false c.if-self.false c.requires.in_hand c.go_quickly-gone.new.parts c.in-Some.gone
    (subst (λ o. IfSome o (λ gone. GoesQuickly (setup_in c.self.inside.parts.runtime c.self.inside.originals) c.self.inside.initializing c.self.inside.hand c.self.inside.parts gone c.go_quickly-gone.new.parts)) c.in-Some.is c.go_quickly-gone.ensures.goes)
    (subst (λ o. IfSome o (λ gone. GoesOnFrom (setup_in c.self.inside.parts.runtime c.self.inside.originals) c.self.inside.hand (state_of c.self.inside.initializing c.self.inside.parts) gone (state_of c.self.inside.initializing c.go_quickly-gone.new.parts))) c.in-Some.is c.go_quickly-gone.ensures.hands)
    (subst (λ o. IfSome o (λ gone. IsSoundIn (setup_in c.self.inside.parts.runtime c.self.inside.originals) (state_of c.self.inside.initializing c.self.inside.parts) → IsSoundIn (setup_in c.self.inside.parts.runtime c.self.inside.originals) (state_of c.self.inside.initializing c.go_quickly-gone.new.parts))) c.in-Some.is c.go_quickly-gone.ensures.sound)
    (subst (λ o. IfSome o (λ gone. c.self.inside.hand.moves ≡ true → c.self.inside.hand.delivered ≡ false → state_of c.self.inside.initializing c.self.inside.parts ≡ starts_with c.self.inside.parts.runtime.world → IsSoundIn (setup_in c.self.inside.parts.runtime c.self.inside.originals) (state_of c.self.inside.initializing c.go_quickly-gone.new.parts))) c.in-Some.is c.go_quickly-gone.ensures.starts)
    (subst (λ o. IfSome o (λ (gone : Gone). gone.due ≡ Nothing)) c.in-Some.is c.go_quickly-gone.ensures.done)
    (subst (λ o. IfSome o (λ (gone : Gone). IsAtInstruction (length c.go_quickly-gone.new.parts.frames.frames) c.self.inside.initializing c.go_quickly-gone.new.parts)) c.in-Some.is c.go_quickly-gone.ensures.at_instruction)
    c.pass_steps-behind.result.made c.pass_steps-behind.ensures.made.between c.pass_steps-behind.ensures.made.passes c.pass_steps-behind.result.gone c.in-Some-gone.next c.pass_steps-behind.new.parts (sym c.in-Some-gone.is)
    c.pass_steps-behind.ensures.made.stops (c.self.inside.clock + c.pass_steps-behind.result.made + 1) refl c.hand_left-self-inside-2.result c.hand_left-self-inside-2.ensures).passes
