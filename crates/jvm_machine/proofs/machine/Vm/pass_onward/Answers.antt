use Rattle.std.proofs.Common.{◌+◌, ◌<◌, ap, sym, subst, ◌∙◌, refl, arith}
use Rattle.std.specs.Option.{IfSome}
use Rattle.interpreter.specs.declared.turns.hands.Gone.{Gone}
use Rattle.prepared_code.proofs.Tables.StandingSteps.{set-up-runs}
use Rattle.prepared_code.specs.Originals.{setup_in}
use Rattle.jvm_machine.specs.Several.{none}
use Rattle.jvm_machine.specs.View.{View, is_resting}
use Rattle.jvm_machine.proofs.Versions.HeldVersions.{seen-is}
use Rattle.jvm_machine.proofs.Steps.Onward.{behind-none, behind-some}
use Rattle.jvm_machine.proofs.machine.Vm.pass_onward.Goals as goal

pub returns-then-self-clause-passes : goal.returns-then-self-clause-passes
returns-then-self-clause-passes c = record { between = c.args.self.now; passes = none; reaches = refl }

pub pass_steps-passed-requires-clause-run : goal.pass_steps-passed-requires-clause-run
pass_steps-passed-requires-clause-run c = set-up-runs (setup_in c.self.inside.parts.runtime c.self.inside.originals) c.self.invariant.machine.homes c.self.invariant.machine.has

pub pass_steps-passed-requires-clause-known : goal.pass_steps-passed-requires-clause-known
pass_steps-passed-requires-clause-known c = c.self.invariant.known c.if-self.false

pub pass_steps-passed-requires-clause-sound : goal.pass_steps-passed-requires-clause-sound
pass_steps-passed-requires-clause-sound c =
    (c.self.invariant.machine.whole c.if-self.false).rests (ap is_resting (seen-is c.self.invariant c.self.view_is) ∙ c.requires.resting) c.if-not-self.false

pub pass_steps-passed-requires-clause-at_instruction : goal.pass_steps-passed-requires-clause-at_instruction
pass_steps-passed-requires-clause-at_instruction c = c.is_at_instruction.ensures c.if-not-is_at_instruction.false

-- nothing is told of the next step
pub invariant_of-self : goal.invariant_of-self
invariant_of-self c =
    (behind-none c.self.inside.originals c.self.inside.hand c.self.inside.started c.self.inside.broken c.self.inside.clock c.self.inside.initializing c.self.inside.parts
    c.args.self.now c.self.invariant c.self.view_is c.if-not-self.false c.if-self.false c.requires.resting c.pass_steps-passed.result.made c.pass_steps-passed.ensures.made.between
    c.pass_steps-passed.ensures.made.passes c.pass_steps-passed.result.gone c.pass_steps-passed.new.parts (sym c.in_default.is) c.pass_steps-passed.ensures.made.stops).kept

pub returns-in_default-clause-passes : goal.returns-in_default-clause-passes
returns-in_default-clause-passes c =
    (behind-none c.self.inside.originals c.self.inside.hand c.self.inside.started c.self.inside.broken c.self.inside.clock c.self.inside.initializing c.self.inside.parts
    c.args.self.now c.self.invariant c.self.view_is c.if-not-self.false c.if-self.false c.requires.resting c.pass_steps-passed.result.made c.pass_steps-passed.ensures.made.between
    c.pass_steps-passed.ensures.made.passes c.pass_steps-passed.result.gone c.pass_steps-passed.new.parts (sym c.in_default.is) c.pass_steps-passed.ensures.made.stops).passes

-- a probe tells of it
pub overflow_add-self-2 : goal.overflow_add-self-2
overflow_add-self-2 c =
    let less = subst (λ o. IfSome o (λ (gone : Gone). c.pass_steps-passed.result.made < c.args.most)) c.in-Some.is c.pass_steps-passed.ensures.below in
    let clock = ap (λ (x : View). x.clock) c.self.view_is in
    omega (arith, less, clock, c.requires.below)

pub invariant_of-self-2 : goal.invariant_of-self-2
invariant_of-self-2 c =
    (behind-some c.self.inside.originals c.self.inside.hand c.self.inside.started c.self.inside.broken c.self.inside.clock c.self.inside.initializing c.self.inside.parts
    c.args.self.now c.self.invariant c.self.view_is c.if-not-self.false c.if-self.false c.requires.resting c.pass_steps-passed.result.made c.pass_steps-passed.ensures.made.between
    c.pass_steps-passed.ensures.made.passes c.pass_steps-passed.result.gone c.in-Some.gone c.pass_steps-passed.new.parts (sym c.in-Some.is) c.pass_steps-passed.ensures.made.stops
    (c.self.inside.clock + c.pass_steps-passed.result.made + 1) refl c.hand_left-self-inside.result c.hand_left-self-inside.ensures).kept

pub returns-clause-passes : goal.returns-clause-passes
returns-clause-passes c =
    (behind-some c.self.inside.originals c.self.inside.hand c.self.inside.started c.self.inside.broken c.self.inside.clock c.self.inside.initializing c.self.inside.parts
    c.args.self.now c.self.invariant c.self.view_is c.if-not-self.false c.if-self.false c.requires.resting c.pass_steps-passed.result.made c.pass_steps-passed.ensures.made.between
    c.pass_steps-passed.ensures.made.passes c.pass_steps-passed.result.gone c.in-Some.gone c.pass_steps-passed.new.parts (sym c.in-Some.is) c.pass_steps-passed.ensures.made.stops
    (c.self.inside.clock + c.pass_steps-passed.result.made + 1) refl c.hand_left-self-inside.result c.hand_left-self-inside.ensures).passes
