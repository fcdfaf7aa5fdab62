use Rattle.std.proofs.Common.{sym, subst}
use Rattle.std.specs.Prelude.{IfSome}
use Rattle.member_selection.specs.Answers.{done_on}
use Rattle.member_selection.specs.Attempts.{attempts}
use Rattle.symbolic_references.specs.Passing.{IsInvoked}
use Rattle.prepared_code.specs.Originals.{setup_in}
use Rattle.interpreter.specs.Moves.Onward.{GoesOnward}
use Rattle.interpreter.proofs.Silent.GoingOnward.{onward-if}
use Rattle.interpreter.proofs.Silent.PassingCalls.{called-onward}
use Rattle.interpreter.proofs.Silent.PassingSteps.{native-passes, native-there, nothing-new}
use Rattle.interpreter.proofs.Silent.SilentSteps.{passes_none}
use Rattle.interpreter.proofs.turns.passing.pass_call.Goals as goal

-- (written before a first check)
pub pass_native-requires-clause-stands : goal.pass_native-requires-clause-stands
pass_native-requires-clause-stands c =
    let p = c.args.parts.now in
    let d = done_on (attempts p.runtime.world c.args.reference.now p.runtime.shared p.frames) p.frames in
    (native-there c.known_call.result c.in-Some.invoked c.in-Native.native c.in-Some.is c.in-Native.is
    (λ x. IsInvoked p.runtime.world x d p.runtime.shared p.frames.frames) c.known_call.ensures.called).stands

pub pass_native-requires-clause-within : goal.pass_native-requires-clause-within
pass_native-requires-clause-within c =
    let p = c.args.parts.now in
    let d = done_on (attempts p.runtime.world c.args.reference.now p.runtime.shared p.frames) p.frames in
    (native-there c.known_call.result c.in-Some.invoked c.in-Native.native c.in-Some.is c.in-Native.is
    (λ x. IsInvoked p.runtime.world x d p.runtime.shared p.frames.frames) c.known_call.ensures.called).within

pub returns-in-Code : goal.returns-in-Code
returns-in-Code c =
    let w = setup_in c.args.parts.now.runtime c.args.originals.now in
    let p = c.args.parts.now in
    let d = done_on (attempts p.runtime.world c.args.reference.now p.runtime.shared p.frames) p.frames in
    let said = subst (λ o. IfSome o (λ x. IsInvoked p.runtime.world x d p.runtime.shared p.frames.frames)) c.in-Some.is c.known_call.ensures.called in
    let call = subst (λ x. IsInvoked p.runtime.world x d p.runtime.shared p.frames.frames) c.in-Code.is said in
    let nothing = nothing-new w c.requires.run c.args.initializing.now c.args.here c.args.line.now c.args.reference.now p c.requires.here c.requires.line c.requires.named c.requires.at_instruction
    c.known_call.ensures.loads in
    called-onward w c.requires.run c.args.initializing.now c.args.here c.args.line.now c.args.reference.now p c.requires.here c.requires.line c.requires.named c.requires.at_instruction nothing
    c.in-Code.call c.begin_call.result c.begin_call.new.parts call c.begin_call.ensures.few c.begin_call.ensures.fits c.begin_call.ensures.due c.begin_call.ensures.frames
    c.begin_call.ensures.same

pub returns-in-Native : goal.returns-in-Native
returns-in-Native c =
    let w = setup_in c.args.parts.now.runtime c.args.originals.now in
    let p = c.args.parts.now in
    let d = done_on (attempts p.runtime.world c.args.reference.now p.runtime.shared p.frames) p.frames in
    let native = native-there c.known_call.result c.in-Some.invoked c.in-Native.native c.in-Some.is c.in-Native.is
    (λ x. IsInvoked p.runtime.world x d p.runtime.shared p.frames.frames) c.known_call.ensures.called in
    let passes =
    native-passes w c.requires.run c.args.initializing.now c.args.here c.args.line.now c.args.reference.now p c.requires.here c.requires.line c.requires.named c.requires.at_instruction
    c.known_call.ensures.loads c.pass_native.result c.pass_native.new.frames c.pass_native.new.self c.in-Native.native native c.pass_native.ensures.passed in
    subst (λ o. GoesOnward w c.args.initializing.now p o (record p { frames = c.pass_native.new.frames; runtime = c.pass_native.new.self })) (sym c.made_if.ensures)
    (onward-if w c.args.initializing.now p (record p { frames = c.pass_native.new.frames; runtime = c.pass_native.new.self }) c.pass_native.result passes)

pub returns-in_default : goal.returns-in_default
returns-in_default c = passes_none (setup_in c.args.parts.now.runtime c.args.originals.now) c.args.initializing.now c.args.parts.now c.requires.at_instruction
