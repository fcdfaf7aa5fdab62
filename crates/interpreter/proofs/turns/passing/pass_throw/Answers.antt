use Rattle.std.proofs.Common.{◌≡◌, subst}
use Rattle.std.specs.Option.{IfSome}
use Rattle.frame_stack.specs.FrameLists.{top_operands}
use Rattle.jvm_model.specs.Basis.Data.{Throws}
use Rattle.jvm_model.specs.Instructions.ObjectRules.{throws}
use Rattle.jvm_model.specs.Basis.Values.{ref_of}
use Rattle.activations.specs.Catching.{CatchesBelow}
use Rattle.prepared_code.specs.Originals.{setup_in}
use Rattle.interpreter.proofs.Silent.PassingThrows.{caught-passes}
use Rattle.interpreter.proofs.Silent.SilentSteps.{passes_none}
use Rattle.interpreter.proofs.turns.passing.pass_throw.Goals as goal

pub returns-in_default : goal.returns-in_default
returns-in_default c = passes_none (setup_in c.args.parts.now.runtime c.args.originals.now) c.args.initializing.now c.args.parts.now c.requires.at_instruction

pub returns-in_default-caught_below : goal.returns-in_default-caught_below
returns-in_default-caught_below c = passes_none (setup_in c.args.parts.now.runtime c.args.originals.now) c.args.initializing.now c.args.parts.now c.requires.at_instruction

pub returns : goal.returns
returns c =
    let w = setup_in c.args.parts.now.runtime c.args.originals.now in
    let p = c.args.parts.now in
    let r = c.in-Some.object in
    let thrown = subst (λ o. IfSome o (λ object. throws w.world p.runtime.shared (ref_of (top_operands p.frames.frames)) ≡ Throws object)) c.in-Some.is c.thrown_object.ensures in
    let found = subst (λ o. IfSome o (λ target. CatchesBelow w c.args.initializing.now c.args.here p.frames.frames c.class_of-class.result target)) c.in-Some-caught_below.is c.caught_below.ensures in
    caught-passes w c.requires.run c.args.initializing.now c.args.here c.args.line.now p c.requires.here c.requires.line c.requires.throws c.requires.at_instruction
    r c.in-Some-caught_below.target c.catch_below.result c.catch_below.new.frames
    (subst (λ class. CatchesBelow w c.args.initializing.now c.args.here p.frames.frames class c.in-Some-caught_below.target)
    c.class_of-class.ensures.class found)
    thrown c.catch_below.ensures.fits c.catch_below.ensures.frames
