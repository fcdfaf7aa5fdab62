use Rattle.std.proofs.Common.{◌≡◌, subst}
use Rattle.std.specs.Option.{IfSome}
use Rattle.frame_stack.specs.FrameLists.{top_operands}
use Rattle.jvm_model.specs.Basis.Data.{Returns}
use Rattle.jvm_model.specs.Instructions.LocalRules.{returns as gives}
use Rattle.prepared_code.specs.Versions.{mark_of}
use Rattle.interpreter.specs.Moves.Quickly.{GoesBack}
use Rattle.prepared_code.specs.Originals.{setup_in}
use Rattle.interpreter.proofs.Silent.GoingOnward.{off-by}
use Rattle.interpreter.proofs.Silent.ReturnLemmas.{gives-at_instruction, gives-passes, gives-tries}
use Rattle.interpreter.proofs.Silent.SilentSteps.{passes_none}
use Rattle.interpreter.proofs.turns.passing.leave.Goals as goal

pub returns-then-not-begins_in-clause-silent : goal.returns-then-not-begins_in-clause-silent
returns-then-not-begins_in-clause-silent c = λ off. passes_none (setup_in c.args.parts.now.runtime c.args.originals.now) c.args.initializing.now c.args.parts.now c.requires.at_instruction

pub returns-in_default-clause-silent : goal.returns-in_default-clause-silent
returns-in_default-clause-silent c = λ off. passes_none (setup_in c.args.parts.now.runtime c.args.originals.now) c.args.initializing.now c.args.parts.now c.requires.at_instruction

pub returns-in_default-result_of-clause-silent : goal.returns-in_default-result_of-clause-silent
returns-in_default-result_of-clause-silent c = λ off. passes_none (setup_in c.args.parts.now.runtime c.args.originals.now) c.args.initializing.now c.args.parts.now c.requires.at_instruction

pub returns-clause-delivered : goal.returns-clause-delivered
returns-clause-delivered c =
    let w = setup_in c.args.parts.now.runtime c.args.originals.now in
    let p = c.args.parts.now in
    gives-tries w c.requires.run c.args.initializing.now c.args.here c.args.line.now c.args.kind p c.requires.here c.requires.line c.requires.ends c.requires.at_instruction
    c.in-Some-result_of.datum c.in-Some.next c.value_given.result c.give_back.new.self c.recall.ensures (c.begins_in.ensures c.if-not-begins_in.false)
    (subst (λ o. IfSome o (λ d. gives c.args.kind (top_operands p.frames.frames) ≡ Returns d)) c.in-Some-result_of.is c.result_of.ensures)
    c.value_given.ensures c.give_back.result
    (subst (λ o. IfSome o (λ next. GoesBack w.versions c.args.initializing.now p.frames.frames next)) c.in-Some.is c.goes_back.ensures)
    c.give_back.ensures.answer c.give_back.ensures.frames

pub returns-clause-at_instruction : goal.returns-clause-at_instruction
returns-clause-at_instruction c = λ given.
    let w = setup_in c.args.parts.now.runtime c.args.originals.now in
    let p = c.args.parts.now in
    gives-at_instruction w c.requires.run c.args.initializing.now c.args.here c.args.line.now c.args.kind p c.requires.here c.requires.line c.requires.ends c.requires.at_instruction
    c.in-Some-result_of.datum c.in-Some.next c.value_given.result c.give_back.new.self c.recall.ensures (c.begins_in.ensures c.if-not-begins_in.false)
    (subst (λ o. IfSome o (λ d. gives c.args.kind (top_operands p.frames.frames) ≡ Returns d)) c.in-Some-result_of.is c.result_of.ensures)
    c.value_given.ensures c.give_back.result given
    (subst (λ o. IfSome o (λ next. GoesBack w.versions c.args.initializing.now p.frames.frames next)) c.in-Some.is c.goes_back.ensures)
    c.give_back.ensures.answer c.give_back.ensures.frames

pub returns-clause-silent : goal.returns-clause-silent
returns-clause-silent c = λ off.
    let w = setup_in c.args.parts.now.runtime c.args.originals.now in
    let p = c.args.parts.now in
    gives-passes w c.requires.run c.args.initializing.now c.args.here c.args.line.now c.args.kind p c.requires.here c.requires.line c.requires.ends c.requires.at_instruction
    c.in-Some-result_of.datum c.in-Some.next c.value_given.result c.give_back.new.self c.recall.ensures (c.begins_in.ensures c.if-not-begins_in.false)
    (subst (λ o. IfSome o (λ d. gives c.args.kind (top_operands p.frames.frames) ≡ Returns d)) c.in-Some-result_of.is c.result_of.ensures)
    c.value_given.ensures c.give_back.result
    (subst (λ o. IfSome o (λ next. GoesBack w.versions c.args.initializing.now p.frames.frames next)) c.in-Some.is c.goes_back.ensures)
    (off-by (mark_of w.versions c.args.here.version) off) c.give_back.ensures.answer c.give_back.ensures.frames
