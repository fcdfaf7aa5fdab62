use Rattle.std.proofs.Common.{sym, ap, ◌∙◌}
use Rattle.std.proofs.lemmas.Bool.{false≢true}
use Rattle.std.proofs.lemmas.Result.{on_ok_weaker}
use Rattle.jvm_model.specs.declared.instruction.Operation.TheVariants.{Within}
use Rattle.prepared_code.specs.Originals.{setup_in}
use Rattle.prepared_lines.specs.declared.line.LocalAction.TheVariants.{Return}
use Rattle.instructions.proofs.Initializing.Beneath.{does-beneath, ends-beneath, within-unless}
use Rattle.instructions.proofs.Initializing.Carried.{goes_within}
use Rattle.instructions.proofs.attempting.act_initializer.Goals as goal

pub returns-in-Return-clause-state : goal.returns-in-Return-clause-state
returns-in-Return-clause-state c =
    ends-beneath (setup_in c.args.parts.now.runtime c.args.originals.now) c.args.line.now c.args.initializing.now c.args.parts.now c.end_initializer.new.parts c.args.method c.in-Return.kind (c.in-Within.is ∙ ap Within c.in-Return.is)
    c.args.parts.now.frames.frames c.requires.top c.requires.beneath c.end_initializer.ensures.state

pub returns-in-Basic-clause-state : goal.returns-in-Basic-clause-state
returns-in-Basic-clause-state c =
    on_ok_weaker c.act.result
    (λ e. does-beneath (setup_in c.args.parts.now.runtime c.args.originals.now) c.args.line.now c.args.initializing.now c.args.parts.now c.act.new.parts c.args.method c.args.parts.now.frames.frames c.requires.top
    c.requires.executing c.requires.alone (λ ends. absurd (false≢true (sym ends ∙ ap goes_within (c.in-Within.is ∙ ap Within c.in-Basic.is)))) e)
    c.act.ensures.state

pub returns-in_default-clause-state : goal.returns-in_default-clause-state
returns-in_default-clause-state c =
    on_ok_weaker c.act-in_default.result
    (λ e. does-beneath (setup_in c.args.parts.now.runtime c.args.originals.now) c.args.line.now c.args.initializing.now c.args.parts.now c.act-in_default.new.parts c.args.method c.args.parts.now.frames.frames c.requires.top
    c.requires.executing c.requires.alone (λ ends. absurd (within-unless c.args.line.now.operation (λ k e. c.in_default.not-Within (Return k) e) ends)) e)
    c.act-in_default.ensures.state
