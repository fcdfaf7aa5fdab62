use Rattle.std.proofs.Common.{Some, sym, ap, ◌∙◌}
use Rattle.std.proofs.lemmas.Result.{on_ok_weaker}
use Rattle.jvm_model.specs.Instructions.LocalRules.{by_zero}
use Rattle.jvm_model.specs.declared.exception.Exception.TheVariants.{Arithmetic}
use Rattle.instructions.specs.Acts.{acts_alone}
use Rattle.activations.specs.Applied.{on_parts, raising}
use Rattle.prepared_code.specs.States.{state_in}
use Rattle.prepared_code.specs.Originals.{setup_in}
use Rattle.instructions.proofs.Attempts.Alone.{goes-next, goes-bad, goes-other, goes-throws}
use Rattle.activations.proofs.Callees.{came-to}
use Rattle.instructions.proofs.attempting.act_alone.Goals as goal

pub returns-in-Next-clause-state : goal.returns-in-Next-clause-state
returns-in-Next-clause-state c =
    goes-next (setup_in c.args.parts.now.runtime c.args.originals.now) c.args.line.now c.args.parts.now c.args.method c.basic_by-effect.new.frames c.requires.top
    (sym c.basic_by-effect.ensures.effect ∙ c.in-Next.is) c.basic_by-effect.ensures.frames

pub returns-in-Throws-clause-state : goal.returns-in-Throws-clause-state
returns-in-Throws-clause-state c =
    let w = setup_in c.args.parts.now.runtime c.args.originals.now in
    let p = c.args.parts.now in
    came-to c.raise_with.result c.raise_with.new.parts (raising w.world Arithmetic (Some by_zero) (record p { frames = c.basic_by-effect.new.frames })) (on_parts (acts_alone w c.args.line.now) p)
    (goes-throws w c.args.line.now p c.args.method c.in-Throws.field-0 c.basic_by-effect.new.frames c.requires.top
    (sym c.basic_by-effect.ensures.effect ∙ c.in-Throws.is) c.basic_by-effect.ensures.frames)
    c.raise_with.ensures.state

pub returns-in-Bad-clause-state : goal.returns-in-Bad-clause-state
returns-in-Bad-clause-state c =
    on_ok_weaker c.break_here.result
    (λ e. ap state_in e ∙ goes-bad (setup_in c.args.parts.now.runtime c.args.originals.now) c.args.line.now c.args.parts.now c.args.method c.basic_by-effect.new.frames c.requires.top
    (sym c.basic_by-effect.ensures.effect ∙ c.in-Bad.is) c.basic_by-effect.ensures.frames)
    c.break_here.ensures.state

pub returns-in-Other-clause-state : goal.returns-in-Other-clause-state
returns-in-Other-clause-state c =
    on_ok_weaker c.break_here-in-Other.result
    (λ e. ap state_in e ∙ goes-other (setup_in c.args.parts.now.runtime c.args.originals.now) c.args.line.now c.args.parts.now c.args.method c.basic_by-effect.new.frames c.requires.top
    (sym c.basic_by-effect.ensures.effect ∙ c.in-Other.is) c.basic_by-effect.ensures.frames)
    c.break_here-in-Other.ensures.state
