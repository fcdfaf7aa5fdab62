-- the rule of its family is the instruction's
use Rattle.std.proofs.Common.{◌∙◌, ap}
use Rattle.jvm_model.specs.Basis.Families.{family_of}
use Rattle.jvm_basic.specs.Outcomes.{effect_of, after}
use Rattle.jvm_basic.specs.Rules.{does}
use Rattle.jvm_basic.proofs.PlacedOutcomes.{effect-is, after-is}
use Rattle.jvm_basic.proofs.instruction.basic_by.Goals as goal

pub returns-clause-effect : goal.returns-clause-effect
returns-clause-effect c =
    c.do_family.ensures.effect ∙ ap (λ f. effect_of (does f c.args.instr.now.arg c.args.constant c.args.next) c.args.frames.now) c.requires
    ∙ effect-is (family_of c.args.instr.now.op) c.args.instr.now.arg c.args.constant c.args.next c.args.frames.now

pub returns-clause-frames : goal.returns-clause-frames
returns-clause-frames c =
    c.do_family.ensures.frames ∙ ap (λ f. after (does f c.args.instr.now.arg c.args.constant c.args.next) c.args.frames.now) c.requires
    ∙ after-is (family_of c.args.instr.now.op) c.args.instr.now.arg c.args.constant c.args.next c.args.frames.now
