-- where the frame does not go on, nothing has changed
use Rattle.std.proofs.Common.{◌∙◌}
use Rattle.std.proofs.lemmas.Bool.{false≢true}
use Rattle.jvm_basic.specs.Rules.{rule_of}
use Rattle.jvm_basic.proofs.Exact.{kept-unless-next}
use Rattle.instructions.proofs.plain.pass_alone.Goals as goal

pub returns-in_default : goal.returns-in_default
returns-in_default c = record {
  gone = λ e. absurd (false≢true e);
  frames = c.basic_by-effect.ensures.frames;
  kept = λ stays. c.basic_by-effect.ensures.frames
      ∙ kept-unless-next (rule_of c.args.line.now.instr c.args.line.now.constant c.args.line.now.next) c.args.frames.now
      (λ e. c.in_default.not-Next (c.basic_by-effect.ensures.effect ∙ e));
}
