use Rattle.std.proofs.Common.{◌∙◌}
use Rattle.call_revelation.proofs.Revelations.Marking.{mark-is}
use Rattle.call_revelation.proofs.reveal.Reveal.mark.Goals as goal

pub returns : goal.returns
returns c = λ is. c.mark_kept.ensures ∙ mark-is c.args.program.now c.args.self.now is c.args.method
