use Rattle.plan_text.proofs.OneAnswer.{plan_read-one}
use Rattle.plan_text.proofs.lines.answer_is_one.Goals as goal

pub returns : goal.returns
returns c bytes a b first second = plan_read-one bytes a b first second
