use Rattle.std.proofs.lemmas.Bool.{false≢true}
use Rattle.jfluid_cli.proofs.Reports.Finished.{answered-words}
use Rattle.jfluid_cli.proofs.Reports.OnDevices.{answered-from}
use Rattle.jfluid_cli.proofs.top.answer_words.Goals as goal

pub returns-in-Err-clause-answered : goal.returns-in-Err-clause-answered
returns-in-Err-clause-answered g c = answered-from _ _ _ _ _ _ c.devices.view_is
    (answered-words _ _ _ _ c.in-Err.refusal c.tell.result c.status.result c.requires.empty
    c.in-Err.ensures.refused c.in-Err.ensures.nameless (λ e. absurd (false≢true e)) c.tell.ensures.which
    c.status.ensures c.tell.ensures.line)
