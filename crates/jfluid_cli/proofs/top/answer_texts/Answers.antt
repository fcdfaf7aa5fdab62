use Rattle.std.proofs.Common.{ap, refl, sym}
use Rattle.std.specs.Prelude.{Ok}
use Rattle.std.proofs.lemmas.Bool.{false≢true}
use Rattle.command_line.specs.Words.{read_in, texts}
use Rattle.jfluid_cli.proofs.Reports.Finished.{answered-run, answered-told, answered-words, called-line}
use Rattle.jfluid_cli.proofs.Reports.OnDevices.{answered-from, carried-on}
use Rattle.jfluid_cli.proofs.top.answer_texts.Goals as goal

pub returns-in-Err-clause-answered : goal.returns-in-Err-clause-answered
returns-in-Err-clause-answered g c = answered-from _ _ _ _ _ _ c.devices.view_is
    (answered-words _ _ _ _ c.in-Err.refusal c.tell.result c.status.result c.requires.empty
    c.in-Err.ensures.refused c.in-Err.ensures.nameless (λ e. absurd (false≢true e)) c.tell.ensures.which
    c.status.ensures c.tell.ensures.line)

pub returns-in-Ok-carry_out-clause-answered : goal.returns-in-Ok-carry_out-clause-answered
returns-in-Ok-carry_out-clause-answered g c = answered-run _ _ (λ e. false≢true e)
    (c.in-Ok-carry_out.ensures.carried (texts c.args.words.now) c.in-Ok.ensures.read)

pub returns-clause-answered : goal.returns-clause-answered
returns-clause-answered g c = answered-told _ _ c.in-Err-carry_out.refusal c.tell-2.result c.status-2.result _ (λ e. absurd (false≢true e))
    (carried-on (Ok (texts c.args.words.now)) _ _ _ _ _ _ refl (sym c.devices-2.view_is)
    (c.in-Err-carry_out.ensures.carried (texts c.args.words.now) c.in-Ok.ensures.read)) c.tell-2.ensures.which
    c.status-2.ensures
    (called-line (texts c.args.words.now) (read_in c.in-Ok.words) c.tell-2.result (texts c.deref.result.now)
    c.in-Ok.ensures.read (ap texts c.deref.ensures.value))
    c.tell-2.ensures.line
