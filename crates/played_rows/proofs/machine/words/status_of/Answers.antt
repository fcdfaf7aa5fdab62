use Rattle.played_rows.proofs.MachineLemmas.NumberLemmas.{no-status, status-read}
use Rattle.played_rows.proofs.machine.words.status_of.Goals as goal

pub returns-in-Ok : goal.returns-in-Ok
returns-in-Ok c = status-read c.args.word.now c.in-Ok.number c.in-Ok.ensures.value.0

pub returns-in-Err : goal.returns-in-Err
returns-in-Err c = no-status c.args.word.now c.in-Err.ensures.value.0
