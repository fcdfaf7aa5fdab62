use Rattle.played_rows.proofs.MachineLemmas.NumberLemmas.{no-number, number-read}
use Rattle.played_rows.proofs.machine.words.number_of_64_bits.Goals as goal

pub returns-in-Ok : goal.returns-in-Ok
returns-in-Ok c = number-read 64 c.args.word.now c.in-Ok.number c.in-Ok.ensures.value.0

pub returns-in-Err : goal.returns-in-Err
returns-in-Err c = no-number 64 c.args.word.now c.in-Err.ensures.value.0
