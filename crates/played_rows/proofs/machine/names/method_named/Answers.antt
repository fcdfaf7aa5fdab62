use Rattle.played_rows.proofs.MachineLemmas.NameLemmas.{all-called}
use Rattle.played_rows.proofs.machine.names.method_named.Goals as goal

pub returns-clause-called : goal.returns-clause-called
returns-clause-called c = all-called c.args.program.now c.args.word.now c.method_found.result c.method_found.ensures
