use Rattle.worked_rows.proofs.Told.{has_words}
use Rattle.worked_rows.proofs.given.read_given.Goals as goal

pub returns-clause-words : goal.returns-clause-words
returns-clause-words g c =
    has_words (g.F.Files.contents c.args.files.now) c.args.row.now c.in_ok-args.args.items c.deref.result.now _ _ c.in_ok-args.ensures.found (cc) c.in_ok-words_of.ensures (cc)
