use Rattle.class_reader.proofs.Decoded.{first_bad-decoded}
use Rattle.class_reader.proofs.TextAnswers.{text_found}
use Rattle.class_reader.proofs.constants.decode.Goals as goal

pub returns-clause-text : goal.returns-clause-text
returns-clause-text c = text_found c.args.bytes.now c.from_modified.result c.from_modified.ensures.found

pub returns-clause-bad : goal.returns-clause-bad
returns-clause-bad c = λ at e. first_bad-decoded c.args.bytes.now at (c.from_modified.ensures.refused at e)

pub returns-clause-within : goal.returns-clause-within
returns-clause-within c = λ at e. let bad = c.from_modified.ensures.refused at e in bad.within
