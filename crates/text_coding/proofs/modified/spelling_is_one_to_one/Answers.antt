use Rattle.text_coding.proofs.SpellingLemmas.{spelling_same}
use Rattle.text_coding.proofs.modified.spelling_is_one_to_one.Goals as goal

pub returns : goal.returns
returns c = spelling_same
