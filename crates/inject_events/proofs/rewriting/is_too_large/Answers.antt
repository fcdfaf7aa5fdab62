-- what is left for the attributes
use Rattle.inject_events.proofs.Tabling.{too_large-found}
use Rattle.inject_events.proofs.rewriting.is_too_large.Goals as goal

pub returns : goal.returns
returns c = too_large-found c.args.code.now c.as_slice.result.now c.len.result c.len-2.result c.raws_fit.result c.as_slice.ensures c.len.ensures c.len-2.ensures c.requires.code c.requires.handlers c.raws_fit.ensures
