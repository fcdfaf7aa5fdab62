use Rattle.std.proofs.Common.{◌∙◌}
use Rattle.base_classes.proofs.NameLemmas.{is_among}
use Rattle.base_classes.proofs.names.is_built_in.Goals as goal

pub returns : goal.returns
returns c = c.is_some.ensures ∙ is_among c.args.name.now c.position_of.result c.position_of.ensures.found c.position_of.ensures.only
