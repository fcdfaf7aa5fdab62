use Rattle.std.proofs.Common.{◌∙◌}
use Rattle.map_rows.proofs.NameLemmas.{stands_is}
use Rattle.map_rows.proofs.names.stands.Goals as goal

pub returns : goal.returns
returns c =
    stands_is c.contains.result c.args.list.now c.as_str.result.now c.args.name.now c.args.end.now
    (c.as_str.ensures.value ∙ c.in_ok-path.ensures) c.contains.ensures.cases
