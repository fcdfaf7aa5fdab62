use Rattle.std.proofs.Common.{ap, ◌∙◌}
use Rattle.std.specs.Prelude.{map}
use Rattle.admit_check.proofs.NamesSeen.{key_seen}
use Rattle.admit_check.proofs.name_set.NameSet.add.Goals as goal

pub returns-clause-added : goal.returns-clause-added
returns-clause-added c =
    ap (map _) c.in_ok-insert.ensures.keys
    ∙ key_seen _ c.self.inside.names.keys c.in_ok-units.units c.args.self.now c.args.name.now (c.in_ok-units.ensures.items ∙ c.units.ensures) c.self.view_is
