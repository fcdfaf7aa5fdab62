use Rattle.std.proofs.Common.{ap, ◌∙◌}
use Rattle.std.specs.List.{list_any}
use Rattle.jvm_model.specs.Basis.Descriptors.{same_text}
use Rattle.admit_check.proofs.NamesSeen.{any_seen}
use Rattle.admit_check.proofs.name_set.NameSet.has.Goals as goal

pub returns : goal.returns
returns c =
    c.contains.ensures ∙ (any_seen _ (same_text c.units.result.now) c.self.inside.names.keys
    ∙ (ap (list_any (same_text c.units.result.now)) c.self.view_is ∙ ap (λ name. list_any (same_text name) c.args.self.now) c.units.ensures))
