use Rattle.std.proofs.Common.{ap, ◌∙◌}
use Rattle.std.specs.Option.{option_copied}
use Rattle.base_classes.specs.RowViews.{class_view}
use Rattle.base_classes.proofs.NameLemmas.{name_found, name_missed}
use Rattle.base_classes.proofs.names.built_in_name.Goals as goal

pub returns-in_err-row : goal.returns-in_err-row
returns-in_err-row c = ap option_copied c.from_residual.ensures ∙ name_missed c.args.place c.in_err-row.ensures

pub returns : goal.returns
returns c = name_found c.args.place (class_view c.in_ok-row.row.now) c.in_ok-row.ensures
