use Rattle.std.proofs.Common.{refl}
use Rattle.base_classes.specs.ValueClasses.{value_classes}
use Rattle.base_classes.proofs.tables.values.values.Goals as goal

pub returns : goal.returns
unfolding value_classes
returns c = refl
