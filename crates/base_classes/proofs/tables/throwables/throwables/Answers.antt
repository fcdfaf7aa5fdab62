use Rattle.std.proofs.Common.{refl}
use Rattle.base_classes.specs.ThrowableClasses.{throwable_classes}
use Rattle.base_classes.proofs.tables.throwables.throwables.Goals as goal

pub returns : goal.returns
unfolding throwable_classes
returns c = refl
