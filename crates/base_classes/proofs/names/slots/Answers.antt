use Rattle.std.proofs.Common.{refl}
use Rattle.base_classes.proofs.names.slots.Goals as goal

pub returns : goal.returns
returns c = refl
