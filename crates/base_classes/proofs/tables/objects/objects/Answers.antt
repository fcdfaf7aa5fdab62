use Rattle.std.proofs.Common.{refl}
use Rattle.base_classes.specs.ObjectClasses.{object_classes}
use Rattle.base_classes.proofs.tables.objects.objects.Goals as goal

pub returns : goal.returns
unfolding object_classes
returns c = refl
