use Rattle.std.proofs.Common.{refl}
use Rattle.base_classes.specs.BuiltInClasses.{built_in_classes}
use Rattle.base_classes.specs.ObjectClasses.{object_classes}
use Rattle.base_classes.specs.TextClasses.{text_classes}
use Rattle.base_classes.specs.StreamClasses.{stream_classes}
use Rattle.base_classes.specs.ValueClasses.{value_classes}
use Rattle.base_classes.specs.ThrowableClasses.{throwable_classes}
use Rattle.base_classes.specs.Natives.{native_starts}
use Rattle.base_classes.proofs.natives.starts.Goals as goal

pub returns : goal.returns
unfolding native_starts built_in_classes object_classes text_classes stream_classes value_classes throwable_classes
returns c = refl
