use Rattle.std.proofs.Common.{refl}
use Rattle.base_classes.specs.StreamClasses.{stream_classes}
use Rattle.base_classes.proofs.tables.streams.streams.Goals as goal

pub returns : goal.returns
unfolding stream_classes
returns c = refl
