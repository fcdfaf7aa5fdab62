use Rattle.std.proofs.Common.{refl}
use Rattle.base_classes.specs.TextClasses.{text_classes}
use Rattle.base_classes.proofs.tables.texts.texts.Goals as goal

pub returns : goal.returns
unfolding text_classes
returns c = refl
