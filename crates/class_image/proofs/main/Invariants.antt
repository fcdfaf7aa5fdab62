-- fewer words are left
use Rattle.std.proofs.Common.{length}
use Rattle.class_image.proofs.main.Given as goal

abbrev pub decreases-loop-left : goal.decreases-loop-left
decreases-loop-left l = length l.left
