use Rattle.std.proofs.Common.{◌≡◌, drop}
use Rattle.native_effects.specs.Inputs.MadeViews.{object_of_box}
use Rattle.native_effects.proofs.effects.made.object_of_box.Given as goal

abbrev pub invariant-loop-made : goal.invariant-loop-made
invariant-loop-made l = object_of_box l.fn.kind l.fn.place (drop l.made-index l.boxes) ≡ object_of_box l.fn.kind l.fn.place l.boxes
