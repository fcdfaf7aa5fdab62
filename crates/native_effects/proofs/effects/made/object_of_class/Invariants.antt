use Rattle.std.proofs.Common.{◌≡◌, drop}
use Rattle.native_effects.specs.Inputs.MadeViews.{object_of_class}
use Rattle.native_effects.proofs.effects.made.object_of_class.Given as goal

abbrev pub invariant-loop-class : goal.invariant-loop-class
invariant-loop-class l = object_of_class l.fn.kind (drop l.class-index l.classes) ≡ object_of_class l.fn.kind l.classes
