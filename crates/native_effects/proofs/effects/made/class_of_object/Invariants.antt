use Rattle.std.proofs.Common.{◌≡◌, drop}
use Rattle.native_effects.specs.Inputs.MadeViews.{class_of_object}
use Rattle.native_effects.proofs.effects.made.class_of_object.Given as goal

abbrev pub invariant-loop-class : goal.invariant-loop-class
invariant-loop-class l = class_of_object l.fn.object (drop l.class-index l.classes) ≡ class_of_object l.fn.object l.classes
