use Rattle.std.proofs.Common.{◌≡◌, drop}
use Rattle.class_linker.specs.LoadedClasses.{with_interfaces}
use Rattle.class_linker.proofs.loaded_classes.add_interfaces.Given as goal

abbrev pub invariant-loop-class : goal.invariant-loop-class
invariant-loop-class l = with_interfaces l.rows l.order (drop l.class-index l.classes) ≡ with_interfaces l.rows l.initial.order l.classes
