use Rattle.std.proofs.Common.{◌≡◌, drop}
use Rattle.class_linker.specs.LoadedClasses.{with_supertypes}
use Rattle.class_linker.proofs.loaded_classes.add_supertypes.Given as goal

abbrev pub invariant-loop-class : goal.invariant-loop-class
invariant-loop-class l = with_supertypes l.rows l.order (drop l.class-index l.classes) ≡ with_supertypes l.rows l.initial.order l.classes
