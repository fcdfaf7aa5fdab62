-- what is left of the classes decides
use Rattle.std.proofs.Common.{◌≡◌, true, drop}
use Rattle.std.specs.List.{list_any}
use Rattle.jvm_model.specs.Classes.Selection.{passed_at}
use Rattle.class_linker.specs.DeclaredMethods.{at_place}
use Rattle.class_linker.specs.LoadedClasses.{holds_all}
use Rattle.class_linker.proofs.loaded_classes.LoadedClasses.passed_among.Given as goal

abbrev pub invariant-loop-class : goal.invariant-loop-class
invariant-loop-class l =
    (list_any (passed_at l.fn.self.index.now (at_place l.m1) (at_place l.m2)) (drop l.class-index l.classes)
    ≡ list_any (passed_at l.fn.self.index.now (at_place l.m1) (at_place l.m2)) l.classes)
    × (holds_all l.fn.self.rows.now (drop l.class-index l.classes) ≡ true)
