-- what is left of the classes decides, and where the search knows that nothing passes the method on, nothing does to
-- these
use Rattle.std.proofs.Common.{◌≡◌, true, false, drop}
use Rattle.jvm_model.specs.Classes.Lookup.{first_in}
use Rattle.jvm_model.specs.Classes.Selection.{candidate}
use Rattle.class_linker.specs.Passing.{AreUnpassed, IsChain}
use Rattle.class_linker.specs.DeclaredMethods.{at_place}
use Rattle.class_linker.specs.LoadedClasses.{holds_all}
use Rattle.class_linker.proofs.loaded_classes.LoadedClasses.first_candidate.Given as goal

abbrev pub invariant-loop-class : goal.invariant-loop-class
invariant-loop-class l = record {
  decides : first_in (candidate l.fn.self.index.now l.interface (at_place l.m)) (drop l.class-index l.classes)
      ≡ first_in (candidate l.fn.self.index.now l.interface (at_place l.m)) l.classes;
  rows : holds_all l.fn.self.rows.now (drop l.class-index l.classes) ≡ true;
  chain : IsChain l.fn.self.index.now (drop l.class-index l.classes);
  known : l.passing ≡ false → AreUnpassed l.fn.self.index.now (at_place l.m) (drop l.class-index l.classes);
}
