use Rattle.std.proofs.Common.{◌∙◌}
use Rattle.jvm_model.specs.Classes.Lookup.{supertypes}
use Rattle.jvm_model.specs.Classes.Selection.{passed_at}
use Rattle.class_linker.specs.DeclaredMethods.{at_place}
use Rattle.class_linker.proofs.Walked.{searched_any}
use Rattle.class_linker.proofs.loaded_classes.LoadedClasses.is_passed.Goals as goal

pub returns : goal.returns
returns c =
    c.passed_among.ensures
    ∙ searched_any (passed_at c.args.self.index.now (at_place c.args.m1) (at_place c.args.m2)) c.supertypes_of.result.now
    (supertypes c.args.self.index.now c.args.m1.class) c.supertypes_of.ensures.searched
