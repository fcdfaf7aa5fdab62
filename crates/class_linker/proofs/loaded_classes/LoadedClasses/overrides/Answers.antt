use Rattle.std.proofs.Common.{◌∙◌, sym}
use Rattle.class_linker.specs.DeclaredMethods.{at_place}
use Rattle.class_linker.proofs.OverridingTest.{related, tested}
use Rattle.class_linker.proofs.loaded_classes.LoadedClasses.overrides.Goals as goal

pub returns-clause-relation : goal.returns-clause-relation
returns-clause-relation c = (
  λ h. tested c.args.self.index.now (at_place c.args.m1) (at_place c.args.m2) (sym c.passes_test.ensures ∙ h),
  λ o. c.passes_test.ensures ∙ related c.args.self.index.now c.args.self.rows.now c.args.self.of_program (at_place c.args.m1) (at_place c.args.m2) o c.requires,
)
