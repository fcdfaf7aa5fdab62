use Rattle.std.proofs.Common.{sym, subst}
use Rattle.jvm_model.specs.Classes.Lookup.{superinterfaces}
use Rattle.class_index.specs.Orders.{IsSearchedAs}
use Rattle.class_linker.proofs.Walked.{superinterfaces_walked}
use Rattle.class_linker.proofs.loaded_classes.LoadedClasses.superinterfaces_of.Goals as goal

pub returns : goal.returns
returns c =
    subst (λ l. IsSearchedAs l (superinterfaces c.args.self.index.now c.args.class)) (sym c.superinterfaces_in.ensures)
    (superinterfaces_walked c.args.self.index.now c.args.self.rows.now c.args.self.of_program c.args.class c.requires)
