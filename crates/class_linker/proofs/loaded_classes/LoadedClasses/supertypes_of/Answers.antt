use Rattle.std.proofs.Common.{◌∙◌, ap, sym, subst}
use Rattle.jvm_model.specs.Classes.Lookup.{supertypes}
use Rattle.class_index.specs.Orders.{IsSearchedAs}
use Rattle.class_linker.specs.LoadedClasses.{holds_all}
use Rattle.class_linker.proofs.Walked.{supertypes_rows, supertypes_walked}
use Rattle.class_linker.proofs.loaded_classes.LoadedClasses.supertypes_of.Goals as goal

pub returns-clause-searched : goal.returns-clause-searched
returns-clause-searched c =
    subst (λ l. IsSearchedAs l (supertypes c.args.self.index.now c.args.class)) (sym c.supertypes_in.ensures)
    (supertypes_walked c.args.self.index.now c.args.self.rows.now c.args.self.of_program c.args.class c.requires)

pub returns-clause-rows : goal.returns-clause-rows
returns-clause-rows c =
    ap (holds_all c.args.self.rows.now) c.supertypes_in.ensures
    ∙ supertypes_rows c.args.self.index.now c.args.self.rows.now c.args.self.of_program c.args.class c.requires
