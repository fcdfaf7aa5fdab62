use Rattle.std.proofs.Common.{◌∙◌, ap}
use Rattle.jvm_model.specs.Classes.Load.{is_among}
use Rattle.class_linker.proofs.Walked.{subtype_walked}
use Rattle.class_linker.proofs.loaded_classes.LoadedClasses.each_supertype.Goals as goal

pub returns : goal.returns
returns c upper =
    ap (is_among upper) c.supertypes_in.ensures ∙ subtype_walked c.args.self.index.now c.args.self.rows.now c.args.self.of_program c.args.class upper c.requires
