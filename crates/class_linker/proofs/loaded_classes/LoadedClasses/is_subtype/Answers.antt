use Rattle.std.proofs.Common.{◌∙◌}
use Rattle.class_linker.proofs.Walked.{subtype_walked}
use Rattle.class_linker.proofs.loaded_classes.LoadedClasses.is_subtype.Goals as goal

pub returns : goal.returns
returns c =
    c.has_supertype.ensures ∙ subtype_walked c.args.self.index.now c.args.self.rows.now c.args.self.of_program c.args.lower c.args.upper c.requires
