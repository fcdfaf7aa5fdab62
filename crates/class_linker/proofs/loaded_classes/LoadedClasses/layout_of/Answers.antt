use Rattle.std.proofs.Common.{◌∙◌}
use Rattle.class_linker.proofs.Walked.{layout_walked}
use Rattle.class_linker.proofs.loaded_classes.LoadedClasses.layout_of.Goals as goal

pub returns : goal.returns
returns c = c.layout_in.ensures ∙ layout_walked c.args.self.index.now c.args.self.rows.now c.args.self.of_program c.args.class c.requires
