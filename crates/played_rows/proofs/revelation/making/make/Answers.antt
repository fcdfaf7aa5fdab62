use Rattle.std.proofs.Common.{map}
use Rattle.played_rows.proofs.RevelationLemmas.JudgingLemmas.{program-made, program-unmade}
use Rattle.played_rows.proofs.revelation.making.make.Goals as goal

pub returns-in-Ok-clause-program : goal.returns-in-Ok-clause-program
returns-in-Ok-clause-program c =
    program-made (map (λ f. f.items) c.args.files.now) c.in-Ok.classes c.program_of.result c.in-Ok.ensures.read c.program_of.ensures.program

pub returns-in-Ok-clause-unmade : goal.returns-in-Ok-clause-unmade
returns-in-Ok-clause-unmade c =
    program-unmade (map (λ f. f.items) c.args.files.now) c.in-Ok.classes c.program_of.result c.in-Ok.ensures.read c.program_of.ensures.refused
