-- Admission answers what is said of generated classes.
use Rattle.generated_programs.proofs.Answered.{admitted-so, few-classes, refused-so}
use Rattle.generated_programs.proofs.admitting.admit_classes.Goals as goal

pub admit-requires-clause-count : goal.admit-requires-clause-count
admit-requires-clause-count c = few-classes c.args.seed c.args.size c.args.classes c.requires.most c.requires.classes

pub returns-clause-admitted : goal.returns-clause-admitted
returns-clause-admitted c =
    admitted-so c.args.seed c.args.size c.args.plan.now _ _ c.requires.some c.requires.most c.requires.classes c.in_ok-main.ensures c.admit.result c.admit.ensures.admitted

pub returns-clause-refused : goal.returns-clause-refused
returns-clause-refused c =
    refused-so c.args.seed c.args.size c.args.plan.now _ _ c.requires.some c.requires.most c.requires.classes c.in_ok-main.ensures c.admit.result c.admit.ensures.admitted
