use Rattle.admit_check.proofs.Sound.{answers-given, sound-answers}
use Rattle.admit_check.proofs.admission.admit.Goals as goal

pub returns-in-Ok-clause-admitted : goal.returns-in-Ok-clause-admitted
returns-in-Ok-clause-admitted c =
    answers-given c.admit_over.result c.args.classes c.in-Ok.built_in.items c.args.main.now c.args.plan.now c.in-Ok.ensures.made c.admit_over.ensures

pub returns-in-Ok-clause-sound : goal.returns-in-Ok-clause-sound
returns-in-Ok-clause-sound c =
    sound-answers c.admit_over.result c.args.classes c.args.main.now c.args.plan.now c.requires.formed c.requires.count c.requires.heap
    (answers-given c.admit_over.result c.args.classes c.in-Ok.built_in.items c.args.main.now c.args.plan.now c.in-Ok.ensures.made c.admit_over.ensures)
