use Rattle.call_revelation.proofs.Revelations.Grown.{grown-then}
use Rattle.call_revelation.proofs.Classes.InTurn.{loading-first, loading-next, next-above, next-all, next-fresh, next-linked}
use Rattle.call_revelation.proofs.reveal.Reveal.load_all.Goals as goal

pub loop-class-init : goal.loop-class-init
loop-class-init c =
    loading-first c.args.linker.now c.args.self.now c.args.classes.now c.requires.revelation c.requires.ahead c.requires.order c.requires.new

pub load_class-requires-clause-revelation : goal.load_class-requires-clause-revelation
load_class-requires-clause-revelation c = c.loop-class.invariant.revelation

pub load_class-requires-clause-ahead : goal.load_class-requires-clause-ahead
load_class-requires-clause-ahead c = c.loop-class.invariant.ahead

pub load_class-requires-clause-new : goal.load_class-requires-clause-new
load_class-requires-clause-new c =
    next-linked c.args.linker.now c.args.self.now c.loop-class.self c.args.classes.now c.loop-class.class-index c.loop-class-test.true c.loop-class.invariant

pub load_class-requires-clause-fresh : goal.load_class-requires-clause-fresh
load_class-requires-clause-fresh c =
    next-fresh c.args.linker.now c.args.self.now c.loop-class.self c.args.classes.now c.loop-class.class-index c.loop-class-test.true c.loop-class.invariant

pub load_class-requires-clause-above : goal.load_class-requires-clause-above
load_class-requires-clause-above c =
    next-above c.args.linker.now c.args.self.now c.loop-class.self c.args.classes.now c.loop-class.class-index c.loop-class-test.true c.loop-class.invariant

pub load_class-requires-clause-next : goal.load_class-requires-clause-next
load_class-requires-clause-next c =
    next-all c.args.linker.now c.args.self.now c.loop-class.self c.args.classes.now c.loop-class.class-index c.loop-class-test.true c.loop-class.invariant

pub returns-in_err-load_class-clause-grown : goal.returns-in_err-load_class-clause-grown
returns-in_err-load_class-clause-grown c =
    grown-then c.args.linker.now.program c.args.self.now c.loop-class.self c.load_class.new.self c.loop-class.invariant.grown c.load_class.ensures.grown

pub loop-class-preserved : goal.loop-class-preserved
loop-class-preserved c =
    loading-next c.args.linker.now c.args.self.now c.loop-class.self c.args.classes.now c.loop-class.class-index c.loop-class-test.true c.loop-class.invariant
    c.load_class.new.self c.load_class.ensures.grown c.in_ok-load_class.ensures.loaded c.in_ok-load_class.ensures.revelation
