use Rattle.std.proofs.Common.{sym, subst, refl}
use Rattle.jvm_model.specs.declared.program.Program.{Program}
use Rattle.call_revelation.specs.Reveals.{IsRevelation, now_of}
use Rattle.profile_session.specs.Images.{AreImageable}
use Rattle.profile_session.proofs.Swaps.SwappedClasses.{known-at, swapping-done, swapping-first, swapping-next}
use Rattle.profile_session.proofs.swapping.swap_all.Goals as goal

pub loop-class-init : goal.loop-class-init
loop-class-init c = swapping-first c.args.vm.now (now_of c.args.reveal.now) c.args.classes.now c.args.swaps.now c.requires.whole

pub swap_class-requires-clause-whole : goal.swap_class-requires-clause-whole
swap_class-requires-clause-whole c = c.loop-class.invariant.whole

pub swap_class-requires-clause-revelation : goal.swap_class-requires-clause-revelation
swap_class-requires-clause-revelation c = subst (λ (p : Program). IsRevelation p c.args.reveal.now) (sym c.loop-class.invariant.program) c.requires.revelation

pub swap_class-requires-clause-imageable : goal.swap_class-requires-clause-imageable
swap_class-requires-clause-imageable c = subst (λ (p : Program). AreImageable p) (sym c.loop-class.invariant.program) c.requires.imageable

pub swap_class-requires-clause-known : goal.swap_class-requires-clause-known
swap_class-requires-clause-known c =
    known-at c.args.vm.now.program c.loop-class.vm.program c.loop-class.invariant.program c.args.classes.now c.loop-class.class-index _ c.requires.known c.loop-class-test.true refl

pub loop-class-preserved : goal.loop-class-preserved
loop-class-preserved c =
    swapping-next c.args.vm.now (now_of c.args.reveal.now) c.args.classes.now c.loop-class.class-index c.loop-class.vm c.args.swaps.now c.loop-class.swaps c.loop-class.invariant
    c.loop-class-test.true c.swap_class.new.vm c.push.new.self _ c.in_ok-swap.swap refl c.in_ok-swap.ensures.vm c.in_ok-swap.ensures.swap c.in-Ok.ensures.items

pub returns : goal.returns
returns c =
    swapping-done c.args.vm.now (now_of c.args.reveal.now) c.args.classes.now c.loop-class.class-index c.loop-class.vm c.args.swaps.now c.loop-class.swaps c.loop-class.invariant
    c.loop-class-test.false
