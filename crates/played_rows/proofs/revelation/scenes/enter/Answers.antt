use Rattle.std.proofs.Common.{◌≡◌, refl, true, subst, sym, arith}
use Rattle.class_linker.specs.Linkers.{LinkerView}
use Rattle.jvm_model.specs.Profiling.Points.{has_class}
use Rattle.call_revelation.specs.Reveals.{now_of}
use Rattle.played_rows.specs.declared.revelation.item.Happening.TheVariants.{Entered}
use Rattle.played_rows.specs.Revelation.Scenes.{HasHappened, IsReady}
use Rattle.played_rows.proofs.RevelationLemmas.HappeningLemmas.{class-first, entered-first, entered-next}
use Rattle.played_rows.proofs.revelation.scenes.enter.Goals as goal

pub enter_once-requires-clause-ready : goal.enter_once-requires-clause-ready
enter_once-requires-clause-ready g c =
    subst (λ (v : LinkerView). IsReady v c.loop.scene.reveal) (sym c.loop.invariant.linker) c.loop.invariant.entered.ready

pub enter_once-requires-clause-class : goal.enter_once-requires-clause-class
enter_once-requires-clause-class g c =
    subst (λ (v : LinkerView). has_class v.program (now_of c.loop.scene.reveal).loaded c.args.method ≡ true) (sym c.loop.invariant.linker)
    c.loop.invariant.class

pub loop-init : goal.loop-init
loop-init g c = record {
  entered = entered-first c.args.method c.args.scene.now.linker c.args.scene.now.reveal c.follow.new.reveal c.in_ok-follow.ensures;
  linker = refl;
  class = class-first c.args.method c.args.scene.now.linker c.args.scene.now.reveal c.follow.new.reveal c.in_ok-follow.ensures c.requires.class;
}

pub loop-preserved : goal.loop-preserved
loop-preserved g c = record {
  entered =
      entered-next c.args.method c.loop.counter c.args.scene.now.linker c.args.scene.now.reveal c.loop.scene.reveal c.enter_once.new.reveal c.loop.invariant.entered
      (subst (λ (v : LinkerView). HasHappened (Entered c.args.method 1) v c.loop.scene.reveal v c.enter_once.new.reveal) c.loop.invariant.linker
      c.in_ok-enter_once.ensures.entered);
  linker = c.loop.invariant.linker;
  class =
      subst (λ (v : LinkerView). has_class v.program (now_of c.enter_once.new.reveal).loaded c.args.method ≡ true) c.loop.invariant.linker
      c.in_ok-enter_once.ensures.class;
}

pub returns : goal.returns
returns g c =
    let first = c.args.scene.now in
    let end : c.loop.counter ≡ c.args.times = omega (arith, c.loop-test.false, c.loop.auto.counter-end) in
    subst (λ (v : LinkerView). HasHappened (Entered c.args.method c.args.times) first.linker first.reveal v c.loop.scene.reveal) (sym c.loop.invariant.linker)
    (subst (λ n. HasHappened (Entered c.args.method n) first.linker first.reveal first.linker c.loop.scene.reveal) end c.loop.invariant.entered)
