use Rattle.std.proofs.Common.{◌≡◌, ap, sym, subst, ◌∙◌, arith, length}
use Rattle.std.specs.List.{AllByRecursion}
use Rattle.jvm_model.specs.Basis.Programs.{methods_numbered}
use Rattle.jvm_model.specs.Profiling.Revealed.{marks_of}
use Rattle.jvm_model.specs.Soundness.Sound.{IsFit}
use Rattle.prepared_code.specs.Prepared.{HasShortCodes}
use Rattle.call_revelation.specs.Reveals.{IsRevelation, now_of}
use Rattle.jvm_model.specs.declared.program.Program.{Program}
use Rattle.profile_session.proofs.Sessions.FirstParts.{ahead-first, first-of, front-first, order-first}
use Rattle.profile_session.proofs.Points.Points.{linked}
use Rattle.profile_session.proofs.beginning.reveal_first.Goals as goal

pub new-requires-clause-numbered : goal.new-requires-clause-numbered
new-requires-clause-numbered c = subst (λ (p : Program). p.methods ≡ methods_numbered p.classes) (sym c.program.ensures) c.requires.profilable.imageable.numbered_are

pub new-requires-clause-few : goal.new-requires-clause-few
new-requires-clause-few c =
    let few = c.requires.profilable.imageable.few in
    let same = ap (λ (p : Program). length p.methods) c.program.ensures in
    omega (arith, few, same)

pub new-requires-clause-short : goal.new-requires-clause-short
new-requires-clause-short c = subst (λ (p : Program). AllByRecursion HasShortCodes p.classes) (sym c.program.ensures) c.requires.profilable.short

pub new-requires-clause-fit : goal.new-requires-clause-fit
new-requires-clause-fit c = subst (λ (p : Program). IsFit p) (sym c.program.ensures) c.requires.profilable.whole.fit

pub loaded-requires-clause-revelation : goal.loaded-requires-clause-revelation
loaded-requires-clause-revelation c =
    subst (λ (p : Program). IsRevelation p c.in_ok-reveal.reveal) (c.program.ensures ∙ sym c.linker.ensures.program) c.in_ok-reveal.ensures.revelation

pub loaded-requires-clause-ahead : goal.loaded-requires-clause-ahead
loaded-requires-clause-ahead c =
    let v = c.args.vm.now in
    ahead-first v c.linker.result.now c.in_ok-reveal.reveal c.requires.profilable.whole (linked c.linker.result.now v c.linker.ensures.program (c.linker.ensures.loaded c.requires.whole)) c.requires.before_the_run
    c.in_ok-reveal.ensures.now

pub loaded-requires-clause-prefix : goal.loaded-requires-clause-prefix
loaded-requires-clause-prefix c = front-first c.linker.result.now.loaded c.in_ok-reveal.reveal c.in_ok-reveal.ensures.now

pub loaded-requires-clause-order : goal.loaded-requires-clause-order
loaded-requires-clause-order c =
    let v = c.args.vm.now in
    order-first v c.linker.result.now c.requires.profilable.whole (linked c.linker.result.now v c.linker.ensures.program (c.linker.ensures.loaded c.requires.whole)) c.requires.before_the_run

pub show-requires : goal.show-requires
show-requires c =
    subst (λ (p : Program). IsRevelation p c.loaded.new.self) (c.linker.ensures.program ∙ sym c.program-2.ensures) c.in_ok-loaded.ensures.revelation

pub returns : goal.returns
returns c =
    let v = c.args.vm.now in
    let same = c.program-2.ensures in
    first-of v c.in_ok-reveal.reveal c.loaded.new.self c.show.new.self c.linker.result.now (linked c.linker.result.now v c.linker.ensures.program (c.linker.ensures.loaded c.requires.whole))
    c.requires.before_the_run c.in_ok-reveal.ensures.now c.in_ok-loaded.ensures.now (subst (λ (p : Program). IsRevelation p c.show.new.self) same c.show.ensures.revelation)
    c.show.ensures.now (c.show.ensures.shown ∙ ap (λ (p : Program). marks_of p (now_of c.loaded.new.self)) same)
