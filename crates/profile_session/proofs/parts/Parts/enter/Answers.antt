use Rattle.std.proofs.Common.{◌<◌, ◌∙◌, sym, subst, refl, length}
use Rattle.jvm_model.specs.Profiling.Revealed.{with_method_entered}
use Rattle.jvm_model.specs.Soundness.Sound.{HasClass}
use Rattle.class_linker.specs.Linkers.{LinkerView}
use Rattle.call_revelation.specs.Reveals.{IsRevelation}
use Rattle.profile_session.specs.Parts.{revealed_in}
use Rattle.profile_session.proofs.Points.Points.{ahead-of, class-loaded, fit-of, linked, method-within, point-of, reveals-linked, showable-of}
use Rattle.profile_session.proofs.Points.Unchanged.{point-itself}
use Rattle.profile_session.proofs.parts.Parts.enter.Goals as goal

pub entered-requires-clause-revelation : goal.entered-requires-clause-revelation
entered-requires-clause-revelation c =
    subst (λ (l : LinkerView). IsRevelation l.program c.args.self.now.reveal) (sym (linked c.linker.result.now c.args.self.now.vm c.linker.ensures.program (c.linker.ensures.loaded c.requires.fit.whole))) c.requires.fit.revelation

pub entered-requires-clause-ahead : goal.entered-requires-clause-ahead
entered-requires-clause-ahead c =
    let x = c.args.self.now in
    ahead-of x c.linker.result.now c.requires.fit (linked c.linker.result.now c.args.self.now.vm c.linker.ensures.program (c.linker.ensures.loaded c.requires.fit.whole)) c.requires.prefix

pub entered-requires-clause-method : goal.entered-requires-clause-method
entered-requires-clause-method c =
    let x = c.args.self.now in
    subst (λ (l : LinkerView). c.args.method < length l.program.methods) (sym (linked c.linker.result.now c.args.self.now.vm c.linker.ensures.program (c.linker.ensures.loaded c.requires.fit.whole))) (method-within x.vm.program x.reveal.lineage.loaded c.args.method c.requires.class)

pub entered-requires-clause-class : goal.entered-requires-clause-class
entered-requires-clause-class c =
    let x = c.args.self.now in
    subst (λ (l : LinkerView). HasClass l.program x.reveal.lineage.loaded c.args.method) (sym (linked c.linker.result.now c.args.self.now.vm c.linker.ensures.program (c.linker.ensures.loaded c.requires.fit.whole)))
    (class-loaded x.vm.program x.reveal.lineage.loaded c.args.method c.requires.class)

pub show-requires-clause-fit : goal.show-requires-clause-fit
show-requires-clause-fit c =
    let x = c.args.self.now in
    let r = with_method_entered c.args.method (revealed_in x) in
    fit-of x c.entered.new.self r c.requires.fit
    (reveals-linked x c.entered.new.self c.linker.result.now r (linked c.linker.result.now c.args.self.now.vm c.linker.ensures.program (c.linker.ensures.loaded c.requires.fit.whole)) c.in_ok-entered.ensures.revelation c.in_ok-entered.ensures.now c.in_ok-entered.ensures.shown refl)

pub show-requires-clause-showable : goal.show-requires-clause-showable
show-requires-clause-showable c =
    let x = c.args.self.now in
    let r = with_method_entered c.args.method (revealed_in x) in
    showable-of x c.entered.new.self r c.requires.shown
    (reveals-linked x c.entered.new.self c.linker.result.now r (linked c.linker.result.now c.args.self.now.vm c.linker.ensures.program (c.linker.ensures.loaded c.requires.fit.whole)) c.in_ok-entered.ensures.revelation c.in_ok-entered.ensures.now c.in_ok-entered.ensures.shown refl)

pub returns : goal.returns
returns c =
    let x = c.args.self.now in
    let r = with_method_entered c.args.method (revealed_in x) in
    point-of x c.show.new.self c.entered.new.self r c.requires.shown
    (reveals-linked x c.entered.new.self c.linker.result.now r (linked c.linker.result.now c.args.self.now.vm c.linker.ensures.program (c.linker.ensures.loaded c.requires.fit.whole)) c.in_ok-entered.ensures.revelation c.in_ok-entered.ensures.now c.in_ok-entered.ensures.shown refl)
    c.in_ok-show.ensures

pub returns-then-is_entered : goal.returns-then-is_entered
returns-then-is_entered c =
    let x = c.args.self.now in
    point-itself x c.args.method c.requires.fit c.requires.shown
    (sym (c.requires.fit.revelation.kept.flags c.args.method) ∙ (sym c.is_entered.ensures ∙ c.if-is_entered.true))
