use Rattle.std.proofs.Common.{sym, subst, []}
use Rattle.jvm_model.specs.Profiling.Revealed.{with_loaded}
use Rattle.jvm_model.specs.Profiling.Revelation.{IsLoadOrder}
use Rattle.class_linker.specs.Linkers.{LinkerView}
use Rattle.possible_callees.specs.Tables.{IsPrefix}
use Rattle.call_revelation.specs.Reveals.{IsRevelation}
use Rattle.profile_session.specs.Parts.{loaded_in, revealed_in}
use Rattle.profile_session.proofs.Points.Points.{ahead-of, fit-of, linked, point-of, reveals-loads, showable-of}
use Rattle.profile_session.proofs.parts.Parts.load.Goals as goal

pub loaded-requires-clause-revelation : goal.loaded-requires-clause-revelation
loaded-requires-clause-revelation c =
    subst (λ (l : LinkerView). IsRevelation l.program c.args.self.now.reveal) (sym (linked c.linker.result.now c.args.self.now.vm c.linker.ensures.program (c.linker.ensures.loaded c.requires.fit.whole))) c.requires.fit.revelation

pub loaded-requires-clause-ahead : goal.loaded-requires-clause-ahead
loaded-requires-clause-ahead c = ahead-of c.args.self.now c.linker.result.now c.requires.fit (linked c.linker.result.now c.args.self.now.vm c.linker.ensures.program (c.linker.ensures.loaded c.requires.fit.whole)) c.requires.loadable.prefix

pub loaded-requires-clause-prefix : goal.loaded-requires-clause-prefix
loaded-requires-clause-prefix c =
    subst (λ (l : LinkerView). IsPrefix c.args.self.now.reveal.lineage.loaded l.loaded) (sym (linked c.linker.result.now c.args.self.now.vm c.linker.ensures.program (c.linker.ensures.loaded c.requires.fit.whole))) c.requires.loadable.prefix

pub loaded-requires-clause-order : goal.loaded-requires-clause-order
loaded-requires-clause-order c = subst (λ (l : LinkerView). IsLoadOrder l.program [] l.loaded) (sym (linked c.linker.result.now c.args.self.now.vm c.linker.ensures.program (c.linker.ensures.loaded c.requires.fit.whole))) c.requires.loadable.order

pub show-requires-clause-fit : goal.show-requires-clause-fit
show-requires-clause-fit c =
    let x = c.args.self.now in
    fit-of x c.loaded.new.self (with_loaded (loaded_in x) (revealed_in x)) c.requires.fit
    (reveals-loads x c.loaded.new.self c.linker.result.now (linked c.linker.result.now c.args.self.now.vm c.linker.ensures.program (c.linker.ensures.loaded c.requires.fit.whole)) c.requires.loadable c.in_ok-loaded.ensures.revelation c.in_ok-loaded.ensures.now
    c.in_ok-loaded.ensures.shown)

pub show-requires-clause-showable : goal.show-requires-clause-showable
show-requires-clause-showable c =
    let x = c.args.self.now in
    showable-of x c.loaded.new.self (with_loaded (loaded_in x) (revealed_in x)) c.requires.shown
    (reveals-loads x c.loaded.new.self c.linker.result.now (linked c.linker.result.now c.args.self.now.vm c.linker.ensures.program (c.linker.ensures.loaded c.requires.fit.whole)) c.requires.loadable c.in_ok-loaded.ensures.revelation c.in_ok-loaded.ensures.now
    c.in_ok-loaded.ensures.shown)

pub returns : goal.returns
returns c =
    let x = c.args.self.now in
    point-of x c.show.new.self c.loaded.new.self (with_loaded (loaded_in x) (revealed_in x)) c.requires.shown
    (reveals-loads x c.loaded.new.self c.linker.result.now (linked c.linker.result.now c.args.self.now.vm c.linker.ensures.program (c.linker.ensures.loaded c.requires.fit.whole)) c.requires.loadable c.in_ok-loaded.ensures.revelation c.in_ok-loaded.ensures.now
    c.in_ok-loaded.ensures.shown) c.in_ok-show.ensures
