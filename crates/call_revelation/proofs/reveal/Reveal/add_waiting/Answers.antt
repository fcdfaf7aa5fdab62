use Rattle.std.proofs.Common.{subst, sym}
use Rattle.std.specs.Prelude.{OnOk}
use Rattle.jvm_model.specs.Profiling.Targets.{begun_by}
use Rattle.possible_callees.specs.Tables.{Adds}
use Rattle.possible_callees.proofs.Numbers.Adding.{adds-nothing}
use Rattle.call_revelation.proofs.References.Callers.{loaded-caller}
use Rattle.call_revelation.proofs.reveal.Reveal.add_waiting.Goals as goal

pub add_begun-requires-clause-caller : goal.add_begun-requires-clause-caller
add_begun-requires-clause-caller c =
    let r = c.args.self.now in
    loaded-caller c.args.linker.now.program c.args.linker.now.loaded r.book.codes r.book.waiting.items r.book.calls.items c.requires.kept.book c.requires.kept.fit
    c.args.u c.in-Some.reference.now c.in-Some.ensures.reference
    (λ place e. c.requires.ahead.loaded place.class (c.requires.kept.callers c.args.u.caller c.in-Some.ensures.entered place e))

pub returns-in-Some : goal.returns-in-Some
returns-in-Some c =
    subst (λ l. OnOk c.add_begun.result (Adds c.args.found.now c.add_begun.new.found l))
    (sym (c.in-Some.ensures.begins (begun_by c.args.linker.now.program c.args.self.now.lineage.loaded))) c.add_begun.ensures

pub returns-in-None : goal.returns-in-None
returns-in-None c =
    subst (λ l. Adds c.args.found.now c.args.found.now l) (sym (c.in-None.ensures.begins (begun_by c.args.linker.now.program c.args.self.now.lineage.loaded))) (adds-nothing c.args.found.now)
