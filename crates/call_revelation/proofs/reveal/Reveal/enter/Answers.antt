use Rattle.std.proofs.Common.{◌∷◌, ap, subst, sym, ◌∙◌}
use Rattle.class_index.specs.Orders.{with_classes}
use Rattle.possible_callees.proofs.Numbers.Adding.{adds-equal}
use Rattle.possible_callees.proofs.Numbers.Fronts.{front-self}
use Rattle.call_revelation.specs.Reveals.{IsGrown, IsRevelation}
use Rattle.call_revelation.proofs.Revelations.Grown.{grown-more, grown-read, if-err}
use Rattle.call_revelation.proofs.Revelations.Marking.{entered-more, kept-named, kept-read, named-more}
use Rattle.call_revelation.proofs.reveal.Reveal.enter.Goals as goal

pub begun_in-requires-clause-kept : goal.begun_in-requires-clause-kept
begun_in-requires-clause-kept c =
    let p = c.args.linker.now.program in
    let old = c.args.self.now in
    let kept = c.requires.revelation.kept in
    kept-named p (record old { book = c.read.new.self }) c.add_read.new.self (kept-read p old c.read.new.self kept c.read.ensures.book c.read.ensures.kept)
    (c.add_read.ensures.handed p kept.lineage kept.named) c.add_read.ensures.more

pub returns-in_err-add_read-clause-grown : goal.returns-in_err-add_read-clause-grown
returns-in_err-add_read-clause-grown c =
    let p = c.args.linker.now.program in
    let kept = c.requires.revelation.kept in
    if-err c.from_residual-in_err-add_read.result _
    (grown-read p c.args.self.now c.read.new.self c.add_read.new.self kept c.read.ensures.book c.read.ensures.kept
    (c.add_read.ensures.handed p kept.lineage kept.named) c.add_read.ensures.more)

pub returns-in_err-found-clause-grown : goal.returns-in_err-found-clause-grown
returns-in_err-found-clause-grown c =
    let p = c.args.linker.now.program in
    let kept = c.requires.revelation.kept in
    if-err c.from_residual-in_err-found.result _
    (grown-read p c.args.self.now c.read.new.self c.add_read.new.self kept c.read.ensures.book c.read.ensures.kept
    (c.add_read.ensures.handed p kept.lineage kept.named) c.add_read.ensures.more)

pub returns-in_err-add_more-clause-grown : goal.returns-in_err-add_more-clause-grown
returns-in_err-add_more-clause-grown c =
    let p = c.args.linker.now.program in
    let old = c.args.self.now in
    let kept = c.requires.revelation.kept in
    if-err c.from_residual-in_err-add_more.result _
    (grown-more p old (record old { book = c.read.new.self; named = c.add_read.new.self }) old.targets c.add_more.new.order
    (grown-read p old c.read.new.self c.add_read.new.self kept c.read.ensures.book c.read.ensures.kept
    (c.add_read.ensures.handed p kept.lineage kept.named) c.add_read.ensures.more)
    (front-self old.targets) c.add_more.ensures.prefix)

pub returns-in_err-add_more-2-clause-grown : goal.returns-in_err-add_more-2-clause-grown
returns-in_err-add_more-2-clause-grown c =
    let p = c.args.linker.now.program in
    let old = c.args.self.now in
    let kept = c.requires.revelation.kept in
    if-err c.from_residual-in_err-add_more-2.result _
    (grown-more p old (record old { book = c.read.new.self; named = c.add_read.new.self }) c.add_more-2.new.order c.add_more.new.order
    (grown-read p old c.read.new.self c.add_read.new.self kept c.read.ensures.book c.read.ensures.kept
    (c.add_read.ensures.handed p kept.lineage kept.named) c.add_read.ensures.more)
    c.add_more-2.ensures.prefix c.add_more.ensures.prefix)

pub returns-in_err-push-clause-grown : goal.returns-in_err-push-clause-grown
returns-in_err-push-clause-grown c =
    let p = c.args.linker.now.program in
    let old = c.args.self.now in
    let kept = c.requires.revelation.kept in
    let named = c.add_read.new.self in
    if-err c.from_residual-in_err-push.result _
    (subst (λ e. IsGrown p old (record old { book = c.read.new.self; named = named; entered = e; targets = c.add_more-2.new.order; stale = c.add_more.new.order }))
    (sym c.in_err-push.ensures.items)
    (grown-more p old (record old { book = c.read.new.self; named = named }) c.add_more-2.new.order c.add_more.new.order
    (grown-read p old c.read.new.self named kept c.read.ensures.book c.read.ensures.kept (c.add_read.ensures.handed p kept.lineage kept.named) c.add_read.ensures.more)
    c.add_more-2.ensures.prefix c.add_more.ensures.prefix))

pub returns-clause-revelation : goal.returns-clause-revelation
returns-clause-revelation c =
    let old = c.args.self.now in
    let p = c.args.linker.now.program in
    let kept = c.requires.revelation.kept in
    let book = c.read.new.self in
    let named = c.add_read.new.self in
    let targets = c.add_more-2.new.order in
    let stale = c.add_more.new.order in
    let found = c.in_ok-found.found in
    subst (λ e. IsRevelation p (record old { book = book; named = named; entered = e; flags = c.put.new.items; targets = targets; stale = stale })) (sym c.in_ok-push.ensures.items)
    (subst (λ f. IsRevelation p (record old { book = book; named = named; entered = c.args.method ∷ old.entered; flags = f; targets = targets; stale = stale })) (sym c.put.ensures)
    (entered-more p (record old { named = named })
    (named-more p old named c.requires.revelation (c.add_read.ensures.handed p kept.lineage kept.named) c.add_read.ensures.more)
    c.args.method c.requires.method c.requires.class book c.read.ensures.book c.read.ensures.kept c.in_ok-read.ensures.has c.in_ok-add_read.ensures.called
    found targets stale c.in_ok-found.ensures
    (adds-equal old.targets targets found (c.in_ok-add_more-2.ensures.added ∙ ap (with_classes old.targets) c.as_slice-2.ensures))
    (adds-equal old.stale stale found (c.in_ok-add_more.ensures.added ∙ ap (with_classes old.stale) c.as_slice.ensures))))
