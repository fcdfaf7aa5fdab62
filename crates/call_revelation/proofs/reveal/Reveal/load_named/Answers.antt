use Rattle.std.proofs.Common.{ap, ap₂, subst, sym, ◌∙◌}
use Rattle.class_index.specs.Orders.{with_classes}
use Rattle.possible_callees.specs.Tables.{list_at}
use Rattle.possible_callees.proofs.Numbers.Adding.{adds-equal}
use Rattle.possible_callees.proofs.Numbers.Fronts.{front-self, front-then}
use Rattle.call_revelation.specs.declared.reveal.Reveal.{Reveal}
use Rattle.call_revelation.specs.Reveals.{IsRevelation}
use Rattle.call_revelation.proofs.References.CalledLemmas.{uppers-known}
use Rattle.call_revelation.proofs.Revelations.Grown.{grown-lineage, grown-more}
use Rattle.call_revelation.proofs.Revelations.Marking.{loaded-more}
use Rattle.call_revelation.proofs.reveal.Reveal.load_named.Goals as goal

pub returns-in_err-found-clause-grown : goal.returns-in_err-found-clause-grown
returns-in_err-found-clause-grown c =
    grown-lineage c.args.linker.now.program c.args.self.now c.gain.new.self c.requires.revelation.kept c.gain.ensures.same c.gain.ensures.lineage c.gain.ensures.prefix c.gain.ensures.handed

pub returns-in_err-add_more-clause-grown : goal.returns-in_err-add_more-clause-grown
returns-in_err-add_more-clause-grown c =
    grown-more c.args.linker.now.program c.args.self.now c.gain.new.self c.gain.new.self.targets c.add_more.new.order
    (grown-lineage c.args.linker.now.program c.args.self.now c.gain.new.self c.requires.revelation.kept c.gain.ensures.same c.gain.ensures.lineage c.gain.ensures.prefix c.gain.ensures.handed)
    (front-self c.gain.new.self.targets) c.add_more.ensures.prefix

pub returns-in_err-add_more-2-clause-grown : goal.returns-in_err-add_more-2-clause-grown
returns-in_err-add_more-2-clause-grown c =
    grown-more c.args.linker.now.program c.args.self.now c.gain.new.self c.gain.new.self.targets c.add_more-2.new.order
    (grown-lineage c.args.linker.now.program c.args.self.now c.gain.new.self c.requires.revelation.kept c.gain.ensures.same c.gain.ensures.lineage c.gain.ensures.prefix c.gain.ensures.handed)
    (front-self c.gain.new.self.targets)
    (front-then c.gain.new.self.stale c.add_more.new.order c.add_more-2.new.order c.add_more.ensures.prefix c.add_more-2.ensures.prefix)

pub returns-in_err-add_more-3-clause-grown : goal.returns-in_err-add_more-3-clause-grown
returns-in_err-add_more-3-clause-grown c =
    grown-more c.args.linker.now.program c.args.self.now c.gain.new.self c.add_more-3.new.order c.add_more-2.new.order
    (grown-lineage c.args.linker.now.program c.args.self.now c.gain.new.self c.requires.revelation.kept c.gain.ensures.same c.gain.ensures.lineage c.gain.ensures.prefix c.gain.ensures.handed)
    c.add_more-3.ensures.prefix
    (front-then c.gain.new.self.stale c.add_more.new.order c.add_more-2.new.order c.add_more.ensures.prefix c.add_more-2.ensures.prefix)

pub returns-clause-grown : goal.returns-clause-grown
returns-clause-grown c =
    grown-more c.args.linker.now.program c.args.self.now c.gain.new.self c.add_more-3.new.order c.add_more-2.new.order
    (grown-lineage c.args.linker.now.program c.args.self.now c.gain.new.self c.requires.revelation.kept c.gain.ensures.same c.gain.ensures.lineage c.gain.ensures.prefix c.gain.ensures.handed)
    c.add_more-3.ensures.prefix
    (front-then c.gain.new.self.stale c.add_more.new.order c.add_more-2.new.order c.add_more.ensures.prefix c.add_more-2.ensures.prefix)

pub returns-clause-revelation : goal.returns-clause-revelation
returns-clause-revelation c =
    let p = c.args.linker.now.program in
    let old = c.args.self.now in
    let same = c.gain.ensures.same in
    let found = c.in_ok-found.found in
    let first = c.add_more.new.order in
    let stale = c.add_more-2.new.order in
    let targets = c.add_more-3.new.order in
    subst (λ (r : Reveal). IsRevelation p (record r { targets = targets; stale = stale })) (sym same)
    (loaded-more p old c.requires.revelation c.args.new c.requires.above c.requires.fresh c.gain.new.self.lineage c.gain.ensures.lineage c.in_ok-found.ensures.loaded
    c.requires.handed (list_at old.named.above.items c.args.new)
    (uppers-known p old.lineage.loaded old.named old.entered c.args.new c.requires.handed c.requires.revelation.kept.called) found targets stale first c.in_ok-found.ensures.gathered
    (adds-equal old.targets targets found (c.in_ok-add_more-3.ensures.added ∙ ap₂ with_classes (ap (λ (r : Reveal). r.targets) same) c.as_slice-3.ensures))
    (adds-equal old.stale first found (c.in_ok-add_more.ensures.added ∙ ap₂ with_classes (ap (λ (r : Reveal). r.stale) same) c.as_slice.ensures))
    (adds-equal first stale (list_at old.own.items c.args.new) (c.in_ok-add_more-2.ensures.added ∙ ap (with_classes first)
    (c.own_of.ensures ∙ (ap (λ l. list_at l c.args.new) c.as_slice-2.ensures.value ∙ ap (λ (r : Reveal). list_at r.own.items c.args.new) same)))))
