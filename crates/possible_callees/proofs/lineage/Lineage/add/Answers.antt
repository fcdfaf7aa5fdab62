use Rattle.std.proofs.Common.{◌≡◌, ◌∙◌, ap, sym, subst, arith}
use Rattle.std.specs.Vec.{with_items}
use Rattle.std.proofs.lemmas.List.{with_items_is}
use Rattle.possible_callees.specs.Lineages.{IsNoted, class_noted}
use Rattle.possible_callees.proofs.Classes.LineageLemmas.{lineage-more}
use Rattle.possible_callees.proofs.lineage.Lineage.add.Goals as goal

pub returns-clause-lineage : goal.returns-clause-lineage
returns-clause-lineage c = λ p lead is-lineage.
    let old = c.args.self.now.below in
    let new = c.note.new.lists in
    let only = subst (λ l. IsNoted c.args.class c.args.above.now l new) c.as_mut_slice.ensures.value c.in_ok-note.ensures.only in
    let is : (with_items old new).items ≡ new = with_items_is old new (omega (arith, only.places, old.ok.0)) in
    lineage-more p c.args.class c.args.above.now c.args.self.now
    (record { loaded = c.add.new.self; below = with_items old new }) lead
    (subst (IsNoted c.args.class c.args.above.now old.items) (sym is) only) (is ∙ (c.in_ok-note.ensures.noted ∙ ap (λ l. class_noted c.args.class l c.args.above.now) c.as_mut_slice.ensures.value)) c.in_ok-add.ensures
    is-lineage
