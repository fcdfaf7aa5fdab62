use Rattle.std.proofs.Common.{◌<◌, ap, get_or, length, subst, sym, ◌∙◌}
use Rattle.std.proofs.lemmas.Bool.{ltb-true}
use Rattle.class_index.specs.Orders.{with_classes}
use Rattle.possible_callees.specs.Tables.{list_at}
use Rattle.possible_callees.proofs.Numbers.Adding.{adds-equal}
use Rattle.possible_callees.proofs.Numbers.Fronts.{front-among}
use Rattle.possible_callees.proofs.Classes.LineageLemmas.{followed-next}
use Rattle.possible_callees.proofs.lineage.Lineage.at_or_below.Goals as goal

pub loop-at-preserved : goal.loop-at-preserved
loop-at-preserved c =
    let below = c.args.self.now.below.items in
    let found = c.loop-at.found in
    let new = c.add_more.new.order in
    let next = c.in-Some.next.now in (
      front-among found new c.args.class c.add_more.ensures.prefix c.loop-at.invariant.0,
      followed-next below found new c.loop-at.at next next
          (subst (λ l. c.loop-at.at < length l) c.as_slice.ensures (ltb-true c.loop-at.at (length c.as_slice.result.now) (sym c.in-Some.ensures.lookup.0)))
          (c.in-Some.ensures.lookup.1 ∙ ap (λ l. get_or l c.loop-at.at next) c.as_slice.ensures) c.add_more.ensures.prefix
          (adds-equal found new (list_at below next) (c.in_ok-add_more.ensures.added ∙ ap (with_classes found) c.below-lower.ensures)) c.loop-at.invariant.1,
    )
