use Rattle.std.proofs.Common.{◌≡◌, ◌∙◌, ◌∷◌, ◌+◌, ◌-◌, ◌<◌, ap, length, rules, subst, sym}
use Rattle.heap_objects.specs.declared.datum.Datum.TheVariants.{Ref}
use Rattle.heap_objects.specs.Heaps.{with_slot_at}
use Rattle.jvm_model.specs.Instructions.CreationRules.{with_arrays, with_parts}
use Rattle.member_selection.specs.Arrays.{AreUsable}
use Rattle.member_selection.specs.Objects.{AreLoaded}
use Rattle.symbolic_references.proofs.ArrayRoom.{room_behind}
use Rattle.symbolic_references.proofs.ArraysMade.{down-first, down-rest, parts_step}
use Rattle.member_selection.proofs.ObjectLemmas.{objects_slot}
use Rattle.symbolic_references.proofs.runtime.multi_arrays.+make_all.Goals as goal

pub loop-at-preserved : goal.loop-at-preserved
loop-at-preserved t c =
    let more : c.loop-at.at < c.in-Some.first.now = search rules in (
      ap (λ h. with_parts (with_arrays (c.args.kind - 16777216) c.in-Some.rest.now) c.in_ok-made.made.array (c.loop-at.at + 1) (c.in-Some.first.now - (c.loop-at.at + 1)) h)
          (c.in_ok-part.ensures.heap
          ∙ (ap (λ k. with_arrays k c.in-Some.rest.now c.put_slot.new.heap) c.saturating_sub.ensures
          ∙ ap (with_arrays (c.args.kind - 16777216) c.in-Some.rest.now)
          (c.put_slot.ensures ∙ ap (λ n. with_slot_at c.in_ok-made.made.array c.loop-at.at (Ref n) c.loop-at.heap) c.loop-at.invariant.1)))
          ∙ (sym (parts_step (with_arrays (c.args.kind - 16777216) c.in-Some.rest.now) c.in_ok-made.made.array c.loop-at.at c.in-Some.first.now c.loop-at.heap more)
          ∙ c.loop-at.invariant.0),
      c.in_ok-part.ensures.next,
      λ k down are. c.make_all.ensures.loaded k (subst (λ kind. AreUsable k kind c.in-Some.rest.now) (sym c.saturating_sub.ensures) down)
          (subst (AreLoaded k) (sym c.put_slot.ensures)
          (objects_slot k c.loop-at.heap c.in_ok-made.made.array c.loop-at.at (Ref c.loop-at.next) (c.loop-at.invariant.2 k down are))),
      room_behind c.saturating_sub.result c.in-Some.first.now c.loop-at.at c.in_ok-made.made.array (Ref c.loop-at.next) c.in-Some.rest.now
          c.loop-at.heap c.put_slot.new.heap c.make_all.new.heap more c.put_slot.ensures c.in_ok-part.ensures.heap c.loop-at.invariant.3,
    )

pub returns-in_err-part-clause-loaded : goal.returns-in_err-part-clause-loaded
returns-in_err-part-clause-loaded t c = λ k down are.
    let is : c.args.lengths.now ≡ c.in-Some.first.now ∷ c.in-Some.rest.now = search rules in
    let some : 0 < length c.in-Some.rest.now = search rules in
    let all : AreUsable k c.args.kind (c.in-Some.first.now ∷ c.in-Some.rest.now) = subst (AreUsable k c.args.kind) is down in
    c.make_all.ensures.loaded k
    (subst (λ kind. AreUsable k kind c.in-Some.rest.now) (sym c.saturating_sub.ensures) (down-rest k c.args.kind c.in-Some.first.now c.in-Some.rest.now some all))
    (subst (AreLoaded k) (sym c.put_slot.ensures)
    (objects_slot k c.loop-at.heap c.in_ok-made.made.array c.loop-at.at (Ref c.loop-at.next)
    (c.loop-at.invariant.2 k (down-rest k c.args.kind c.in-Some.first.now c.in-Some.rest.now some all)
    (c.make_one.ensures.loaded k (down-first k c.args.kind c.in-Some.first.now c.in-Some.rest.now all) are))))

pub returns-clause-loaded : goal.returns-clause-loaded
returns-clause-loaded t c = λ k down are.
    let is : c.args.lengths.now ≡ c.in-Some.first.now ∷ c.in-Some.rest.now = search rules in
    let some : 0 < length c.in-Some.rest.now = search rules in
    let all : AreUsable k c.args.kind (c.in-Some.first.now ∷ c.in-Some.rest.now) = subst (AreUsable k c.args.kind) is down in
    c.loop-at.invariant.2 k (down-rest k c.args.kind c.in-Some.first.now c.in-Some.rest.now some all)
    (c.make_one.ensures.loaded k (down-first k c.args.kind c.in-Some.first.now c.in-Some.rest.now all) are)
