use Rattle.std.proofs.Common.{◌∙◌, sym, ap, is_ok}
use Rattle.heap_objects.specs.Changes.{changed_if}
use Rattle.native_effects.specs.Effects.Making.{heap_with_append}
use Rattle.native_effects.specs.Effects.Worlds.{World, world, after}
use Rattle.native_effects.proofs.WorldLemmas.{heap_changed}
use Rattle.native_effects.proofs.effects.carrying.carry_out.Goals as goal

pub returns-in-Appends-clause-heap : goal.returns-in-Appends-clause-heap
returns-in-Appends-clause-heap c =
    let old = world c.args.heap.now c.args.made.now c.args.input.now c.args.read.now in
    let done = is_ok c.append.result in
    heap_changed done (heap_with_append c.in-Appends.object c.as_slice-in-Appends.result.now) c.append.new.heap old c.append.ensures.heap
    ∙ (ap (λ units. (changed_if done (λ (w : World). record w { heap = heap_with_append c.in-Appends.object units w.heap }) old).heap)
    c.as_slice-in-Appends.ensures
    ∙ ap (λ e. (changed_if done (after e) old).heap) (sym c.in-Appends.is))
