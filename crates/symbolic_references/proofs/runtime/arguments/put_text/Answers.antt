use Rattle.std.proofs.Common.{ap, subst, sym, ◌∙◌}
use Rattle.heap_objects.specs.declared.datum.Datum.TheVariants.{Ref}
use Rattle.heap_objects.specs.declared.object.Object.TheVariants.{Text}
use Rattle.heap_objects.specs.Changes.{changed_if}
use Rattle.heap_objects.specs.Heaps.{with_slot_at}
use Rattle.member_selection.specs.Objects.{AreLoaded}
use Rattle.member_selection.proofs.ObjectLemmas.{objects_slot_if, objects_with}
use Rattle.symbolic_references.proofs.Slots.{slot_put}
use Rattle.symbolic_references.proofs.runtime.arguments.put_text.Goals as goal

pub returns-in-Ok-clause-heap : goal.returns-in-Ok-clause-heap
returns-in-Ok-clause-heap c =
    c.put.ensures.heap
    ∙ (ap (λ b. changed_if b (with_slot_at c.args.array c.args.at (Ref c.in-Ok.text)) c.text.new.self) c.put.ensures.answer
    ∙ (slot_put c.text.new.self c.args.array c.args.at (Ref c.in-Ok.text) c.requires.array
    ∙ (ap (λ n. with_slot_at c.args.array c.args.at (Ref n) c.text.new.self) c.in-Ok.ensures.number
    ∙ ap (with_slot_at c.args.array c.args.at (Ref _)) c.in-Ok.ensures.heap)))

pub returns-in-Ok-clause-loaded : goal.returns-in-Ok-clause-loaded
returns-in-Ok-clause-loaded c = λ l usable are.
    subst (AreLoaded l) (sym c.put.ensures.heap)
    (objects_slot_if l c.put.result c.text.new.self c.args.array c.args.at (Ref c.in-Ok.text)
    (subst (AreLoaded l) (sym c.in-Ok.ensures.heap) (objects_with l c.args.heap.now (Text c.args.kind c.args.units.now) are usable)))
