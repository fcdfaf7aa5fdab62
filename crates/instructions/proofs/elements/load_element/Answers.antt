use Rattle.std.proofs.Common.{rules, ◌≡◌, ◌∷◌, drop, Some, None, IfOk, w32, sym, ap, subst, ◌∙◌}
use Rattle.std.proofs.lemmas.Int.{to_z-of_z}
use Rattle.std.specs.Option.{option_map}
use Rattle.frame_stack.specs.FrameLists.{top_operands}
use Rattle.jvm_basic.specs.Outcomes.{top_locals}
use Rattle.heap_objects.specs.Heaps.{HeapView}
use Rattle.jvm_model.specs.Basis.Data.{GoesOn, Next}
use Rattle.jvm_model.specs.Instructions.ObjectRules.{access_refused, access_to}
use Rattle.member_selection.specs.Outcomes.{outcome_in_frame}
use Rattle.instructions.specs.Elements.{access_of, element_at, place_by}
use Rattle.instructions.proofs.Attempts.ElementActs.{is-loaded, is-refused, place-enough}
use Rattle.instructions.proofs.elements.load_element.Goals as goal

pub returns-in-Some-element_at-clause-answer : goal.returns-in-Some-element_at-clause-answer
returns-in-Some-element_at-clause-answer c =
    let fs = c.args.frames.now.frames in
    ap (λ v. GoesOn (top_locals fs) (v ∷ drop 2 (top_operands fs)) Next) c.value_of.ensures
    ∙ is-loaded c.args.kind c.args.runtime.now.shared (top_locals fs) (top_operands fs) c.in-Some.place.array c.in-Some.place.index c.in-Some-element_at.datum
    (sym (ap (option_map place_by) c.in-Some.is) ∙ c.array_element_of.ensures) (subst (λ (h : HeapView). Some c.in-Some-element_at.datum ≡ element_at (access_to c.args.kind c.in-Some.place.array c.in-Some.place.index h) c.in-Some.place.array h) c.heap.ensures.heap
    (sym c.in-Some-element_at.is ∙ c.element_at.ensures))

pub returns-in-Some-element_at-clause-enough : goal.returns-in-Some-element_at-clause-enough
returns-in-Some-element_at-clause-enough c =
    place-enough (top_operands c.args.frames.now.frames) c.in-Some.place.array c.in-Some.place.index
    (sym (ap (option_map place_by) c.in-Some.is) ∙ c.array_element_of.ensures)

pub returns-in-None-clause-answer : goal.returns-in-None-clause-answer
returns-in-None-clause-answer c =
    let fs = c.args.frames.now.frames in
    subst (λ q. IfOk c.outcome_without_element.result (λ a. outcome_in_frame a c.args.frames.now ≡ q))
    (ap (λ i. access_refused (access_of c.led_to.result) i) (to_z-of_z w32 c.in-Some.place.index (search rules))
    ∙ is-refused c.args.kind c.args.runtime.now.shared (top_locals fs) (top_operands fs) c.in-Some.place.array c.in-Some.place.index (access_of c.led_to.result)
    (sym (ap (option_map place_by) c.in-Some.is) ∙ c.array_element_of.ensures)
    (subst (λ (h : HeapView). None ≡ element_at (access_to c.args.kind c.in-Some.place.array c.in-Some.place.index h) c.in-Some.place.array h) c.heap.ensures.heap
    (sym c.in-None.is ∙ c.element_at.ensures))
    (c.led_to.ensures ∙ ap (λ (h : HeapView). access_to c.args.kind c.in-Some.place.array c.in-Some.place.index h) c.heap-in-None.ensures.heap))
    (c.outcome_without_element.ensures.answer c.args.frames.now)
