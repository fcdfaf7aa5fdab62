use Rattle.std.proofs.Common.{rules, ◌≡◌, IfOk, w32, refl, sym, ap, subst, ◌∙◌}
use Rattle.std.proofs.lemmas.Int.{to_z-of_z}
use Rattle.std.specs.Option.{option_map}
use Rattle.frame_stack.specs.FrameLists.{top_operands}
use Rattle.jvm_basic.specs.Outcomes.{top_locals}
use Rattle.class_linker.specs.Linkers.{LinkerView}
use Rattle.heap_objects.specs.Changes.{changed_if}
use Rattle.heap_objects.specs.Heaps.{HeapView, with_slot_at}
use Rattle.jvm_model.specs.Basis.Data.{Done}
use Rattle.jvm_model.specs.Instructions.ObjectRules.{access_refused, access_to, fits_array}
use Rattle.jvm_model.specs.declared.state.Shared.{Shared}
use Rattle.member_selection.specs.Outcomes.{outcome_in_frame}
use Rattle.symbolic_references.specs.Runtimes.{with_heap, with_shared}
use Rattle.instructions.specs.Elements.{access_of, storing_by}
use Rattle.instructions.proofs.Attempts.ElementActs.{is-stored, is-unstored, leads-inside, slot-there}
use Rattle.instructions.proofs.Attempts.NamedAttempts.{on-either}
use Rattle.instructions.proofs.elements.store_element.Goals as goal

pub returns-in_default-led : goal.returns-in_default-led
returns-in_default-led c =
    let fs = c.args.frames.now.frames in
    let x = storing_by c.in-Some.storing in
    let unstored = is-unstored c.args.runtime.now.world.program c.args.kind c.args.runtime.now.shared (top_locals fs) (top_operands fs) x (access_of c.led_to-led.result)
    (sym (ap (option_map storing_by) c.in-Some.is) ∙ c.storing_of.ensures)
    (c.led_to-led.ensures ∙ ap (λ (h : HeapView). access_to c.args.kind x.array x.index h) c.heap.ensures.heap)
    (λ slot e. c.in_default-led.not-Inside slot (leads-inside c.led_to-led.result slot e)) in
    record {
      answer = subst (λ q. IfOk c.outcome_without_element.result (λ a. outcome_in_frame a c.args.frames.now ≡ q))
          (ap (λ i. access_refused (access_of c.led_to-led.result) i) (to_z-of_z w32 c.in-Some.storing.place.index (search rules)) ∙ ap (λ (d : Done). d.outcome) unstored)
          (c.outcome_without_element.ensures.answer c.args.frames.now);
      runtime = on-either c.outcome_without_element.result (ap (λ (d : Done). with_shared d.shared c.args.runtime.now) unstored);
      enough = c.outcome_without_element.ensures.enough (top_operands fs);
      world = refl;
      same_loaded = refl;
    }

pub returns-clause-runtime : goal.returns-clause-runtime
returns-clause-runtime c =
    let fs = c.args.frames.now.frames in
    let x = storing_by c.in-Some.storing in
    let leads = sym (ap access_of c.in-Inside.is) ∙ (c.led_to-led.ensures ∙ ap (λ (h : HeapView). access_to c.args.kind x.array x.index h) c.heap.ensures.heap) in
    let fits = sym (c.fits_array.ensures ∙ (ap (λ (l : LinkerView). fits_array l.program x.datum x.array c.heap-2.result.now) c.linker.ensures
    ∙ ap (λ (h : HeapView). fits_array c.args.runtime.now.world.program x.datum x.array h) c.heap-2.ensures.heap)) ∙ c.if-not-fits_array.false in
    c.store_at.ensures.runtime
    ∙ (ap (λ b. with_heap (changed_if b (with_slot_at x.array c.in-Inside.slot x.datum) c.args.runtime.now.shared.heap) c.args.runtime.now)
    (c.store_at.ensures.answer ∙ slot-there c.args.kind x.array c.in-Inside.slot c.args.runtime.now.shared.heap x.index leads)
    ∙ ap (λ (s : Shared). with_shared s c.args.runtime.now)
    (is-stored c.args.runtime.now.world.program c.args.kind c.args.runtime.now.shared (top_locals fs) (top_operands fs) x c.in-Inside.slot
    (sym (ap (option_map storing_by) c.in-Some.is) ∙ c.storing_of.ensures) leads fits))
