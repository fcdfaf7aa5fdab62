-- The bytes that are taken are the first record.
use Rattle.std.proofs.Common.{◌+◌, List, slice_get, ap, sym, ◌∙◌, arith}
use Rattle.jvm_model.specs.declared.event.Event.{Event}
use Rattle.jvm_model.specs.declared.event.EventKind.{EventKind}
use Rattle.event_buffer.specs.Buffers.{Held, rest_of, last_clock}
use Rattle.event_buffer.proofs.ReadBack.{pop-method, pop-clock, pop-first, none-in, event_of, option-of}
use Rattle.event_buffer.proofs.events.Events.pop.Goals as goal

pub take_number-method-requires : goal.take_number-method-requires
take_number-method-requires c =
    let short = pop-method c.self.inside.popped c.self.inside.last c.self.inside.bytes.items c.in-Some.kind _ _ c.self.invariant c.in-Some.ensures.value c.pop_front.ensures.items in
    omega (arith, short)

pub take_number-more-requires : goal.take_number-more-requires
take_number-more-requires c =
    let short = pop-clock c.self.inside.popped c.self.inside.last c.self.inside.bytes.items c.in-Some.kind _ _ _ c.self.invariant c.in-Some.ensures.value c.pop_front.ensures.items
    c.take_number-method.ensures.rest in
    omega (arith, short)

pub overflow_add-self : goal.overflow_add-self
overflow_add-self c =
    let short = pop-clock c.self.inside.popped c.self.inside.last c.self.inside.bytes.items c.in-Some.kind _ _ _ c.self.invariant c.in-Some.ensures.value c.pop_front.ensures.items
    c.take_number-method.ensures.rest in
    omega (arith, short, c.take_number-more.ensures.value)

pub overflow_cast-result : goal.overflow_cast-result
overflow_cast-result c =
    let short = pop-method c.self.inside.popped c.self.inside.last c.self.inside.bytes.items c.in-Some.kind _ _ c.self.invariant c.in-Some.ensures.value c.pop_front.ensures.items in
    omega (arith, short, c.take_number-method.ensures.value)

pub invariant_of-self-in-Some : goal.invariant_of-self-in-Some
invariant_of-self-in-Some c =
    (pop-first c.self.inside.popped c.self.inside.last c.self.inside.bytes.items c.in-Some.kind _ _ _ _ _ _ c.self.invariant c.in-Some.ensures.value c.pop_front.ensures.items
    c.take_number-method.ensures.value c.take_number-method.ensures.rest c.take_number-more.ensures.value c.take_number-more.ensures.rest).records

pub returns-in-None-clause-first : goal.returns-in-None-clause-first
returns-in-None-clause-first c =
    sym (ap (λ (xs : List Event). slice_get xs 0) (none-in c.self.inside.popped c.self.inside.bytes.items c.in-None.ensures.value))
    ∙ ap (λ (h : Held). slice_get h.events 0) c.self.view_is

pub returns-in-Some-clause-first : goal.returns-in-Some-clause-first
returns-in-Some-clause-first c =
    ap (λ (k : EventKind). option-of (event_of k c.take_number-method.result (c.self.inside.popped + c.take_number-more.result))) c.kind_of_number.ensures
    ∙ (pop-first c.self.inside.popped c.self.inside.last c.self.inside.bytes.items c.in-Some.kind _ _ _ _ _ _ c.self.invariant c.in-Some.ensures.value c.pop_front.ensures.items
    c.take_number-method.ensures.value c.take_number-method.ensures.rest c.take_number-more.ensures.value c.take_number-more.ensures.rest).first
    ∙ ap (λ (h : Held). slice_get h.events 0) c.self.view_is

pub returns-in-Some-clause-rest : goal.returns-in-Some-clause-rest
returns-in-Some-clause-rest c =
    (pop-first c.self.inside.popped c.self.inside.last c.self.inside.bytes.items c.in-Some.kind _ _ _ _ _ _ c.self.invariant c.in-Some.ensures.value c.pop_front.ensures.items
    c.take_number-method.ensures.value c.take_number-method.ensures.rest c.take_number-more.ensures.value c.take_number-more.ensures.rest).rest
    ∙ ap (λ (h : Held). rest_of h h.events) c.self.view_is

pub returns-in-Some-clause-clock : goal.returns-in-Some-clause-clock
returns-in-Some-clause-clock c =
    sym (pop-first c.self.inside.popped c.self.inside.last c.self.inside.bytes.items c.in-Some.kind _ _ _ _ _ _ c.self.invariant c.in-Some.ensures.value c.pop_front.ensures.items
    c.take_number-method.ensures.value c.take_number-method.ensures.rest c.take_number-more.ensures.value c.take_number-more.ensures.rest).records.until
    ∙ c.self.invariant.until ∙ ap last_clock c.self.view_is
