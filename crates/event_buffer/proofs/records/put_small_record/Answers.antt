use Rattle.std.proofs.Common.{◌+◌, ◌-◌, ◌++◌, ◌∷◌, ◌≤◌, [], List, ℕ, length, ap, sym, subst, ◌∙◌}
use Rattle.event_buffer.specs.Rooms.{room_of}
use Rattle.event_buffer.specs.Records.{kind_number}
use Rattle.event_buffer.proofs.Moved.{small-record}
use Rattle.event_buffer.proofs.records.put_small_record.Goals as goal

pub returns-clause-put : goal.returns-clause-put
returns-clause-put c = λ is.
    c.push_three.ensures.put is
    ∙ ap (λ (xs : List ℕ). room_of (c.args.bytes.now.items ++ xs) c.args.bytes.now.capacity)
    (ap (λ k. k ∷ c.args.event.method ∷ (c.args.event.clock - c.args.before) ∷ []) c.number_of_kind.ensures
    ∙ sym (small-record (kind_number c.args.event.kind) c.args.event.method (c.args.event.clock - c.args.before) c.if-event-ge128.false c.if-more-ge128.false))

pub returns-clause-fits : goal.returns-clause-fits
returns-clause-fits c = λ is.
    subst (λ (xs : List ℕ). length c.args.bytes.now.items + length xs ≤ c.args.bytes.now.capacity)
    (sym (small-record (kind_number c.args.event.kind) c.args.event.method (c.args.event.clock - c.args.before) c.if-event-ge128.false c.if-more-ge128.false)) (c.push_three.ensures.fits is)
