-- The record comes behind those that are held.
use Rattle.std.proofs.Common.{ap, sym, ◌∙◌}
use Rattle.event_buffer.specs.Buffers.{Held, event_pushed}
use Rattle.event_buffer.proofs.ReadBack.{push-view}
use Rattle.event_buffer.proofs.events.Events.push.Goals as goal

pub invariant_of-self-2 : goal.invariant_of-self-2
invariant_of-self-2 c =
    (push-view c.self.inside.popped c.self.inside.last _ c.self.inside.bytes.items c.args.event _ c.self.invariant c.put_small_record.ensures.next
    (c.put_small_record.ensures.put c.if-not-put_small_record.false)).0

pub returns-clause-ok : goal.returns-clause-ok
returns-clause-ok c =
    (push-view c.self.inside.popped c.self.inside.last _ c.self.inside.bytes.items c.args.event _ c.self.invariant c.put_small_record.ensures.next
    (c.put_small_record.ensures.put c.if-not-put_small_record.false)).1
    ∙ ap (λ (h : Held). event_pushed h c.args.event) c.self.view_is

pub returns-clause-clock : goal.returns-clause-clock
returns-clause-clock c =
    sym (push-view c.self.inside.popped c.self.inside.last _ c.self.inside.bytes.items c.args.event _ c.self.invariant c.put_small_record.ensures.next
    (c.put_small_record.ensures.put c.if-not-put_small_record.false)).0.until
