-- No bytes are the records of no events.
use Rattle.std.proofs.Common.{sym, subst}
use Rattle.event_buffer.specs.Rooms.{Room}
use Rattle.event_buffer.specs.Spelled.{AreRecords}
use Rattle.event_buffer.proofs.ReadBack.{records-none, new-view}
use Rattle.event_buffer.proofs.events.Events.new.Goals as goal

pub invariant_of-result : goal.invariant_of-result
invariant_of-result c = subst (λ (b : Room). AreRecords 0 0 b.items) (sym c.in_ok-new.ensures) (records-none 0).records

pub returns : goal.returns
returns c = new-view c.in_ok-new.field-0 _ c.in_ok-new.ensures
