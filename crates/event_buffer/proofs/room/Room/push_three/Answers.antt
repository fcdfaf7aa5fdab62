use Rattle.std.proofs.Common.{◌++◌, ◌∷◌, [], ap, ◌∙◌, arith}
use Rattle.event_buffer.specs.Rooms.{Room, room_of}
use Rattle.event_buffer.proofs.Moved.{three-view}
use Rattle.event_buffer.proofs.room.Room.push_three.Goals as goal

pub returns-clause-put : goal.returns-clause-put
returns-clause-put c = λ is.
    let r = c.self.inside in
    let len = c.len.ensures in
    let free = c.if-len-self-lt3.false in
    three-view r.from r.end r.bytes.items c.args.first c.args.second c.args.third c.self.invariant.order (omega (arith, len, free))
    ∙ ap (λ (s : Room). room_of (s.items ++ c.args.first ∷ c.args.second ∷ c.args.third ∷ []) s.capacity) c.self.view_is
