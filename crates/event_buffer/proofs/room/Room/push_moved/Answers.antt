use Rattle.std.proofs.Common.{◌++◌, ◌∷◌, [], ◌<◌, length, ap, sym, subst, ◌∙◌}
use Rattle.event_buffer.specs.Rooms.{Room, room_of}
use Rattle.event_buffer.proofs.Moved.{moved-view}
use Rattle.event_buffer.proofs.room.Room.push_moved.Goals as goal

pub returns : goal.returns
returns c =
    let r = c.self.inside in
    moved-view r.from r.end r.bytes.items c.rotate_left.new.self.items c.args.byte c.rotate_left.ensures.items c.self.invariant.order c.self.invariant.within
    (subst (λ (s : Room). length s.items < s.capacity) (sym c.self.view_is) c.requires)
    ∙ ap (λ (s : Room). room_of (s.items ++ c.args.byte ∷ []) s.capacity) c.self.view_is
