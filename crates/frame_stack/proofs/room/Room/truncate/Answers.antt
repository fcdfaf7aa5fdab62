use Rattle.std.proofs.Common.{length, take, ◌∙◌, ap, arith}
use Rattle.std.proofs.lemmas.List.{length-map, length-take-le}
use Rattle.frame_stack.specs.Rooms.{RoomView, slot_shown}
use Rattle.frame_stack.proofs.Shown.{shown-take}
use Rattle.frame_stack.proofs.room.Room.truncate.Goals as goal

pub returns-clause-items : goal.returns-clause-items
returns-clause-items c =
    let r = c.self.inside in
    shown-take slot_shown c.args.count r.end r.raw.items
    (omega (arith, c.requires, ap (λ (s : RoomView). length s.items) c.self.view_is, length-map (take r.end r.raw.items) slot_shown, length-take-le r.end r.raw.items c.self.invariant.within))
    ∙ ap (λ (s : RoomView). take c.args.count s.items) c.self.view_is
