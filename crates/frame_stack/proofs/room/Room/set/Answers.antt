use Rattle.std.proofs.Common.{length, map, take, ◌∙◌, ap, arith}
use Rattle.std.specs.Prelude.{Some, slice_set}
use Rattle.std.proofs.lemmas.List.{length-map, length-take-le}
use Rattle.frame_stack.specs.Rooms.{RoomView, slot_shown}
use Rattle.frame_stack.proofs.Shown.{shown-set}
use Rattle.frame_stack.proofs.room.Room.set.Goals as goal

pub returns-clause-items : goal.returns-clause-items
returns-clause-items c =
    let r = c.self.inside in
    shown-set slot_shown r.end c.args.at c.slot_of.result r.raw.items
    (omega (arith, c.requires, ap (λ (s : RoomView). length s.items) c.self.view_is, length-map (take r.end r.raw.items) slot_shown, length-take-le r.end r.raw.items c.self.invariant.within))
    ∙ (ap (λ x. slice_set (map slot_shown (take r.end r.raw.items)) c.args.at x) c.slot_of.ensures
    ∙ ap (λ (s : RoomView). slice_set s.items c.args.at (Some c.args.value)) c.self.view_is)
