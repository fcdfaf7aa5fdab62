use Rattle.std.proofs.Common.{◌≡◌, sym, subst, ap, ◌∙◌}
use Rattle.stackmap_shift.specs.Moves.{moved_frames}
use Rattle.stackmap_shift.specs.Conditions.{AreWritable}
use Rattle.stackmap_shift.proofs.Rising.{moved_frames-writable}
use Rattle.stackmap_shift.proofs.moves.shift_frames.Goals as goal

pub returns-clause-writable : goal.returns-clause-writable
returns-clause-writable c = λ are stand writable.
    let moved : c.in_ok-list.list ≡ moved_frames c.args.homes.now c.args.frames.now.list = c.in_ok-list.ensures ∙ ap (moved_frames c.args.homes.now) c.as_slice.ensures in
    subst AreWritable (sym moved) (moved_frames-writable c.args.homes.now c.args.frames.now.list are stand writable)
