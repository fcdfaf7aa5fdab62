use Rattle.std.proofs.Common.{◌∙◌, rules}
use Rattle.jvm_basic.specs.Copies.{values_of}
use Rattle.jvm_basic.proofs.Copied.{copy-not, copy-done}
use Rattle.jvm_basic.proofs.stack.copy.Goals as goal

pub returns-then-not-has_room-clause-effect : goal.returns-then-not-has_room-clause-effect
returns-then-not-has_room-clause-effect c =
    (copy-not c.args.under (values_of c.args.first c.args.second) c.args.place c.args.frames.now (search rules)).0

pub returns-then-not-has_room-clause-frames : goal.returns-then-not-has_room-clause-frames
returns-then-not-has_room-clause-frames c =
    c.has_room.ensures.frames
    ∙ (copy-not c.args.under (values_of c.args.first c.args.second) c.args.place c.args.frames.now (search rules)).1

pub returns-clause-effect : goal.returns-clause-effect
returns-clause-effect c =
    (copy-done c.args.under (values_of c.args.first c.args.second) c.args.place c.args.frames.now (search rules)).0

pub returns-clause-frames : goal.returns-clause-frames
returns-clause-frames c =
    rw (c.go.ensures.frames, c.insert.ensures, c.has_room.ensures.frames)
    (copy-done c.args.under (values_of c.args.first c.args.second) c.args.place c.args.frames.now (search rules)).1
