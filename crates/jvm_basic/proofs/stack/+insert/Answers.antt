-- there is room for the operand that was taken off
use Rattle.std.proofs.Common.{◌-◌}
use Rattle.jvm_basic.specs.Copies.{values_of}
use Rattle.jvm_basic.proofs.Copied.{put-back-on}
use Rattle.jvm_basic.proofs.stack.+insert.Goals as goal

pub push_some-requires-2 : goal.push_some-requires-2
push_some-requires-2 t c =
    let back = put-back-on (c.args.under - 1) (values_of c.args.first c.args.second) c.args.frames.now.frames c.requires.fits in
    record { fits = rw (c.insert.ensures, c.pop-value.ensures.frames, c.pop-value.ensures.answer) back }
