use Rattle.activations.proofs.OperandsAlone.{put_alone_frames}
use Rattle.activations.proofs.settling.put_alone.Goals as goal

pub returns-clause-frames : goal.returns-clause-frames
returns-clause-frames c =
    put_alone_frames c.args.object c.args.frames.now.frames c.empty.new.frames c.push.new.self c.push.result c.peek.ensures.sound c.empty.ensures
    c.push.ensures.answer c.push.ensures.frames
