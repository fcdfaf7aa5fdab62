use Rattle.std.proofs.Common.{None, [], ◌∷◌, sym, subst, arith}
use Rattle.std.proofs.lemmas.List.{length-append}
use Rattle.std.proofs.lemmas.List.Elements.{All-push}
use Rattle.std.proofs.lemmas.Result.{err_from_is_err_and}
use Rattle.stackmap_shift.specs.Frames.{frames_at}
use Rattle.stackmap_shift.specs.Conditions.{FitsFrame, IsBehind}
use Rattle.stackmap_shift.proofs.Many.{frames_go_on, frames_end, frames_done}
use Rattle.stackmap_shift.proofs.Rising.{Rise-push, last_offset-push}
use Rattle.stackmap_shift.proofs.reading.frames_from.Goals as goal

pub returns-in_err-frame-clause-frames : goal.returns-in_err-frame-clause-frames
returns-in_err-frame-clause-frames c =
    let p = err_from_is_err_and c.from_residual.result c.from_residual.ensures.1 in
    rw (p.1, p.2) (frames_end c.args.limit c.in_err-frame.field-0.0 c.loop.frames c.args.count c.loop.counter c.loop.before c.loop.rest.now (frames_at c.args.count None c.args.limit c.args.bytes.now) c.loop-test.true c.in_err-frame.ensures.frame c.loop.invariant.joined)

pub loop-preserved : goal.loop-preserved
loop-preserved c =
    let frames = c.loop.frames in
    let frame = c.in_ok-frame.frame in
    let pushed = c.in_ok-push.ensures.items in
    let joined = frames_go_on c.args.limit frames c.args.count c.loop.counter c.loop.before c.loop.rest.now frame c.in_ok-frame.after.now (frames_at c.args.count None c.args.limit c.args.bytes.now) c.loop-test.true c.in_ok-frame.ensures.frame c.loop.invariant.joined in
    let behind = subst (λ before. IsBehind before frame.at) c.loop.invariant.before c.in_ok-frame.ensures.behind in
    record {
      joined = rw pushed joined;
      many = rw pushed (omega (arith, length-append frames (frame ∷ []), c.loop.invariant.many));
      before = rw pushed (sym (last_offset-push None frames frame));
      rise = rw pushed (Rise-push None frames frame c.loop.invariant.rise behind);
      fit = rw pushed (All-push FitsFrame frames frame c.loop.invariant.fit c.in_ok-frame.ensures.fits);
    }

pub returns-clause-frames : goal.returns-clause-frames
returns-clause-frames c = frames_done c.args.limit c.loop.frames c.args.count c.loop.counter c.loop.before c.loop.rest.now (frames_at c.args.count None c.args.limit c.args.bytes.now) c.loop-test.false c.loop.invariant.joined
