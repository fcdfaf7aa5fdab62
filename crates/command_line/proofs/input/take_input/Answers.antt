use Rattle.std.proofs.Common.{◌≤◌, ◌+◌, length, arith}
use Rattle.std.proofs.lemmas.List.{length-take}
use Rattle.command_line.specs.Input.{most_input}
use Rattle.command_line.proofs.Rests.{rest-of-failed, rest-of-unkept}
use Rattle.command_line.proofs.input.take_input.Goals as goal

pub returns-in_err-count-clause-taken : goal.returns-in_err-count-clause-taken
returns-in_err-count-clause-taken g c =
    let few : length c.loop-chunk.bytes ≤ most_input = grind arith in
    rest-of-failed _ (g.I.Source.left c.loop-chunk.source) _ c.loop-chunk.bytes _ few c.loop-chunk.invariant.1
    c.in_err-count.ensures.stays c.from_residual.ensures.1

pub returns-in_err-extend_from_slice-clause-taken :
    goal.returns-in_err-extend_from_slice-clause-taken
returns-in_err-extend_from_slice-clause-taken g c =
    let few : length c.loop-chunk.bytes + c.in_ok-count.count ≤ most_input + 1 =
    omega (
      arith,
      c.loop-chunk-test.true,
      c.len.ensures,
      c.in_ok-count.ensures.within,
      c.take_some.auto.buf,
      c.min-room.ensures,
      c.len-in-loop-chunk.ensures,
      length-take (c.min-room.result + 1) c.loop-chunk.chunk,
    ) in
    rest-of-unkept _ (g.I.Source.left c.loop-chunk.source) _ c.loop-chunk.bytes _ c.in_ok-count.count _ few c.loop-chunk.invariant.1
    c.in_ok-count.ensures.prefix c.from_residual-in_err-extend_from_slice.ensures.1
