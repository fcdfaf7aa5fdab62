use Rattle.std.proofs.Common.{◌≡◌, subst, ◌∙◌}
use Rattle.std.specs.Prelude.{IfOk}
use Rattle.interpreter.proofs.Moves.Followed.{counts_one}
use Rattle.interpreter.proofs.turns.trying.count.Goals as goal

pub returns : goal.returns
returns c =
    subst (λ k. IfOk c.one_more.result (λ n. n ≡ k))
    (counts_one c.args.passed c.args.depth c.args.frames.now.frames (λ e. c.if-depth.false (c.depth.ensures ∙ e))) c.one_more.ensures
