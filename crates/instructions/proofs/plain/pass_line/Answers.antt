use Rattle.std.proofs.Common.{refl, sym}
use Rattle.std.proofs.lemmas.Bool.{false≢true}
use Rattle.instructions.proofs.Silent.PassedLines.{kept-alone, passed-as}
use Rattle.instructions.proofs.plain.pass_line.Goals as goal

pub returns-in-Next : goal.returns-in-Next
returns-in-Next c =
    let line = c.args.line.now in
    let done = c.do_line-effect.ensures in
    record {
      gone = λ _. passed-as line c.args.parts.now c.do_line-effect.new.parts line.hot c.do_line-effect.result refl c.requires c.in-Next.is
          done.effect done.frames done.loaded done.stored done.passed;
      kept = λ e. absurd (false≢true (sym e));
    }

pub returns-in_default : goal.returns-in_default
returns-in_default c =
    let done = c.do_line-effect.ensures in
    record {
      gone = λ e. absurd (false≢true e);
      kept = λ _. kept-alone c.args.line.now.hot c.args.parts.now c.do_line-effect.new.parts c.do_line-effect.result c.in_default.not-Next
          done.effect done.frames done.kept;
    }
