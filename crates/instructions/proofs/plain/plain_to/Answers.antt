use Rattle.std.proofs.Common.{sym, subst, ap, ◌∙◌, refl, arith}
use Rattle.std.specs.Option.{option_and_then}
use Rattle.prepared_code.specs.declared.parts.Parts.{Parts}
use Rattle.prepared_code.specs.Runs.{IsLineIn, LeadsAlone, top_version}
use Rattle.prepared_code.specs.Tables.{version_at}
use Rattle.instructions.proofs.Attempts.ElementSteps.{stands-there}
use Rattle.instructions.proofs.Silent.Leading.{alone-none, alone-on}
use Rattle.instructions.proofs.Silent.PassedLines.{passed-leads, stays-by}
use Rattle.instructions.proofs.plain.plain_to.Goals as goal

pub loop-made-init : goal.loop-made-init
loop-made-init c = ((λ w run runs. alone-none w c.args.parts.now), refl)

pub loop-made-preserved : goal.loop-made-preserved
loop-made-preserved c =
    let mid = c.loop-made.parts in
    let new = c.pass_line.new.parts in (
      (λ w run runs.
          alone-on w c.args.parts.now mid new c.loop-made.made 1 (c.loop-made.invariant.0 w run runs)
          (passed-leads c.in-Some.line.now mid new (c.pass_line.ensures.gone c.if-not-pass_line.false) w run
          (stands-there w c.args.version.now mid.frames.frames c.in-Some.line.now
          (ap (option_and_then (version_at w.versions)) c.loop-made.invariant.1 ∙ runs) c.in-Some.ensures.line))),
      stays-by c.in-Some.line.now mid new c.pass_line.result c.pass_line.ensures.gone c.pass_line.ensures.kept ∙ c.loop-made.invariant.1,
    )

pub returns-then-not-pass_line-clause-made : goal.returns-then-not-pass_line-clause-made
returns-then-not-pass_line-clause-made c = λ w run runs.
    subst (λ (s : Parts). LeadsAlone w c.args.parts.now c.loop-made.made s) (sym (c.pass_line.ensures.kept c.if-not-pass_line.true)) (c.loop-made.invariant.0 w run runs)

pub returns-then-not-pass_line-clause-stands : goal.returns-then-not-pass_line-clause-stands
returns-then-not-pass_line-clause-stands c =
    subst (λ (s : Parts). IsLineIn c.args.version.now s.frames.frames c.in-Some.line.now) (sym (c.pass_line.ensures.kept c.if-not-pass_line.true)) c.in-Some.ensures.line

pub returns-then-not-pass_line-clause-same : goal.returns-then-not-pass_line-clause-same
returns-then-not-pass_line-clause-same c =
    ap (λ (s : Parts). top_version s.frames.frames) (c.pass_line.ensures.kept c.if-not-pass_line.true) ∙ c.loop-made.invariant.1

pub returns-in_default-clause-made : goal.returns-in_default-clause-made
returns-in_default-clause-made c = c.loop-made.invariant.0

pub returns-in_default-clause-same : goal.returns-in_default-clause-same
returns-in_default-clause-same c = c.loop-made.invariant.1

pub returns-clause-made : goal.returns-clause-made
returns-clause-made c = λ w run runs.
    subst (λ n. LeadsAlone w c.args.parts.now n c.loop-made.parts) (omega (arith, c.loop-made-test.false, c.loop-made.auto.made-end)) (c.loop-made.invariant.0 w run runs)

pub returns-clause-same : goal.returns-clause-same
returns-clause-same c = c.loop-made.invariant.1
