use Rattle.std.proofs.Common.{◌≡◌, ◌+◌, refl, arith, ◌∙◌}
use Rattle.played_rows.proofs.MachineLemmas.ReadingLemmas.{file-missing, none-said, said-more, said-none}
use Rattle.played_rows.proofs.machine.reading.read_lines.Goals as goal

pub loop-line-init : goal.loop-line-init
loop-line-init g c = (refl, refl, none-said c.args.program.now (g.F.Files.contents c.args.files.now) _ c.new-placed.ensures.items)

pub returns-in-Ok-None-clause-fails : goal.returns-in-Ok-None-clause-fails
returns-in-Ok-None-clause-fails g c =
    said-none (λ l. l.now) c.args.lines.now c.loop-line.line-index _ _ c.loop-line-test.true refl c.args.program.now _
    (g.F.Files.contents c.args.files.now) _ c.loop-line.next c.loop-line.invariant.0 c.loop-line.invariant.2
    _ _ c.unknown.result refl c.in-Ok-None.field-0-is c.in-Ok-None.ensures.says c.unknown.ensures

pub returns-in-Err-clause-fails : goal.returns-in-Err-clause-fails
returns-in-Err-clause-fails g c =
    file-missing (λ l. l.now) c.args.lines.now c.loop-line.line-index _ _ c.loop-line-test.true refl c.args.program.now _
    (g.F.Files.contents c.args.files.now) _ c.loop-line.next c.loop-line.invariant.0 c.loop-line.invariant.2
    _ c.in-Err.error refl c.in-Err.ensures.fails

pub loop-line-preserved : goal.loop-line-preserved
loop-line-preserved g c =
    let numbered : c.saturating_add-number.result ≡ c.loop-line.line-index + 1 =
    omega (arith, c.saturating_add-number.ensures, c.loop-line-test.true, c.loop-line.auto.line-index-end, c.loop-line.invariant.1) in (
      c.line_said.ensures.stay ∙ c.loop-line.invariant.0,
      numbered,
      said-more (λ l. l.now) c.args.lines.now c.loop-line.line-index _ _ c.loop-line-test.true refl c.args.program.now _
          (g.F.Files.contents c.args.files.now) _ c.loop-line.next c.loop-line.invariant.0 c.loop-line.invariant.2
          _ _ c.in-Ok-Some.said c.saturating_add-number.result _ refl c.in-Ok-Some.field-0-is c.in-Ok-Some.ensures.says numbered c.in-Ok.ensures,
    )
