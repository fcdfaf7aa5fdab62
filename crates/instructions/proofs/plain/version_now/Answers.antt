use Rattle.std.proofs.Common.{sym, ◌∙◌}
use Rattle.instructions.proofs.Silent.PlainSteps.{runs-here}
use Rattle.instructions.proofs.plain.version_now.Goals as goal

pub returns-clause-runs : goal.returns-clause-runs
returns-clause-runs c =
    runs-here c.args.originals.now.versions c.args.frames.now.frames c.in-Some.here c.in-Some-version.version.now (sym c.where_now.ensures ∙ c.in-Some.is)
    c.in-Some-version.ensures.version
