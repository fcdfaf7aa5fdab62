-- so many steps lead to the frames, and the current one stays in its version
use Rattle.std.proofs.Common.{◌≡◌}
use Rattle.prepared_code.specs.Ready.{CanRun}
use Rattle.prepared_code.specs.Runs.{LeadsAlone, RunsVersion, top_version}
use Rattle.prepared_code.specs.Versions.{Setup}
use Rattle.instructions.proofs.plain.plain_to.Given as goal

abbrev pub invariant-loop-made : goal.invariant-loop-made
invariant-loop-made l =
    ((w : Setup) → CanRun w → RunsVersion w l.version l.fn.parts.frames.frames → LeadsAlone w l.fn.parts l.made l.parts)
    × (top_version l.parts.frames.frames ≡ top_version l.fn.parts.frames.frames)
