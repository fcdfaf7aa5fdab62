use Rattle.program_fit.proofs.Runs.{runnable}
use Rattle.program_fit.proofs.admitted_are_runnable.Goals as goal

pub returns : goal.returns
returns c = runnable
