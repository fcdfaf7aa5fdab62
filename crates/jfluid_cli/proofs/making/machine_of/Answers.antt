use Rattle.program_fit.proofs.Runs.{runnable}
use Rattle.jfluid_cli.proofs.making.machine_of.Goals as goal

pub new-requires-clause-fits : goal.new-requires-clause-fits
new-requires-clause-fits c = (runnable c.args.program c.requires).fits

pub new-requires-clause-fit : goal.new-requires-clause-fit
new-requires-clause-fit c = (runnable c.args.program c.requires).fit

pub new-requires-clause-closed : goal.new-requires-clause-closed
new-requires-clause-closed c = (runnable c.args.program c.requires).closed

pub new-requires-clause-starts : goal.new-requires-clause-starts
new-requires-clause-starts c = (runnable c.args.program c.requires).starts
