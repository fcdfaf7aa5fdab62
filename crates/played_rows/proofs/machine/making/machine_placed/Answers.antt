use Rattle.program_fit.proofs.Runs.{runnable}
use Rattle.played_rows.proofs.machine.making.machine_placed.Goals as goal

pub new-requires-2-clause-fits : goal.new-requires-2-clause-fits
new-requires-2-clause-fits c = (runnable c.args.program c.requires).fits

pub new-requires-2-clause-fit : goal.new-requires-2-clause-fit
new-requires-2-clause-fit c = (runnable c.args.program c.requires).fit

pub new-requires-2-clause-closed : goal.new-requires-2-clause-closed
new-requires-2-clause-closed c = (runnable c.args.program c.requires).closed

pub new-requires-2-clause-starts : goal.new-requires-2-clause-starts
new-requires-2-clause-starts c = (runnable c.args.program c.requires).starts

pub returns-clause-fresh : goal.returns-clause-fresh
returns-clause-fresh c = record { program = c.args.program; admitted = c.requires; made = cc (c.in_ok-new.ensures, c.in_ok-new-2.ensures.ok, c.new.ensures.items) }

pub returns-clause-made : goal.returns-clause-made
returns-clause-made c = cc (c.in_ok-new.ensures, c.in_ok-new-2.ensures.ok, c.new.ensures.items)
