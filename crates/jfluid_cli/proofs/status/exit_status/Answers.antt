-- what the top call left is what is kept
use Rattle.jfluid_cli.proofs.status.exit_status.Goals as goal

pub returns-clause-answered : goal.returns-clause-answered
returns-clause-answered g c = (_, c.jfluid.ensures.answered)
