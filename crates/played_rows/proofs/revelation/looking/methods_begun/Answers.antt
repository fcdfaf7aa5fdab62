use Rattle.program_fit.proofs.Runs.{runnable}
use Rattle.played_rows.proofs.RevelationLemmas.LookLemmas.{if-targets}
use Rattle.played_rows.proofs.RevelationLemmas.SceneLemmas.{class-loaded, few-methods}
use Rattle.played_rows.proofs.revelation.looking.methods_begun.Goals as goal

pub targets-requires-clause-numbered : goal.targets-requires-clause-numbered
targets-requires-clause-numbered c = (runnable c.args.linker.now.program c.requires.admitted).fits.numbered

pub targets-requires-clause-few : goal.targets-requires-clause-few
targets-requires-clause-few c = few-methods c.args.linker.now.program c.requires.admitted

pub targets-requires-clause-codes : goal.targets-requires-clause-codes
targets-requires-clause-codes c = (runnable c.args.linker.now.program c.requires.admitted).fits.codes

pub targets-requires-clause-fit : goal.targets-requires-clause-fit
targets-requires-clause-fit c = (runnable c.args.linker.now.program c.requires.admitted).fit

pub targets-requires-clause-root : goal.targets-requires-clause-root
targets-requires-clause-root c = c.requires.root

pub targets-requires-clause-class : goal.targets-requires-clause-class
targets-requires-clause-class c = class-loaded c.args.linker.now.program c.args.linker.now.loaded c.args.method c.requires.class

pub returns : goal.returns
returns c =
    if-targets c.args.linker.now.program c.args.linker.now.loaded c.args.method c.targets.result c.targets.ensures.rising c.targets.ensures.targets
