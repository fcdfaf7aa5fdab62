use Rattle.std.proofs.Common.{ap, ◌∙◌}
use Rattle.jvm_model.specs.Profiling.Revealed.{marks_of}
use Rattle.program_fit.proofs.Runs.{runnable}
use Rattle.played_rows.proofs.RevelationLemmas.HappeningLemmas.{blank}
use Rattle.played_rows.proofs.revelation.scenes.blank_scene.Goals as goal

pub new-requires-clause-numbered : goal.new-requires-clause-numbered
new-requires-clause-numbered c = (runnable c.args.program c.requires).fits.numbered

pub new-requires-clause-few : goal.new-requires-clause-few
new-requires-clause-few c = (runnable c.args.program c.requires).fits.methods

pub new-requires-clause-short : goal.new-requires-clause-short
new-requires-clause-short c = (runnable c.args.program c.requires).fits.codes

pub new-requires-clause-fit : goal.new-requires-clause-fit
new-requires-clause-fit c = (runnable c.args.program c.requires).fit

pub show-requires : goal.show-requires
show-requires c = c.in_ok-reveal.ensures.revelation

pub new-requires-2 : goal.new-requires-2
new-requires-2 c = (runnable c.args.program c.requires).fits.linkable

pub returns-clause-blank : goal.returns-clause-blank
returns-clause-blank c =
    let p = c.args.program in
    let first = c.in_ok-reveal.ensures in
    blank p c.in_ok-linker.linker c.show.new.self c.requires c.in_ok-linker.ensures c.show.ensures.revelation
    (c.show.ensures.now ∙ first.now) (c.show.ensures.shown ∙ ap (marks_of p) first.now)

pub returns-clause-linker : goal.returns-clause-linker
returns-clause-linker c = c.in_ok-linker.ensures
