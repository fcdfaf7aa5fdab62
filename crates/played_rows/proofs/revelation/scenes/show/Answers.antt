use Rattle.std.proofs.Common.{ap, subst, sym, ◌∙◌}
use Rattle.jvm_model.specs.declared.program.Program.{Program}
use Rattle.jvm_model.specs.Profiling.Revealed.{marks_of}
use Rattle.call_revelation.specs.Reveals.{IsRevelation, now_of}
use Rattle.played_rows.proofs.RevelationLemmas.HappeningLemmas.{shows}
use Rattle.played_rows.proofs.revelation.scenes.show.Goals as goal

pub show-requires : goal.show-requires
show-requires c = subst (λ (p : Program). IsRevelation p c.follow.new.reveal) (sym c.program.ensures) c.in_ok-follow.ensures.ready.along.revelation

pub returns : goal.returns
returns c =
    let same = c.program.ensures in
    shows c.args.linker.now c.args.reveal.now c.follow.new.reveal c.show.new.self c.in_ok-follow.ensures
    (subst (λ (p : Program). IsRevelation p c.show.new.self) same c.show.ensures.revelation) c.show.ensures.now
    (c.show.ensures.shown ∙ ap (λ (p : Program). marks_of p (now_of c.follow.new.reveal)) same)
