use Rattle.std.proofs.Common.{refl}
use Rattle.jvm_model.specs.Profiling.Revealed.{with_none_entered}
use Rattle.profile_session.specs.Parts.{revealed_in}
use Rattle.profile_session.proofs.Points.Points.{fit-of, point-of, reveals-same, showable-of}
use Rattle.profile_session.proofs.parts.Parts.quiet.Goals as goal

pub show-requires-clause-fit : goal.show-requires-clause-fit
show-requires-clause-fit c =
    let x = c.args.self.now in
    let r = with_none_entered (revealed_in x) in
    fit-of x c.quiet.new.self r c.requires.fit
    (reveals-same x c.quiet.new.self r (c.in_ok-quiet.ensures.revelation x.vm.program c.requires.fit.revelation) (c.in_ok-quiet.ensures.now x.vm.program c.requires.fit.revelation)
    c.in_ok-quiet.ensures.shown refl)

pub show-requires-clause-showable : goal.show-requires-clause-showable
show-requires-clause-showable c =
    let x = c.args.self.now in
    let r = with_none_entered (revealed_in x) in
    showable-of x c.quiet.new.self r c.requires.shown
    (reveals-same x c.quiet.new.self r (c.in_ok-quiet.ensures.revelation x.vm.program c.requires.fit.revelation) (c.in_ok-quiet.ensures.now x.vm.program c.requires.fit.revelation)
    c.in_ok-quiet.ensures.shown refl)

pub returns : goal.returns
returns c =
    let x = c.args.self.now in
    let r = with_none_entered (revealed_in x) in
    point-of x c.show.new.self c.quiet.new.self r c.requires.shown
    (reveals-same x c.quiet.new.self r (c.in_ok-quiet.ensures.revelation x.vm.program c.requires.fit.revelation) (c.in_ok-quiet.ensures.now x.vm.program c.requires.fit.revelation)
    c.in_ok-quiet.ensures.shown refl) c.in_ok-show.ensures
