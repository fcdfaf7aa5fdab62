use Rattle.std.proofs.Common.{ap, sym, subst, ◌∙◌}
use Rattle.jvm_model.specs.declared.program.Program.{Program}
use Rattle.jvm_model.specs.Profiling.Revealed.{marks_of}
use Rattle.call_revelation.specs.Reveals.{IsRevelation}
use Rattle.profile_session.specs.Parts.{revealed_in}
use Rattle.profile_session.specs.Swapping.{AreKnown}
use Rattle.profile_session.proofs.Points.Points.{shown-by}
use Rattle.profile_session.proofs.Swaps.SwappedClasses.{changed-equal, changed-known, changed-shown, swapped-program}
use Rattle.profile_session.proofs.parts.Parts.show.Goals as goal

pub changed-requires : goal.changed-requires
changed-requires c = subst (λ (p : Program). IsRevelation p c.args.self.now.reveal) (sym c.program.ensures) c.requires.fit.revelation

pub swap_all-requires-clause-known : goal.swap_all-requires-clause-known
swap_all-requires-clause-known c =
    let x = c.args.self.now in
    let p = x.vm.program in
    let able = c.requires.showable in
    subst (AreKnown p)
    (sym (c.as_slice-classes.ensures
    ∙ (changed-equal p c.program.result.now x.reveal.shown able.before (revealed_in x) c.in_ok-changed.changed c.program.ensures able.shown c.in_ok-changed.ensures
    ∙ sym (changed-shown p x.reveal.shown able.before (revealed_in x) able.shown))))
    (changed-known p c.requires.fit.imageable.numbered_are x.reveal.shown (revealed_in x))

pub show-requires : goal.show-requires
show-requires c =
    let x = c.args.self.now in
    let same = swapped-program x.vm.program (revealed_in x) c.as_slice-classes.result.now x.vm c.swap_all.new.vm x.swaps c.swap_all.new.swaps c.in_ok-swap_all.ensures in
    subst (λ (p : Program). IsRevelation p x.reveal) (sym (c.program-2.ensures ∙ same)) c.requires.fit.revelation

pub returns : goal.returns
returns c =
    let x = c.args.self.now in
    let able = c.requires.showable in
    let same = c.program-2.ensures
    ∙ swapped-program x.vm.program (revealed_in x) c.as_slice-classes.result.now x.vm c.swap_all.new.vm x.swaps c.swap_all.new.swaps c.in_ok-swap_all.ensures in
    shown-by x c.swap_all.new.vm c.show.new.self c.swap_all.new.swaps c.as_slice-classes.result.now c.requires.fit able
    (c.as_slice-classes.ensures
    ∙ changed-equal x.vm.program c.program.result.now x.reveal.shown able.before (revealed_in x) c.in_ok-changed.changed c.program.ensures able.shown c.in_ok-changed.ensures)
    c.in_ok-swap_all.ensures (subst (λ (p : Program). IsRevelation p c.show.new.self) same c.show.ensures.revelation) c.show.ensures.now
    (c.show.ensures.shown ∙ ap (λ (p : Program). marks_of p (revealed_in x)) same)
