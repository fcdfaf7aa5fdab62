use Rattle.std.proofs.Common.{ap, subst, sym, ◌∙◌}
use Rattle.jvm_model.specs.declared.program.Program.{Program}
use Rattle.jvm_model.specs.Profiling.Revealed.{mark_of, marks_of}
use Rattle.call_revelation.specs.Reveals.{IsRevelation, now_of}
use Rattle.played_rows.proofs.RevelationLemmas.LookLemmas.{marks-all, marks-first, marks-next}
use Rattle.played_rows.proofs.revelation.looking.marks.Goals as goal

pub loop-method-init : goal.loop-method-init
loop-method-init c =
    marks-first c.args.linker.now.program (now_of c.args.reveal.now) c.new-marks.result c.as_slice-places.result.now c.new-marks.ensures
    (c.as_slice-places.ensures ∙ ap (λ (p : Program). p.methods) c.program-program.ensures)

pub loop-method-preserved : goal.loop-method-preserved
loop-method-preserved c =
    let p = c.args.linker.now.program in
    let now = now_of c.args.reveal.now in
    let same = c.program-program.ensures in
    marks-next p now c.loop-method.marks c.push.new.self c.mark.result c.as_slice-places.result.now c.loop-method.method (marks_of p now) c.loop-method-test.true
    c.in_ok-push.ensures.items
    (c.mark.ensures (subst (λ (p : Program). IsRevelation p c.args.reveal.now) (sym same) c.requires.along.revelation) ∙ ap (λ (p : Program). mark_of p now c.loop-method.method) same)
    c.loop-method.invariant

pub returns : goal.returns
returns c =
    let p = c.args.linker.now.program in
    let now = now_of c.args.reveal.now in
    marks-all p now c.loop-method.marks c.as_slice-places.result.now c.loop-method.method (marks_of p now) c.loop-method-test.false c.loop-method.invariant
