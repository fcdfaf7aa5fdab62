use Rattle.std.proofs.Common.{◌≤◌, ◌∙◌, ap, length, subst, sym}
use Rattle.jvm_model.specs.Profiling.Swaps.{first_number}
use Rattle.jvm_model.specs.Rewriting.Images.{IsImage}
use Rattle.inject_events.specs.Answers.{MarkedHaveCode}
use Rattle.played_rows.proofs.MachineLemmas.Images.{few-methods, fits-no-marks, image-file, readable}
use Rattle.played_rows.proofs.machine.installing.image_of.Goals as goal

pub first_number-first-requires : goal.first_number-first-requires
first_number-first-requires c = subst (λ p. length p.methods ≤ 32768) (sym c.program.ensures) (few-methods c.args.vm.now.program c.requires.admitted)

pub instrument-requires-clause-class : goal.instrument-requires-clause-class
instrument-requires-clause-class c = readable c.args.vm.now.program c.args.class c.in-Some.original.now c.requires.admitted (sym c.in-Some.ensures)

pub returns-in-Ok-clause-image : goal.returns-in-Ok-clause-image
returns-in-Ok-clause-image c = image-file c.args.vm.now.program c.args.class c.args.marks.now c.in-Some.original.now c.in-Ok.image.class c.in-Ok.image.homes c.requires.admitted (sym c.in-Some.ensures) (c.if-marks-len.false ∙ c.len.ensures)
    (subst (MarkedHaveCode c.args.marks.now) c.as_slice.ensures (c.marked_have_code.ensures.have c.if-not-marked_have_code.false))
    (subst (λ n. MarkedHaveCode c.args.marks.now c.in-Some.original.now.methods → IsImage c.in-Some.original.now n c.args.marks.now c.in-Ok.image.class c.in-Ok.image.homes)
    (c.first_number-first.ensures.number ∙ ap (λ p. first_number p c.args.class) c.program.ensures) c.in-Ok.ensures.image)
    c.in-Ok.ensures.formed

pub returns-then-marks-len-clause-unfit : goal.returns-then-marks-len-clause-unfit
returns-then-marks-len-clause-unfit c =
    fits-no-marks c.args.vm.now.program c.args.class c.args.marks.now c.in-Some.original.now (sym c.in-Some.ensures) (λ counted coded. c.if-marks-len.true (counted ∙ sym c.len.ensures))

pub returns-then-not-marked_have_code-clause-unfit : goal.returns-then-not-marked_have_code-clause-unfit
returns-then-not-marked_have_code-clause-unfit c =
    fits-no-marks c.args.vm.now.program c.args.class c.args.marks.now c.in-Some.original.now (sym c.in-Some.ensures)
    (λ counted coded. c.marked_have_code.ensures.lack c.if-not-marked_have_code.true (subst (MarkedHaveCode c.args.marks.now) (sym c.as_slice.ensures) coded))
