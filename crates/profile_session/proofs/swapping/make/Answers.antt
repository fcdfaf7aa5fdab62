use Rattle.std.proofs.Common.{◌≤◌, sym, ap, subst, ◌∙◌, refl, length}
use Rattle.inject_events.specs.Answers.{MarkedHaveCode}
use Rattle.call_revelation.specs.Reveals.{now_of}
use Rattle.profile_session.specs.Images.{class_in}
use Rattle.profile_session.specs.Swapping.{IsImaged}
use Rattle.profile_session.proofs.Swaps.Imaging.{few-methods, made-by, marks-are, marks-coded, marks-count}
use Rattle.profile_session.proofs.swapping.make.Goals as goal

pub marks_of-requires-clause-few : goal.marks_of-requires-clause-few
marks_of-requires-clause-few c = subst (λ n. n ≤ 65535) (sym c.method_count-count.ensures) (few-methods c.args.program.now c.requires.imageable c.args.class)

pub image_for-requires-clause-count : goal.image_for-requires-clause-count
image_for-requires-clause-count c =
    ap length (c.deref.ensures.value ∙ (c.in_ok-marks.ensures ∙ marks-are c.args.program.now (now_of c.args.reveal.now) c.args.class c.method_count-count.result c.method_count-count.ensures))
    ∙ marks-count c.args.program.now (now_of c.args.reveal.now) c.args.class

pub image_for-requires-clause-coded : goal.image_for-requires-clause-coded
image_for-requires-clause-coded c =
    subst (λ marks. MarkedHaveCode marks (class_in c.args.program.now c.args.class).methods)
    (sym (c.deref.ensures.value ∙ (c.in_ok-marks.ensures ∙ marks-are c.args.program.now (now_of c.args.reveal.now) c.args.class c.method_count-count.result c.method_count-count.ensures)))
    (marks-coded c.args.program.now (now_of c.args.reveal.now) c.requires.imageable.numbered_are c.args.class)

pub returns : goal.returns
returns c =
    made-by c.args.program.now (now_of c.args.reveal.now) c.args.class c.method_count-count.result
    (record { marks = c.in_ok-marks.marks; bytes = c.in_ok-bytes.bytes; homes = c.in_ok-image.field-0.homes }) c.in_ok-image.field-0
    c.method_count-count.ensures c.in_ok-marks.ensures
    (subst (λ marks. IsImaged c.args.program.now c.args.class marks c.in_ok-image.field-0) c.deref.ensures.value c.in_ok-image.ensures) refl c.in_ok-bytes.ensures.spelled
