use Rattle.std.specs.Prelude.{IfOk}
use Rattle.std.proofs.Common.{◌≡◌, ap, subst, sym, ◌∙◌}
use Rattle.jvm_model.specs.declared.program.Program.{Program}
use Rattle.jvm_model.specs.Profiling.Revealed.{changed_of, marks_of}
use Rattle.call_revelation.specs.Reveals.{IsRevelation, now_of}
use Rattle.played_rows.proofs.RevelationLemmas.ToldLemmas.{told-begins, told-changed, told-marks, told-selected, told-selects}
use Rattle.played_rows.proofs.revelation.looking.fact_told.Goals as goal

pub marks-requires : goal.marks-requires
marks-requires c = c.in_ok-follow.ensures.ready

pub returns-in_ok-marks-in-Marks-clause-answered : goal.returns-in_ok-marks-in-Marks-clause-answered
returns-in_ok-marks-in-Marks-clause-answered c =
    told-marks c.args.linker.now c.args.reveal.now c.follow.new.reveal c.in_ok-follow.ensures c.args.fact.now c.in-Marks.field-0 c.in_ok-marks-in-Marks.field-0
    c.in-Marks.is c.in_ok-marks-in-Marks.ensures

pub returns-in_ok-marks-in-Marks-clause-followed : goal.returns-in_ok-marks-in-Marks-clause-followed
returns-in_ok-marks-in-Marks-clause-followed c = c.in_ok-follow.ensures

pub changed-requires : goal.changed-requires
changed-requires c = subst (λ (p : Program). IsRevelation p c.follow.new.reveal) (sym c.program.ensures) c.in_ok-follow.ensures.ready.along.revelation

pub returns-in_ok-changed-in-Changed-clause-answered : goal.returns-in_ok-changed-in-Changed-clause-answered
returns-in_ok-changed-in-Changed-clause-answered c =
    let p = c.args.linker.now.program in
    let now = now_of c.follow.new.reveal in
    let same = c.program.ensures in
    told-changed c.args.linker.now c.args.reveal.now c.follow.new.reveal c.in_ok-follow.ensures c.args.fact.now c.in-Changed.field-0
    c.in_ok-changed-in-Changed.field-0 c.in-Changed.is
    (λ before shown. subst (λ found. IfOk found (λ cs. cs ≡ changed_of p before now)) c.in_ok-changed-in-Changed.was
    (subst (λ (q : Program). IfOk c.changed.result (λ cs. cs ≡ changed_of q before now)) same
    (c.changed.ensures before (shown ∙ ap (λ (q : Program). marks_of q before) (sym same)))))

pub returns-in_ok-changed-in-Changed-clause-followed : goal.returns-in_ok-changed-in-Changed-clause-followed
returns-in_ok-changed-in-Changed-clause-followed c = c.in_ok-follow.ensures

pub methods_begun-requires-clause-admitted : goal.methods_begun-requires-clause-admitted
methods_begun-requires-clause-admitted c = c.in_ok-follow.ensures.ready.along.admitted

pub methods_begun-requires-clause-root : goal.methods_begun-requires-clause-root
methods_begun-requires-clause-root c = c.in_ok-follow.ensures.ready.root

pub returns-in_ok-methods_begun-in-Begins-clause-answered : goal.returns-in_ok-methods_begun-in-Begins-clause-answered
returns-in_ok-methods_begun-in-Begins-clause-answered c =
    told-begins c.args.linker.now c.args.reveal.now c.follow.new.reveal c.in_ok-follow.ensures c.args.fact.now c.in-Begins.method c.in-Begins.field-1
    c.in_ok-methods_begun-in-Begins.field-0 c.in-Begins.is c.in_ok-methods_begun-in-Begins.ensures

pub returns-in_ok-methods_begun-in-Begins-clause-followed : goal.returns-in_ok-methods_begun-in-Begins-clause-followed
returns-in_ok-methods_begun-in-Begins-clause-followed c = c.in_ok-follow.ensures

pub returns-in-IsSelected-clause-answered : goal.returns-in-IsSelected-clause-answered
returns-in-IsSelected-clause-answered c =
    told-selected c.args.linker.now c.args.reveal.now c.follow.new.reveal c.in_ok-follow.ensures c.args.fact.now c.in-IsSelected.method c.in-IsSelected.field-1
    c.is_selected.result c.in-IsSelected.is c.is_selected.ensures

pub returns-in-IsSelected-clause-followed : goal.returns-in-IsSelected-clause-followed
returns-in-IsSelected-clause-followed c = c.in_ok-follow.ensures

pub returns-in-SelectsAny-clause-answered : goal.returns-in-SelectsAny-clause-answered
returns-in-SelectsAny-clause-answered c =
    told-selects c.args.linker.now c.args.reveal.now c.follow.new.reveal c.in_ok-follow.ensures c.args.fact.now c.in-SelectsAny.field-0 c.selects.result
    c.in-SelectsAny.is c.selects.ensures

pub returns-in-SelectsAny-clause-followed : goal.returns-in-SelectsAny-clause-followed
returns-in-SelectsAny-clause-followed c = c.in_ok-follow.ensures
