use Rattle.std.proofs.Common.{subst}
use Rattle.played_rows.specs.Revelation.Scenes.{IsAnswered}
use Rattle.played_rows.proofs.RevelationLemmas.RowLemmas.{fact-differs, fact-holds, untold}
use Rattle.played_rows.proofs.revelation.playing.look.Goals as goal

pub returns-then-is_same : goal.returns-then-is_same
returns-then-is_same c =
    let l = c.args.linker.now in
    let r = c.args.reveal.now in
    fact-holds c.args.fact.now c.in-Some.came l r c.fact_told.new.reveal c.in_ok-came.ensures.followed
    (subst (IsAnswered l r c.args.fact.now) c.in-Some.is c.in_ok-came.ensures.answered) (c.is_same.ensures.same c.if-is_same.true)

pub returns-else-is_same : goal.returns-else-is_same
returns-else-is_same c =
    let l = c.args.linker.now in
    let r = c.args.reveal.now in
    fact-differs c.args.fact.now c.in-Some.came l r (subst (IsAnswered l r c.args.fact.now) c.in-Some.is c.in_ok-came.ensures.answered)
    (c.is_same.ensures.other c.if-is_same.false)

pub returns-in-None : goal.returns-in-None
returns-in-None c =
    let l = c.args.linker.now in
    let r = c.args.reveal.now in
    untold c.args.fact.now l r (subst (IsAnswered l r c.args.fact.now) c.in-None.is c.in_ok-came.ensures.answered)
