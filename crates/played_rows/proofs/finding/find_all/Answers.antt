use Rattle.std.proofs.Common.{sym, ◌∙◌}
use Rattle.played_rows.proofs.FoundLemmas.{found-more, found-none}
use Rattle.played_rows.proofs.finding.find_all.Goals as goal

pub returns-in-None : goal.returns-in-None
returns-in-None g c =
    found-none (g.L.LookUp.found c.args.by.now) (λ w. w.now) c.args.words.now c.loop-word.word-index _ c.loop-word-test.true c.loop-word.all _
    c.loop-word.invariant (sym c.in_ok-found.ensures ∙ c.in-None.is)

pub loop-word-preserved : goal.loop-word-preserved
loop-word-preserved g c =
    found-more (g.L.LookUp.found c.args.by.now) (λ w. w.now) c.args.words.now c.loop-word.word-index _ c.loop-word-test.true c.loop-word.all _
    c.loop-word.invariant c.in-Some.found _ (sym c.in_ok-found.ensures ∙ c.in-Some.is) c.in_ok-push-in-Some.ensures.items
