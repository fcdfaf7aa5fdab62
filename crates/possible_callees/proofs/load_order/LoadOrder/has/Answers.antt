use Rattle.std.proofs.Common.{◌≡◌, rules, ◌∙◌}
use Rattle.std.specs.Prelude.{is_some}
use Rattle.possible_callees.specs.Ranks.{rank_of}
use Rattle.possible_callees.proofs.Classes.RankLemmas.{among-rank}
use Rattle.possible_callees.proofs.load_order.LoadOrder.has.Goals as goal

pub returns : goal.returns
returns c =
    let some : c.is_some.result ≡ is_some (rank_of c.args.class c.args.self.now) = search rules in
    some ∙ among-rank c.args.class c.args.self.now
