use Rattle.possible_callees.proofs.Classes.RankLemmas.{padded-more}
use Rattle.possible_callees.proofs.tables.make_room.Goals as goal

pub loop-item-preserved : goal.loop-item-preserved
loop-item-preserved g c = padded-more c.args.item c.args.items.now c.loop-item.items c.push.new.self c.loop-item.invariant c.in_ok-push.ensures.items
