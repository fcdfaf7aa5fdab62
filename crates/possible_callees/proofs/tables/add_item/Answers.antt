use Rattle.std.proofs.Common.{arith}
use Rattle.possible_callees.proofs.Numbers.TableLemmas.{is_with_item, nothing_past}
use Rattle.possible_callees.proofs.tables.add_item.Goals as goal

pub returns-in_ok-push : goal.returns-in_ok-push
returns-in_ok-push g c =
    is_with_item c.args.item c.args.number c.args.lists.now c.index-lists-number.result c.push.new.self (omega (arith, c.if-number-lists.true)) c.in_ok-push.ensures.items

pub returns-else-number-lists : goal.returns-else-number-lists
returns-else-number-lists g c = nothing_past c.args.item c.args.number c.args.lists.now (omega (arith, c.if-number-lists.false))
