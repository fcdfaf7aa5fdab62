-- the table that is added stands behind the others
use Rattle.inject_events.proofs.Tabling.{with-added}
use Rattle.inject_events.proofs.tables.version_tables.Goals as goal

pub returns : goal.returns
returns c =
    with-added c.args.setting.now c.args.homes.now c.args.end c.args.raws.now c.in_ok-tables.tables c.push.new.self c.in_ok-added_table.field-0 c.lacks_frames.result
    c.lacks_frames.ensures c.if-not-lacks_frames.false c.in_ok-tables.ensures c.in_ok-added_table.ensures c.in_ok-push.ensures.items
