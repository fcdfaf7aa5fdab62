use Rattle.std.proofs.Common.{◌<◌, ◌++◌, ◌∙◌, [], length, take, sym, ap, arith}
use Rattle.std.specs.List.{flat_map}
use Rattle.std.specs.Option.{option_map_or}
use Rattle.const_pool.specs.Pool.{u2, entry_at, entry_bytes}
use Rattle.class_writer.specs.Room.{room}
use Rattle.class_writer.proofs.Pools.{entries_more, room_grown}
use Rattle.class_writer.proofs.room.pool_len.Goals as goal

pub loop-index-preserved : goal.loop-index-preserved
loop-index-preserved c =
    let pool = c.args.pool.now in
    let i = c.loop-index.index in
    let lt : i < length pool = omega (arith, c.loop-index-test.true, c.count-index-end.ensures.count) in
    let front = u2 (length pool) in
    room_grown front (flat_map entry_bytes (take i pool)) (option_map_or entry_bytes (entry_at pool i) []) c.loop-index.len c.entry_len_at.result c.saturating_add-len.result c.loop-index.invariant c.entry_len_at.ensures c.saturating_add-len.ensures
    ∙ ap (λ bytes. room (front ++ bytes)) (sym (entries_more pool i lt))
