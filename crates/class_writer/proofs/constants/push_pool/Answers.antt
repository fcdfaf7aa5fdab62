use Rattle.std.proofs.Common.{◌<◌, ◌++◌, ◌∙◌, [], length, take, sym, ap, arith}
use Rattle.std.specs.List.{flat_map}
use Rattle.std.specs.Option.{option_map_or}
use Rattle.const_pool.specs.Pool.{u2, entry_at, entry_bytes}
use Rattle.class_writer.proofs.Pools.{entries_more, grown}
use Rattle.class_writer.proofs.constants.push_pool.Goals as goal

pub loop-index-preserved : goal.loop-index-preserved
loop-index-preserved c =
    let pool = c.args.pool.now in
    let i = c.loop-index.index in
    let lt : i < length pool = omega (arith, c.loop-index-test.true, c.count-count.ensures.count) in
    let start = c.args.out.now.items in
    let front = u2 (length pool) in
    grown start front (flat_map entry_bytes (take i pool)) (option_map_or entry_bytes (entry_at pool i) []) c.loop-index.out.items c.push_entry_at.new.out.items c.loop-index.invariant c.in_ok-push_entry_at.ensures
    ∙ ap (λ bytes. start ++ (front ++ bytes)) (sym (entries_more pool i lt))
