use Rattle.std.proofs.Common.{◌-◌, ◌+◌, ◌<◌, ◌≤◌, ◌∷◌, [], arith, length, length-append, ltb}
use Rattle.std.proofs.lemmas.Result.{err_from_is_err_and}
use Rattle.const_pool.specs.declared.pool.Const.TheVariants.{Gap}
use Rattle.class_reader.specs.Reading.{with_front, entries_at, entry_gapped}
use Rattle.class_reader.proofs.EntryLists.{goes_on, ends, is_done}
use Rattle.class_reader.proofs.pool.entries_of.Goals as goal

pub returns-in_err-entry-clause-entries : goal.returns-in_err-entry-clause-entries
returns-in_err-entry-clause-entries c =
    let lt : length c.loop-alloc.entries.items < c.args.count = omega (arith, c.len.ensures, c.from.ensures, c.loop-alloc-test.true) in
    let p = err_from_is_err_and c.from_residual-in_err-entry.result c.from_residual-in_err-entry.ensures.1 in
    rw (p.1, p.2) (ends c.args.limit c.in_err-entry.field-0.0 c.loop-alloc.entries.items c.args.count c.loop-alloc.rest.now (with_front (Gap ∷ []) (entries_at (c.args.count - 1) c.args.limit c.args.bytes.now)) lt c.in_err-entry.ensures c.loop-alloc.invariant.joined)

pub loop-alloc-preserved : goal.loop-alloc-preserved
loop-alloc-preserved c =
    let lt : length c.loop-alloc.entries.items < c.args.count = omega (arith, c.len.ensures, c.from.ensures, c.loop-alloc-test.true) in
    let more = goes_on c.args.limit c.loop-alloc.entries.items c.args.count c.loop-alloc.rest.now c.in_ok-entry.entry c.in_ok-entry.after.now (with_front (Gap ∷ []) (entries_at (c.args.count - 1) c.args.limit c.args.bytes.now)) lt c.in_ok-entry.ensures c.loop-alloc.invariant.joined in
    let pushed = rw c.from-in-loop-alloc.ensures at c.in_ok-push_entry.ensures.pushed in
    record {
      some = rw pushed (omega (arith, c.loop-alloc.invariant.some, length-append c.loop-alloc.entries.items (entry_gapped c.in_ok-entry.entry (ltb (length c.loop-alloc.entries.items + 1) c.args.count))));
      within = omega (arith, c.from-in-loop-alloc.ensures, c.in_ok-push_entry.ensures.within);
      joined = rw pushed more;
    }

pub returns-clause-entries : goal.returns-clause-entries
returns-clause-entries c =
    let past : c.args.count ≤ length c.loop-alloc.entries.items = omega (arith, c.len.ensures, c.from.ensures, c.loop-alloc-test.false) in
    is_done c.args.limit c.loop-alloc.entries.items c.args.count c.loop-alloc.rest.now (with_front (Gap ∷ []) (entries_at (c.args.count - 1) c.args.limit c.args.bytes.now)) past c.loop-alloc.invariant.joined
