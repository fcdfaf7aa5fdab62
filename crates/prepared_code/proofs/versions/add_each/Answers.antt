use Rattle.std.proofs.Common.{◌≡◌, ◌<◌, ◌∷◌, [], length, sym, subst, arith, rules}
use Rattle.std.proofs.lemmas.Iterator.Adapters.{YieldsList-from_vec}
use Rattle.std.proofs.lemmas.Iterator.Consumers.{YieldsList-turn}
use Rattle.std.proofs.lemmas.List.{length-append}
use Rattle.prepared_code.specs.Tables.{table_seen}
use Rattle.prepared_code.proofs.Tables.Added.{adds-count, adds-more, of-methods-at}
use Rattle.prepared_code.proofs.versions.add_each.Goals as goal

pub add-requires-clause-method : goal.add-requires-clause-method
add-requires-clause-method c =
    let turn = YieldsList-turn (YieldsList-from_vec c.args.more (search rules) (search rules)) c.loop-version.yielded c.loop-version.version-iterator c.loop-version.yielded_by c.next.result c.next.new.self c.in-Some.version c.in-Some.is c.next.ensures.steps in
    let count : length c.loop-version.table.current ≡ length c.args.table.now.current =
    adds-count c.args.frames.now.frames c.loop-version.yielded (table_seen c.args.table.now) (table_seen c.loop-version.table) c.loop-version.invariant.0 in
    subst (λ n. c.in-Some.version.method < n) (sym count)
    (subst (λ x. x.method < length c.args.table.now.current) (sym turn.1)
    (of-methods-at (length c.args.table.now.current) c.args.more (length c.loop-version.yielded) c.in-Some.version c.requires.methods turn.0))

pub loop-version-preserved : goal.loop-version-preserved
loop-version-preserved c = (
  adds-more c.args.frames.now.frames c.loop-version.yielded c.in-Some.version c.add.result (table_seen c.args.table.now) (table_seen c.loop-version.table) (table_seen c.add.new.self) c.loop-version.invariant.0
      (record { vacant = c.add.ensures.vacant; small = c.add.ensures.small; held = c.add.ensures.held; current = c.add.ensures.current }),
  omega (arith, c.loop-version.invariant.1, c.add.ensures.spare, length-append c.loop-version.yielded (c.in-Some.version ∷ [])),
)
