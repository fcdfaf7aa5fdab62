use Rattle.std.proofs.Common.{arith}
use Rattle.std.specs.Prelude.{flat_map, ◌||◌}
use Rattle.jvm_model.specs.Classes.Load.{is_among}
use Rattle.possible_callees.proofs.References.TargetLemmas.{all-added, next-added}
use Rattle.call_revelation.specs.Books.{called_from}
use Rattle.call_revelation.proofs.reveal.Reveal.add_calls_above.Goals as goal

pub loop-class-preserved : goal.loop-class-preserved
loop-class-preserved c = λ m.
    let r = c.args.self.now in
    let f = called_from c.args.linker.now.program r.lineage.loaded c.args.new r.entered r.book.codes r.book.calls.items in
    next-added f c.args.classes.now c.loop-class.class-index 0 c.loop-class.found c.add_calls_from.new.found m
    (is_among m c.args.found.now || is_among m (flat_map f c.args.classes.now)) c.loop-class-test.true c.in_ok-add_calls_from.ensures (c.loop-class.invariant m)

pub returns : goal.returns
returns c = λ m.
    let r = c.args.self.now in
    let f = called_from c.args.linker.now.program r.lineage.loaded c.args.new r.entered r.book.codes r.book.calls.items in
    all-added f c.args.classes.now c.loop-class.class-index c.loop-class.found m (is_among m c.args.found.now || is_among m (flat_map f c.args.classes.now))
    (omega (arith, c.loop-class-test.false)) (c.loop-class.invariant m)
