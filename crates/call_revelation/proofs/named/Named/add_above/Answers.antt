use Rattle.std.proofs.Common.{ap, arith, get_or, ◌∙◌}
use Rattle.std.specs.Prelude.{flat_map, ◌||◌}
use Rattle.jvm_model.specs.Classes.Load.{is_among}
use Rattle.class_index.specs.Orders.{with_classes}
use Rattle.possible_callees.specs.Tables.{list_at}
use Rattle.possible_callees.proofs.Numbers.Adding.{adds-equal}
use Rattle.possible_callees.proofs.References.TargetLemmas.{all-added, next-added}
use Rattle.call_revelation.proofs.named.Named.add_above.Goals as goal

pub loop-class-preserved : goal.loop-class-preserved
loop-class-preserved c = λ m.
    let f = list_at c.args.self.now.above.items in
    let i = c.loop-class.class-index in
    next-added f c.args.classes.now i 0 c.loop-class.found c.add_all.new.self m
    (is_among m c.args.found.now || is_among m (flat_map f c.args.classes.now)) c.loop-class-test.true
    (adds-equal c.loop-class.found c.add_all.new.self (f (get_or c.args.classes.now i 0))
    (c.in_ok-add_all.ensures.added ∙ ap (with_classes c.loop-class.found) c.above.ensures)) (c.loop-class.invariant m)

pub returns : goal.returns
returns c = λ m.
    let f = list_at c.args.self.now.above.items in
    all-added f c.args.classes.now c.loop-class.class-index c.loop-class.found m (is_among m c.args.found.now || is_among m (flat_map f c.args.classes.now))
    (omega (arith, c.loop-class-test.false)) (c.loop-class.invariant m)
