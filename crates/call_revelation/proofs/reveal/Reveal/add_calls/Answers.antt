use Rattle.std.proofs.Common.{arith}
use Rattle.std.specs.Prelude.{flat_map, ◌||◌}
use Rattle.jvm_model.specs.Classes.Load.{is_among}
use Rattle.possible_callees.proofs.References.TargetLemmas.{all-added, next-added}
use Rattle.call_revelation.specs.Books.{called_by, of_entered, use_of}
use Rattle.call_revelation.proofs.reveal.Reveal.add_calls.Goals as goal

pub loop-u-preserved : goal.loop-u-preserved
loop-u-preserved c = λ m.
    let f = of_entered c.args.self.now.entered c.args.self.now.book.codes (called_by c.args.linker.now.program c.args.new c.args.class) in
    next-added f c.args.uses.now c.loop-u.u-index (use_of 0 0) c.loop-u.found c.add_call.new.found m
    (is_among m c.args.found.now || is_among m (flat_map f c.args.uses.now)) c.loop-u-test.true c.in_ok-add_call.ensures (c.loop-u.invariant m)

pub returns : goal.returns
returns c = λ m.
    let f = of_entered c.args.self.now.entered c.args.self.now.book.codes (called_by c.args.linker.now.program c.args.new c.args.class) in
    all-added f c.args.uses.now c.loop-u.u-index c.loop-u.found m (is_among m c.args.found.now || is_among m (flat_map f c.args.uses.now))
    (omega (arith, c.loop-u-test.false)) (c.loop-u.invariant m)
