use Rattle.std.proofs.Common.{arith}
use Rattle.std.specs.Prelude.{flat_map, ◌||◌}
use Rattle.jvm_model.specs.Classes.Load.{is_among}
use Rattle.jvm_model.specs.Profiling.Targets.{begun_by}
use Rattle.possible_callees.proofs.References.TargetLemmas.{all-added, next-added}
use Rattle.call_revelation.specs.Books.{of_entered, use_of}
use Rattle.call_revelation.proofs.reveal.Reveal.add_all_waiting.Goals as goal

pub loop-u-preserved : goal.loop-u-preserved
loop-u-preserved c = λ m.
    let f = of_entered c.args.self.now.entered c.args.self.now.book.codes (begun_by c.args.linker.now.program c.args.self.now.lineage.loaded) in
    next-added f c.args.uses.now c.loop-u.u-index (use_of 0 0) c.loop-u.found c.add_waiting.new.found m
    (is_among m c.args.found.now || is_among m (flat_map f c.args.uses.now)) c.loop-u-test.true c.in_ok-add_waiting.ensures (c.loop-u.invariant m)

pub returns : goal.returns
returns c = λ m.
    let f = of_entered c.args.self.now.entered c.args.self.now.book.codes (begun_by c.args.linker.now.program c.args.self.now.lineage.loaded) in
    all-added f c.args.uses.now c.loop-u.u-index c.loop-u.found m (is_among m c.args.found.now || is_among m (flat_map f c.args.uses.now))
    (omega (arith, c.loop-u-test.false)) (c.loop-u.invariant m)
