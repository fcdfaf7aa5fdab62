use Rattle.std.proofs.Common.{◌≡◌, ◌++◌, sym, subst, take, slice_index_or, ◌∙◌, arith}
use Rattle.std.proofs.lemmas.List.{take_more}
use Rattle.method_versions.specs.Tables.{held_but, held_in}
use Rattle.method_versions.proofs.Releasing.{but-one}
use Rattle.method_versions.proofs.versions.drop_unpinned.Goals as goal

pub loop-number-preserved : goal.loop-number-preserved
loop-number-preserved g c =
    let i = c.loop-number.number-index in
    let more = take_more c.args.numbers.now i 0 c.loop-number-test.true in
    let slots = c.args.first.now.items ++ c.args.later.now.slots in (
      (λ k. subst (λ seen. held_in (c.drop_free.new.first.items ++ c.drop_free.new.later.slots) k ≡ held_but seen c.args.frames.now.frames slots k) (sym more)
          (but-one c.args.frames.now.frames slots (take i c.args.numbers.now) (slice_index_or c.args.numbers.now i 0)
          (c.loop-number.first.items ++ c.loop-number.later.slots) (c.drop_free.new.first.items ++ c.drop_free.new.later.slots)
          c.loop-number.invariant.0 c.drop_free.ensures.held k)),
      c.drop_free.ensures.first ∙ c.loop-number.invariant.1,
      c.drop_free.ensures.later ∙ c.loop-number.invariant.2,
      c.drop_free.ensures.capacity ∙ c.loop-number.invariant.3,
      omega (arith, c.drop_free.ensures.fewer, c.loop-number.invariant.4),
    )
