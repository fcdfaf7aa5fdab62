use Rattle.byte_streams.proofs.AdapterLemmas.{Appends-more, count-within}
use Rattle.byte_streams.proofs.standard.write_whole.Goals as goal

pub loop-written-preserved : goal.loop-written-preserved
loop-written-preserved g c = (
  count-within c.args.bytes.now _ _ c.loop-written.invariant.0 c.in_ok-count.ensures.within,
  Appends-more _ (g.W.Write.contents c.loop-written.writer) _ c.args.bytes.now _ _ c.loop-written.invariant.1 c.in_ok-count.ensures.prefix,
)
