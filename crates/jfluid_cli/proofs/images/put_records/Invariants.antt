-- the records so far were put, and no put failed
use Rattle.std.proofs.Common.{◌≡◌, take}
use Rattle.std.specs.Io.KnownBytes.{append_known}
use Rattle.jfluid_cli.specs.Images.{swap_records}
use Rattle.jfluid_cli.proofs.images.put_records.Given as goal

pub record Puts (g : goal.Over) (l : goal.Live-loop-swap g) : Type 0 where
  pub put : g.G.Sink.taken l.images
      ≡ append_known (g.G.Sink.taken l.fn.images) (swap_records (take l.swap-index l.swaps))
  pub without_fault : g.G.Sink.faults l.images ≡ g.G.Sink.faults l.fn.images

abbrev pub invariant-loop-swap : goal.invariant-loop-swap
invariant-loop-swap g l = Puts g l
