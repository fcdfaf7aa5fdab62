-- the classes so far were swapped
use Rattle.call_revelation.specs.Reveals.{now_of}
use Rattle.profile_session.proofs.Swaps.SwappedClasses.{AreSwapping}
use Rattle.profile_session.proofs.swapping.swap_all.Given as goal

abbrev pub invariant-loop-class : goal.invariant-loop-class
invariant-loop-class l = AreSwapping l.fn.vm (now_of l.reveal) l.classes l.class-index l.vm l.fn.swaps l.swaps
