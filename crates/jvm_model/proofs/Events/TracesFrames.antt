-- Each frame is one live activation of its method; and the events of a step are told by the methods of its frames.
use Rattle.std.proofs.Common.{◌≡◌, ℕ}
use Rattle.jvm_model.specs.Basis.Data.{Listing, World}
use Rattle.jvm_model.specs.Running.Run.{turn_in}
use Rattle.jvm_model.specs.Running.Changes.{methods}
use Rattle.jvm_model.specs.Profiling.Activations.{trace_in}
use Rattle.jvm_model.proofs.Events.Methods.{step-tells, start-tells}
use Rattle.jvm_model.proofs.Events.Traces.{live_methods, FramesFollow, live-follow}

pub frames-follow : (w : World) (t : Listing) → FramesFollow w t
frames-follow w t = record { starts = start-tells w t; steps = step-tells w t }

-- The live activations are the frames, one for one, each of its frame's method.
pub live-frames : (w : World) (t : Listing) (n : ℕ) → live_methods (trace_in w t n) ≡ methods (turn_in w t n).after.stack
live-frames w t n = live-follow w t (frames-follow w t) n
