-- Invocation over the parts of a machine (JVM Specification 2.6, 5.5, 6.5).
use Rattle.std.specs.Prelude.{ℕ, Bool, List, None, length, nat_lt, if◌then◌else◌}
use Rattle.frame_stack.specs.FrameLists.{PlacedFrame}
use Rattle.jvm_model.specs.declared.state.State.{State}
use Rattle.jvm_model.specs.Running.Applies.{most_live}
use Rattle.jvm_model.specs.declared.exception.Exception.TheVariants.{StackOverflow}
use Rattle.prepared_code.specs.declared.parts.Parts.{Parts}
use Rattle.activations.specs.Applied.{run_ended, raising}
use Rattle.activations.specs.Arguments.{with_begun}
use Rattle.prepared_code.specs.States.{state_with}
use Rattle.prepared_code.specs.Versions.{Setup}

-- one more activation may be live beside these
abbrev pub may_begin : List PlacedFrame → Bool
may_begin fs = nat_lt (length fs) most_live

-- A method is invoked on these frames with so many operands, by whether there may be one activation more, and whether
-- they fit: it begins, or is one too many, or the run ends.
abbrev pub method_called : Setup → ℕ → ℕ → ℕ → ℕ → List PlacedFrame → Parts → Bool → Bool → State
method_called w method own callee count fs p few fits =
    if fits
    then if few then state_with (with_begun fits w callee count fs) p else state_with fs (raising w.world StackOverflow None p)
    else state_with fs (run_ended method own p)
