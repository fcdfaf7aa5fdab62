-- none of the handlers so far covers the place
use Rattle.std.proofs.Common.{◌≡◌, drop}
use Rattle.std.specs.Prelude.{map}
use Rattle.jvm_model.specs.Running.Moves.{handler_for}
use Rattle.prepared_code.specs.Versions.{catcher_in}
use Rattle.activations.proofs.handlers.target_among.Given as goal

abbrev pub invariant-loop-handler : goal.invariant-loop-handler
invariant-loop-handler l =
    handler_for l.runtime.world l.class l.place (map catcher_in (drop l.handler-index l.handlers)) ≡ handler_for l.runtime.world l.class l.place (map catcher_in l.handlers)
