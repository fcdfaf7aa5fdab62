-- the handlers so far
use Rattle.std.proofs.Common.{◌≡◌, take}
use Rattle.std.specs.Prelude.{map}
use Rattle.jvm_model.specs.Rewriting.Versions.{moved_handler}
use Rattle.inject_events.proofs.versions.version_handlers.Given as goal

abbrev pub invariant-loop-handler : goal.invariant-loop-handler
invariant-loop-handler l = l.moved ≡ map (moved_handler l.homes) (take l.handler-index l.handlers)
