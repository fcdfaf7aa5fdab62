-- none for each method so far
use Rattle.std.proofs.Common.{◌≡◌, take, None}
use Rattle.std.specs.Prelude.{map}
use Rattle.inject_events.proofs.image.no_homes.Given as goal

abbrev pub invariant-loop-method : goal.invariant-loop-method
invariant-loop-method l = l.homes ≡ map (λ m. None) (take l._method-index l.methods)
