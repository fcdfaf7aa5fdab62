-- the copies so far
use Rattle.std.proofs.Common.{◌≡◌, take}
use Rattle.inject_events.proofs.copying.copy_attributes.Given as goal

abbrev pub invariant-loop-attribute : goal.invariant-loop-attribute
invariant-loop-attribute l = l.copies ≡ take l.attribute-index l.attributes
