-- the types so far, moved
use Rattle.std.proofs.Common.{◌≡◌, take}
use Rattle.stackmap_shift.specs.Moves.{moved_types}
use Rattle.stackmap_shift.proofs.moves.moved_types.Given as goal

abbrev pub invariant-loop-item : goal.invariant-loop-item
invariant-loop-item l = l.moved ≡ moved_types l.homes (take l.item-index l.types)
