use Rattle.std.proofs.Common.{◌≡◌, ◌++◌, ◌-◌, take, replicate}
use Rattle.native_effects.proofs.effects.making.units_resized.Given as goal

abbrev pub invariant-loop : goal.invariant-loop
invariant-loop l = l.made ≡ take l.kept l.fn.units ++ replicate (l.counter - l.kept) 0
