-- with the offsets of what is left it is the whole
use Rattle.std.proofs.Common.{◌≡◌, ◌++◌, drop}
use Rattle.std.specs.Int.{w32}
use Rattle.std.specs.List.{flat_map}
use Rattle.std.specs.Option.{option_copied}
use Rattle.code_model.specs.Layout.{target_bytes, home_by}
use Rattle.code_model.proofs.spelling.put_targets.Given as goal

abbrev pub invariant-loop-target : goal.invariant-loop-target
invariant-loop-target l = l.out ++ flat_map (target_bytes (home_by (option_copied l.homes)) l.place w32) (drop l.target-index l.targets) ≡ l.fn.out ++ flat_map (target_bytes (home_by (option_copied l.homes)) l.place w32) l.targets
