-- with the pairs that are left it is the whole
use Rattle.std.proofs.Common.{◌≡◌, ◌++◌, drop}
use Rattle.std.specs.Prelude.{zip}
use Rattle.std.specs.List.{flat_map}
use Rattle.std.specs.Option.{option_copied}
use Rattle.code_model.specs.Layout.{pair_bytes, home_by}
use Rattle.code_model.proofs.spelling.put_pairs.Given as goal

abbrev pub invariant-loop-row : goal.invariant-loop-row
invariant-loop-row l =
    l.out ++ flat_map (pair_bytes (home_by (option_copied l.homes)) l.place) (zip (drop l.row l.keys) (drop l.row l.targets))
    ≡ l.fn.out ++ flat_map (pair_bytes (home_by (option_copied l.homes)) l.place) (zip l.keys l.targets)
