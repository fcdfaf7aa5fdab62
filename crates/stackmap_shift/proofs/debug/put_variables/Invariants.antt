-- with the variables that are left it is the whole
use Rattle.std.proofs.Common.{◌≡◌, ◌++◌, drop, map}
use Rattle.std.specs.List.{flat_map}
use Rattle.stackmap_shift.specs.DebugTables.{variable_bytes, moved_variable}
use Rattle.stackmap_shift.proofs.debug.put_variables.Given as goal

abbrev pub invariant-loop-variable : goal.invariant-loop-variable
invariant-loop-variable l = l.out ++ flat_map variable_bytes (map (moved_variable l.homes) (drop l.variable-index l.variables)) ≡ l.fn.out ++ flat_map variable_bytes (map (moved_variable l.homes) l.variables)
