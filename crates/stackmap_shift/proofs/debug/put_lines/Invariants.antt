-- with the lines that are left it is the whole
use Rattle.std.proofs.Common.{◌≡◌, ◌++◌, drop, map}
use Rattle.std.specs.List.{flat_map}
use Rattle.stackmap_shift.specs.DebugTables.{line_bytes, moved_line}
use Rattle.stackmap_shift.proofs.debug.put_lines.Given as goal

abbrev pub invariant-loop-line : goal.invariant-loop-line
invariant-loop-line l = l.out ++ flat_map line_bytes (map (moved_line l.homes) (drop l.line-index l.lines)) ≡ l.fn.out ++ flat_map line_bytes (map (moved_line l.homes) l.lines)
