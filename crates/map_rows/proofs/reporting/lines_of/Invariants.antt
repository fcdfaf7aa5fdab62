-- the lines so far, and those of the names that are left, are those of all names
use Rattle.std.proofs.Common.{◌≡◌, ◌++◌, drop, map, string_bytes}
use Rattle.std.specs.List.{flat_map}
use Rattle.map_rows.specs.Reporting.{line_of}
use Rattle.map_rows.proofs.reporting.lines_of.Given as goal

abbrev pub invariant-loop-name : goal.invariant-loop-name
invariant-loop-name l =
    flat_map line_of (map (λ n. n.now) l.names)
    ≡ string_bytes l.text ++ flat_map line_of (map (λ n. n.now) (drop l.name-index l.names))
