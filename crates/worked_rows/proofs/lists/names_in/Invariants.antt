use Rattle.std.proofs.Common.{◌≡◌, ◌++◌, drop, map}
use Rattle.worked_rows.specs.Lists.{names_in}
use Rattle.worked_rows.proofs.lists.names_in.Given as goal

abbrev pub invariant-loop-line : goal.invariant-loop-line
invariant-loop-line l =
    map (λ n. n.now) l.names.items ++ names_in (map (λ x. x.now) (drop l.line-index l.lines)) ≡ names_in (map (λ x. x.now) l.lines)
