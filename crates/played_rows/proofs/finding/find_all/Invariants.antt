-- what is found for the words that are left is put behind what was found
use Rattle.std.proofs.Common.{◌≡◌, ◌++◌, drop, map}
use Rattle.std.specs.Option.{option_map}
use Rattle.played_rows.specs.Words.{all_found}
use Rattle.played_rows.proofs.finding.find_all.Given as goal

abbrev pub invariant-loop-word : goal.invariant-loop-word
invariant-loop-word g l =
    option_map (λ more. l.all ++ more) (all_found (g.L.LookUp.found l.by) (map (λ w. w.now) (drop l.word-index l.words)))
    ≡ all_found (g.L.LookUp.found l.by) (map (λ w. w.now) l.words)
